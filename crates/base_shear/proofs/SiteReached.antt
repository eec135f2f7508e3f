-- The hazards of an allowed site and R are within reach: A of at most 1.5 g, B of at most 1.54 g.
-- Assumes nothing.
use Prim.Native.Nat.{ℕ, ◌≤◌}
use native.Mathlib.Omega.{arith}
use Rattle.limits.specs.Allowed.{AllowedSite}
use Rattle.limits.specs.declared.class.Class.{Class}
use Rattle.limits.specs.declared.site.Site.{Site}
use Rattle.site.specs.Coefficients.{factored}
use Rattle.site.specs.SiteHazards.{Mapped, design_hazard, mce_hazard, site_hazards}
use Rattle.site.proofs.Bounds.{a_bounds, b_bounds, s_s_bounds, s_1_bounds}
use Rattle.base_shear.specs.Ready.{Bounded, Reached}
use Rattle.base_shear.proofs.Ductilities.{design_ductile, mce_ductile}
use Rattle.base_shear.proofs.HazardsReached.{Sized, three_bounded, three_reached}

-- ---- A and B of mapped values and near-fault factors, with the capacity of an R
module _ (R : ℕ) (lo : 100 ≤ R) (hi : R ≤ 600) (c : Class) (ss s1 na nv : ℕ) (m : Mapped ss s1 na nv) where
  design_sized : Sized (design_hazard c ss s1 na nv R)
  design_sized =
      let s = s_s_bounds ss na m.s_s.0 m.s_s.1 m.n_a.0 m.n_a.1 in
      let t = s_1_bounds s1 nv m.s_1.0 m.s_1.1 m.n_v.0 m.n_v.1 in
      record {
        a = omega (arith, a_bounds c (factored ss na) s.0 s.1);
        b = omega (arith, b_bounds c (factored s1 nv) t.0 t.1);
        ductile = design_ductile R lo hi;
      }

  mce_sized : Sized (mce_hazard c ss s1 na nv R)
  mce_sized = record { a = design_sized.a; b = design_sized.b; ductile = mce_ductile R lo hi }

module _ (site : Site) (R : ℕ) (a : AllowedSite site) (lo : 100 ≤ R) (hi : R ≤ 600) where
  design : Sized (site_hazards site R).design
  design =
      design_sized R lo hi site.class _ _ _ _
      (record { s_s = omega (arith, a.ssd); s_1 = omega (arith, a.s1d); n_a = a.nad; n_v = a.nvd })

  mce : Sized (site_hazards site R).mce
  mce =
      mce_sized R lo hi site.class _ _ _ _
      (record { s_s = omega (arith, a.ssm); s_1 = omega (arith, a.s1m); n_a = a.nam; n_v = a.nvm })

  star : Sized (site_hazards site R).star
  star =
      design_sized R lo hi site.class _ _ _ _
      (record { s_s = omega (arith, a.ssd); s_1 = omega (arith, a.s1d); n_a = omega arith; n_v = omega arith })

  pub site_bounded : Bounded 1_125_000_000 (site_hazards site R)
  site_bounded = three_bounded _ _ _ 42 design mce star _ (omega arith) (omega arith)

  pub site_reached : Reached (site_hazards site R)
  site_reached = three_reached _ _ _ 42 design mce star (omega arith) (omega arith)
