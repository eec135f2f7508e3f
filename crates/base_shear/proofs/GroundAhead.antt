-- V is `Ahead` on every allowed ground: near-fault factors make no smaller A and B, and A of the design level without them is at most 0.8 g; in the Taipei
-- Basin V's hazard is V*'s own, with 0.6 g.
-- Assumes nothing.
use mathlib.Core.Path.{refl, ap}
use Prim.Native.Nat.{ℕ, ◌+◌, ◌*◌, ◌≤◌}
use native.Mathlib.Nat.{le_dest, mul-le-mul_left, mul-le-mul_right}
use native.Mathlib.Omega.{arith}
use Rattle.whole.specs.Fraction.{over}
use Rattle.whole.specs.Root.{lower_root}
use Rattle.whole.proofs.Root.{le_of_square, lower_root_is}
use Rattle.limits.specs.Allowed.{AllowedSite, AllowedGround}
use Rattle.limits.specs.declared.ground.Ground.{Ground}
use Rattle.limits.specs.declared.ground.Ground.TheVariants.{Site as OnSite, Basin as InBasin}
use Rattle.limits.specs.declared.site.Site.{Site}
use Rattle.limits.specs.declared.zone.Zone.{Zone}
use Rattle.site.specs.Basin.{basin_hazards}
use Rattle.site.specs.Capacity.{design_capacity, design_square}
use Rattle.site.specs.Ground.{ground_hazards}
use Rattle.site.specs.SiteHazards.{site_hazards}
use Rattle.site.proofs.Rising.{a_rises, b_rises, factored_rises, a_design_most}
use Rattle.response.specs.Period.{period_most}
use Rattle.response.specs.Unit.{unit}
use Rattle.response.proofs.LargerGround.{Rooted}
use Rattle.response.proofs.Most.{spectrum_below}
use Rattle.response.proofs.Reached.{small, roots_ordered, unit_fine}
use Rattle.base_shear.proofs.Ahead.{Ahead, own_hazard, larger_hazard}
use Rattle.base_shear.specs.Shears.{upper_at}
use Rattle.base_shear.proofs.BasinReached.{basin_reached}
use Rattle.base_shear.proofs.Ductilities.{design_ductile}
use Rattle.base_shear.proofs.SiteReached.{site_reached}

-- ---- the root of the design capacity: at most 3, and at least 0.6 of the capacity
module _ (R : ℕ) (lo : 100 ≤ R) (hi : R ≤ 600) where
  abbrev root : ℕ
  root = lower_root unit (design_square R)

  root_most : root ≤ 3 * unit
  root_most =
      le_of_square root (3 * unit)
      (omega (arith, (lower_root_is unit (design_square R) (small unit _ _ unit_fine (design_ductile R lo hi))).holds))

  -- (R + 50)/250 is 0.6 of it, in the unit 40,000·(R + 50)
  root_least : 40_000 * (R + 50) ≤ root
  root_least =
      let (a, e) = le_dest lo in
      (lower_root_is unit (design_square R) (small unit _ _ unit_fine (design_ductile R lo hi))).largest (40_000 * (R + 50))
      (omega (arith, e, ap (λ (z : ℕ). R * z) e, mul-le-mul_left a hi))

  rooted : Rooted 3 (over root unit) (design_capacity R)
  rooted =
      let d = design_ductile R lo hi in
      let below = mul-le-mul_right 300 (roots_ordered unit (design_capacity R) (design_square R) unit_fine d) in
      record {
        three = omega arith;
        root_positive = omega arith;
        cap_positive = omega arith;
        root_most = omega (arith, root_most);
        root_least = omega (arith, root_least);
        root_below = omega (arith, below, d.root_most);
      }

-- ---- V is ahead
site_ahead : (s : Site) (R : ℕ) → AllowedSite s → 100 ≤ R → R ≤ 600 → (T : ℕ) → T ≤ period_most → Ahead unit (site_hazards s R) T
site_ahead s R a lo hi T t =
    let k = site_hazards s R in
    let g = (site_reached s R a lo hi).shearing T t in
    let h = k.star in
    let most : h.a ≤ 80_000_000 = a_design_most s.class s.ssd a.ssd.1 in
    let sa = spectrum_below unit h.a h.b T 8_000_000 g.star.shape.b_positive (omega arith) in
    record {
      soon = omega (arith, sa);
      ratio =
          λ below.
          let few : upper_at unit h T ≤ 3 * unit = omega (arith, below) in
          omega (
            arith,
            larger_hazard unit h k.design T 3 unit_fine g.star g.design
                (a_rises s.class _ _ (factored_rises s.ssd s.nad a.nad.0))
                (b_rises s.class _ _ (factored_rises s.s1d s.nvd a.nvd.0))
                refl refl (rooted R lo hi) few,
          );
    }

basin_ahead : (z : Zone) (R : ℕ) → 100 ≤ R → R ≤ 600 → (T : ℕ) → T ≤ period_most → Ahead unit (basin_hazards z R) T
basin_ahead z R lo hi T t =
    let k = basin_hazards z R in
    let g = (basin_reached z R lo hi).shearing T t in
    let h = k.star in
    let sa = spectrum_below unit h.a h.b T 6_000_000 g.star.shape.b_positive (omega arith) in
    record { soon = omega (arith, sa); ratio = λ below. own_hazard unit h T 14 35 unit_fine g.star below }

pub ground_ahead : (g : Ground) (R : ℕ) → AllowedGround g → 100 ≤ R → R ≤ 600 → (T : ℕ) → T ≤ period_most
    → Ahead unit (ground_hazards g R) T
ground_ahead (OnSite s) R a lo hi = site_ahead s R a lo hi
ground_ahead (InBasin z) R a lo hi = basin_ahead z R lo hi
