-- Which way the figures of a ground move at one T, in the unit in use, of frames whose alpha-y is above 0: the laws of base_shear, of the hazards of a ground.
-- Assumes nothing.
use Prim.Native.Nat.{ℕ, ◌≤◌, ◌<◌}
use native.Mathlib.Nat.{le_trans, lt_of_lt_of_le}
use native.Mathlib.Omega.{arith}
use Rattle.limits.specs.declared.frame.Frame.{Frame}
use Rattle.limits.specs.declared.ground.Ground.{Ground}
use Rattle.site.specs.Ground.{ground_hazards}
use Rattle.site.specs.declared.hazard.Hazards.{Hazards}
use Rattle.response.specs.Period.{period_most}
use Rattle.response.specs.Unit.{unit}
use Rattle.base_shear.specs.Moves.{NoLighter}
use Rattle.base_shear.specs.Ready.{Reached}
use Rattle.base_shear.specs.Shears.{figures_at}
use Rattle.base_shear.proofs.Ahead.{Ahead}
use Rattle.base_shear.proofs.Moves.{shear_never_lower, star_never_lower, base_never_lower, shear_never_higher, star_never_falls}
use Rattle.base_shear.proofs.NeverRises.{risen_below_v, base_never_rises, base_stays}
use Rattle.job.specs.Moves.{NoneLower, AsRGrows}
use Rattle.base_shear.proofs.GroundDuctile.{ground_more_ductile}

pub figures_never_lower : (k : Hazards) (T : ℕ) → Reached k → (f f' : Frame) (W W' : ℕ) → 0 < f'.alpha → NoLighter f W f' W'
    → NoneLower (figures_at unit k f W T) (figures_at unit k f' W' T)
unfolding figures_at
figures_never_lower k T c f f' W W' pa l =
    let g = c.shearing 0 (omega arith) in
    let pd = g.divisor.0 in
    let pe = g.stardivisor.0 in
    record {
      v = shear_never_lower unit k T (omega arith) f f' W W' pa l pd k.design;
      vm = shear_never_lower unit k T (omega arith) f f' W W' pa l pd k.mce;
      star = star_never_lower unit k T (omega arith) f f' W W' pa l pe;
      vd = base_never_lower unit k T (omega arith) f f' W W' pa l pd pe;
    }

module _ (x : Ground) (R R' T : ℕ) (h : R ≤ R') (c : Reached (ground_hazards x R)) (c' : Reached (ground_hazards x R'))
    (b : Ahead unit (ground_hazards x R) T) (t : T ≤ period_most) where
  abbrev k : Hazards
  k = ground_hazards x R

  abbrev k' : Hazards
  k' = ground_hazards x R'

  -- with one frame for both
  one_frame : (f : Frame) (W : ℕ) → 0 < f.alpha → AsRGrows (figures_at unit k f W T) (figures_at unit k' f W T)
  unfolding figures_at
  one_frame f W pa =
      let d = ground_more_ductile x R R' h in
      let g = c.shearing T t in
      let g' = c'.shearing T t in
      let m = c.meeting in
      record {
        v = shear_never_higher unit k k' T d g g' m f pa W k.design k'.design g.design g'.design d.design;
        vm = shear_never_higher unit k k' T d g g' m f pa W k.mce k'.mce g.mce g'.mce d.mce;
        star = star_never_falls unit k k' T d g g' m f pa W;
        risen = risen_below_v unit k k' T d g g' m f pa W b;
        vd = base_never_rises unit k k' T d g g' m f pa W b;
        stays = base_stays unit k k' T d g g' m f pa W b;
      }

  -- of two frames with the same I and alpha-y
  pub figures_as_r_grows : (f f' : Frame) (W W' : ℕ) → 0 < f.alpha → 0 < f'.alpha → NoLighter f W f' W' → NoLighter f' W' f W
      → AsRGrows (figures_at unit k f W T) (figures_at unit k' f' W' T)
  figures_as_r_grows f f' W W' pa pa' up down =
      let one = one_frame f W pa in
      let more = figures_never_lower k' T c' f f' W W' pa' up in
      let less = figures_never_lower k' T c' f' f W' W pa down in
      record {
        v = le_trans less.v one.v;
        vm = le_trans less.vm one.vm;
        star = le_trans one.star more.star;
        risen = λ h. le_trans less.star (one.risen (lt_of_lt_of_le h less.star));
        vd = le_trans less.vd one.vd;
        stays = λ e. omega (arith, one.stays e, more.vd, less.vd);
      }
