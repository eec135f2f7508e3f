-- One newton would be too little for a base shear that is handed in: the job `tall` (SharpMargin.antt) shows it, by its V_D of 1,033 N at its T
-- of 3,568 ms, as the shear call gives them. Under its roof the distribution writes 321 N, and the exact figure from 1,033 N is 319.08 N. The
-- definition, computed.
-- Assumes nothing.
use Rattle.std.specs.Prelude.{Ok}
use mathlib.Core.Path.{refl}
use mathlib.Core.List.{List, [], ◌∷◌}
use Prim.Native.Nat.{ℕ, ◌<◌}
use native.Mathlib.Omega.{arith}
use lib.Dec.{lit<, lit≤}
use lib.ListN.{length, get_or}
use Rattle.whole.specs.Cells.{cells}
use Rattle.whole.specs.Fraction.{over, plus, AtMost}
use Rattle.whole.specs.Line.{between}
use Rattle.whole.specs.Root.{lower_root, upper_root}
use Rattle.whole.specs.Rounding.{up, down}
use Rattle.whole.specs.Search.{bits_from, largest, smallest}
use Rattle.whole.specs.Signed.{floor, ceiling}
use Rattle.limits.specs.Building.{judged_building}
use Rattle.limits.specs.Kind.{judged_kind}
use Rattle.limits.specs.Frame.{judged_period, judged_frame}
use Rattle.limits.specs.Handed.{judged_handed}
use Rattle.limits.specs.Judging.{judged_shear_call, judged_distribution}
use Rattle.limits.specs.Levels.{weighed, raised, judged_levels}
use Rattle.limits.specs.Ranges.{in_range, within, among, listed}
use Rattle.limits.specs.Class.{judged_class}
use Rattle.limits.specs.Site.{judged_mapped, judged_near_fault, judged_site}
use Rattle.response.specs.Factor.{factor, lower_factor, upper_factor}
use Rattle.response.specs.Period.{approximate, in_use}
use Rattle.response.specs.Ratio.{bent, ratio, modified, blended}
use Rattle.response.specs.Spectrum.{exact_spectrum, spectrum}
use Rattle.base_shear.specs.Shears.{newtons, shear, star, base, figures_at}
use Rattle.storeys.specs.Exact.{exact_shear_under}
use Rattle.storeys.specs.Storeys.{weight_height, about}
use Rattle.margin.specs.Demand3.{LessBy}
use Rattle.job.specs.Distribution.{distribution_of, Buffers, Distributed}
use Rattle.job.specs.ShearCall.{shear_call_of, Sheared}
use Rattle.job.proofs.SharpMargin.{tall}

-- what the shear call answers for its 13 kN and 200 m, and so the job
pub tall_sheared : Sheared tall.ground tall.frame 13 2000
    (Ok (record { v = 1033; vm = 957; star = 774; vd = 1033; t = 3568 }))
unfolding shear_call_of judged_shear_call judged_building judged_site judged_mapped judged_near_fault judged_class judged_frame judged_kind judged_period
    among listed within in_range between up down largest smallest bits_from lower_root upper_root floor ceiling approximate in_use spectrum
    exact_spectrum factor lower_factor upper_factor ratio modified blended bent newtons shear star base figures_at
tall_sheared = refl

abbrev empty : Buffers
empty = record { forces = 0 ∷ 0 ∷ []; shears = 0 ∷ 0 ∷ []; overturnings = 0 ∷ 0 ∷ [] }

abbrev after : Buffers
after = record { forces = 712 ∷ 321 ∷ []; shears = 1033 ∷ 321 ∷ []; overturnings = 2_028_976 ∷ 16_692 ∷ [] }

pub tall_distributed : Distributed 1033 3568 tall.weights tall.heights empty (Ok tt) after
unfolding distribution_of judged_distribution judged_levels judged_handed weighed raised within in_range cells weight_height about up
tall_distributed = (refl, refl)

over_one_newton : AtMost (plus (exact_shear_under 3568 tall.weights tall.heights (over 1033 1) 1) (over 1 1)) (over 321 1)
unfolding weight_height
over_one_newton = lit≤ tt

-- so 'less than one newton above' is false of what the distribution writes
pub one_newton_false : ((v T : ℕ) (ws hs : List ℕ) (b b' : Buffers) → Distributed v T ws hs b (Ok tt) b' → (x : ℕ) → x < length ws
    → LessBy (get_or b'.shears x 0) (exact_shear_under T ws hs (over v 1) x) (over 1 1)) → ⊥
unfolding weight_height
one_newton_false less =
    let h = less 1033 3568 tall.weights tall.heights empty after tall_distributed 1 (lit< tt) in
    let k = over_one_newton in
    omega (arith, h, k)
