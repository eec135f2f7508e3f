-- The building of document 01's worked sheet, 15,000 kN and 30 m, split into towers, on its site and in zone 3 of the Taipei Basin: both ends of what
-- towers add up to are reached. Where the T of a tower is not that of the whole, neither end need hold. The definition, computed.
-- Assumes nothing.
use Rattle.std.specs.Prelude.{Ok}
use mathlib.Core.Path.{◌≡◌, refl}
use mathlib.Core.List.{List, [], ◌∷◌}
use Prim.Native.Nat.{ℕ, ◌+◌, ◌≤◌}
use native.Mathlib.Omega.{arith}
use Rattle.whole.specs.Line.{between}
use Rattle.whole.specs.Root.{lower_root, upper_root}
use Rattle.whole.specs.Rounding.{up, down}
use Rattle.whole.specs.Search.{largest, smallest, bits_from}
use Rattle.whole.specs.Signed.{floor, ceiling}
use Rattle.limits.specs.declared.frame.FrameValues.{FrameValues}
use Rattle.limits.specs.declared.ground.GroundValues.{GroundValues}
use Rattle.limits.specs.declared.ground.GroundValues.TheVariants.{Basin}
use Rattle.limits.specs.Building.{judged_building}
use Rattle.limits.specs.Kind.{judged_kind}
use Rattle.limits.specs.Frame.{judged_period, judged_frame}
use Rattle.limits.specs.Judging.{judged_shear_call}
use Rattle.limits.specs.Ranges.{in_range, among, within, listed}
use Rattle.limits.specs.Class.{judged_class}
use Rattle.limits.specs.Site.{judged_mapped, judged_near_fault, judged_site}
use Rattle.limits.specs.Zone.{judged_zone}
use Rattle.response.specs.Factor.{factor, lower_factor, upper_factor}
use Rattle.response.specs.Period.{approximate, in_use}
use Rattle.response.specs.Ratio.{bent, ratio, modified, blended}
use Rattle.response.specs.Spectrum.{exact_spectrum, spectrum}
use Rattle.base_shear.specs.declared.Figures.{Figures}
use Rattle.base_shear.specs.Shears.{newtons, shear, star, base, figures_at}
use Rattle.job.specs.ShearCall.{shear_call_of, Sheared}
use Rattle.job.specs.Towers.{Tower, Called, CalledAt, weight_of, base_of}
use Rattle.job.proofs.WorkedSheet.{plain, frame, figures}

-- weight and height, and of the figures V, V_M, V*, V_D and T
abbrev tower : ℕ → ℕ → ℕ → ℕ → ℕ → ℕ → ℕ → Tower
tower W h v vm star vd t = record { weight = W; height = h; figures = figures v vm star vd t }

-- ---- on the site. T is 1 s at 30 m, and at 25 m too; at 15 m it is 746 ms
abbrev whole : Tower
whole = tower 15_000 300 909_704 818_453 1_071_429 1_071_429 1000

abbrev half : Tower
half = tower 7_500 300 454_852 409_227 535_715 535_715 1000

abbrev half_of15 : Tower
half_of15 = tower 7_500 150 609_722 548_561 718_116 718_116 746

-- 5,000 and 10,000 kN; 7,500 kN twice, the one tower lower by 5 m; 4,996 kN twice and 5,008 kN
abbrev thirds : List Tower
thirds = tower 5_000 300 303_235 272_818 357_143 357_143 1000 ∷ tower 10_000 300 606_470 545_636 714_286 714_286 1000 ∷ []

abbrev halves : List Tower
halves = half ∷ tower 7_500 250 454_852 409_227 535_715 535_715 1000 ∷ []

abbrev under_third : Tower
under_third = tower 4_996 300 302_992 272_600 356_858 356_858 1000

abbrev three : List Tower
three = under_third ∷ under_third ∷ tower 5_008 300 303_720 273_255 357_715 357_715 1000 ∷ []

on_site_lem : Called plain (frame 1000 480) whole × Called plain (frame 1000 480) half_of15
    × CalledAt plain (frame 1000 480) 1000 thirds × CalledAt plain (frame 1000 480) 1000 halves × CalledAt plain (frame 1000 480) 1000 three
unfolding shear_call_of judged_shear_call judged_building judged_site judged_mapped judged_near_fault judged_class judged_frame judged_kind judged_period
    among listed within in_range between up down largest smallest bits_from lower_root upper_root floor ceiling approximate in_use spectrum
    exact_spectrum factor lower_factor upper_factor ratio modified blended bent newtons shear star base figures_at
on_site_lem =
    (refl, refl, (refl, refl, (refl, refl, tt)), (refl, refl, (refl, refl, tt)), (refl, refl, (refl, refl, (refl, refl, tt))))

-- ---- in zone 3; and in zone 1 with a frame that has no calculated period, where T is 281 ms at 10 m and 381 ms at 15 m
abbrev zone_whole : Tower
zone_whole = tower 15_000 300 1_522_143 1_248_292 1_714_286 1_714_286 1000

abbrev zone_half : Tower
zone_half = tower 7_500 300 761_072 624_146 857_143 857_143 1000

abbrev zone_thirds : List Tower
zone_thirds = tower 5_000 300 507_381 416_098 571_429 571_429 1000 ∷ tower 10_000 300 1_014_762 832_195 1_142_858 1_142_858 1000 ∷ []

abbrev stiff : FrameValues
stiff = record { kind = 4; calculated = 0; r = 100; i = 100; alpha = 150 }

abbrev stiff_whole : Tower
stiff_whole = tower 15_000 150 3_257_143 4_000_000 1_302_858 4_000_000 381

abbrev stiff_half : Tower
stiff_half = tower 7_500 150 1_628_572 2_000_000 651_429 2_000_000 381

abbrev stiff_half_of10 : Tower
stiff_half_of10 = tower 7_500 100 1_547_090 1_891_358 618_836 1_891_358 281

in_basin_lem : Called (Basin 3) (frame 1000 480) zone_whole × Called (Basin 3) (frame 1000 480) zone_half × CalledAt (Basin 3) (frame 1000 480) 1000 zone_thirds
    × Called (Basin 1) stiff stiff_whole × Called (Basin 1) stiff stiff_half × Called (Basin 1) stiff stiff_half_of10
unfolding shear_call_of judged_shear_call judged_building judged_zone judged_frame judged_kind judged_period among listed within in_range up down largest
    smallest bits_from lower_root upper_root floor ceiling approximate in_use spectrum exact_spectrum factor lower_factor upper_factor ratio modified
    blended bent newtons shear star base figures_at
in_basin_lem = (refl, refl, (refl, refl, (refl, refl, tt)), refl, refl, refl)

-- ---- both ends: w and towers ts, called at the T of w, with the weight of w together and k newtons more
abbrev Split : GroundValues → Tower → List Tower → ℕ → Type 0
Split G w ts k = Called G (frame 1000 480) w × CalledAt G (frame 1000 480) w.figures.t ts × (weight_of ts ≡ w.weight) × (base_of ts ≡ w.figures.vd + k)

-- 357,143 + 714,286 = 1,071,429 N
pub no_newton_more : Split plain whole thirds 0
no_newton_more = (on_site_lem.0, on_site_lem.2, refl, refl)

-- 535,715 + 535,715 = 1,071,430 N
pub one_newton_more : Split plain whole halves 1
one_newton_more = (on_site_lem.0, on_site_lem.3, refl, refl)

-- 356,858 + 356,858 + 357,715 = 1,071,431 N
pub two_newtons_more : Split plain whole three 2
two_newtons_more = (on_site_lem.0, on_site_lem.4, refl, refl)

-- 857,143 + 857,143 = 1,714,286 N
pub no_newton_more_in_basin : Split (Basin 3) zone_whole (zone_half ∷ zone_half ∷ []) 0
no_newton_more_in_basin = (in_basin_lem.0, (in_basin_lem.1, refl, (in_basin_lem.1, refl, tt)), refl, refl)

-- 571,429 + 1,142,858 = 1,714,287 N
pub one_newton_more_in_basin : Split (Basin 3) zone_whole zone_thirds 1
one_newton_more_in_basin = (in_basin_lem.0, in_basin_lem.2, refl, refl)

-- ---- with nothing said of T neither end holds
abbrev AtAnyPeriod : (ℕ → ℕ → ℕ → Type 0) → Type 0
AtAnyPeriod P =
    (G : GroundValues) (f : FrameValues) (W₁ W₂ h₁ h₂ h : ℕ) (n₁ n₂ n : Figures)
    → Sheared G f W₁ h₁ (Ok n₁) → Sheared G f W₂ h₂ (Ok n₂) → Sheared G f (W₁ + W₂) h (Ok n)
    → P n₁.vd n₂.vd n.vd

-- 15 m and 30 m: 718,116 + 535,715 = 1,253,831 N, and the whole has 1,071,429 N at 30 m
pub sum_at_any_period_false : AtAnyPeriod (λ (v₁ v₂ v : ℕ). v₁ + v₂ ≤ v + 1) → ⊥
sum_at_any_period_false p =
    let h = p plain (frame 1000 480) 7_500 7_500 150 300 300 half_of15.figures half.figures whole.figures on_site_lem.1 on_site_lem.3.0 on_site_lem.0 in
    omega (arith, h)

-- 10 m and 15 m: 1,891,358 + 2,000,000 = 3,891,358 N, and the whole has 4,000,000 N at 15 m
pub whole_at_any_period_false : AtAnyPeriod (λ (v₁ v₂ v : ℕ). v ≤ v₁ + v₂) → ⊥
whole_at_any_period_false p =
    let c = in_basin_lem in
    let h = p (Basin 1) stiff 7_500 7_500 100 150 150 stiff_half_of10.figures stiff_half.figures stiff_whole.figures c.5 c.4 c.3 in
    omega (arith, h)
