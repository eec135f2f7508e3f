-- Storeys (21). V in N, T in ms, weights in kN, heights in dm, lowest level first; level x is counted from 0.
--   roof_part T            the part of V at the roof, by document 02 in place of the 0.07·T of (21): 0 for T up to 700 ms, above that the
--                         smaller of 0.07·(T in s) and a quarter
--   RoofAtMostOne T       the roof part is at most one, so that F_t is a part of V
--   roof_force T v         F_t, that part of V, up: one rounding
--   weight_height ws hs    P, the sum of weight times height; P_x is that of what stands from level x to the roof
--   shear_under T v ws hs x    the shear under level x: F_t + (V − F_t)·P_x/P, quotient up
--   shears T v ws hs      those of all levels
--   force us x, forces us    a level's force: its shear less the one above; of all levels
--   bottom hs x           the height of the bottom of storey x: level x − 1, or the base
--   about b fs hs         force times height above b, added
--   borne b fs hs         what levels bear: their forces added, and their overturning about b
--   overturning fs hs x   (23) without its factor, about the bottom of storey x, in N·dm, over the levels from x upward
--   overturnings fs hs    those of all storeys
--   Filled T v ws hs us fs os us' fs' os'    us', fs' and os' are what buffers that held us, fs and os hold when shears, forces and
--                         overturning moments are laid over their first cells
-- ℕ's subtraction stops at 0; that no difference here goes below it: `roof_most`, `force_whole`, `bottom_below` of proofs/.
use Rattle.std.specs.Prelude.{◌≡◌, List, [], ◌∷◌, ℕ, ◌+◌, ◌-◌, ◌*◌, ◌≤◌, min, leb, length, drop, get_or}
use Rattle.whole.specs.declared.Fraction.{Fraction}
use Rattle.whole.specs.Choice.{pick}
use Rattle.whole.specs.Rounding.{up}
use Rattle.whole.specs.Fraction.{over}
use Rattle.whole.specs.Cells.{cells, sum, below, laid}
use Rattle.storeys.specs.declared.overturning.Borne.{Borne}

-- 0.07·(T in s) is 7·T in 100,000, a quarter 25,000 of them
abbrev pub roof_part : ℕ → Fraction
roof_part T = over (pick (leb T 700) 0 (min (7 * T) 25_000)) 100_000

abbrev pub RoofAtMostOne : ℕ → Type 0
RoofAtMostOne T = (roof_part T).num ≤ (roof_part T).den

abbrev pub roof_force : ℕ → ℕ → ℕ
roof_force T v = up ((roof_part T).num * v) (roof_part T).den

unfoldable pub weight_height : List ℕ → List ℕ → ℕ
weight_height [] hs = 0
weight_height (w ∷ ws) [] = 0
weight_height (w ∷ ws) (h ∷ hs) = w * h + weight_height ws hs

abbrev pub shear_under : ℕ → ℕ → List ℕ → List ℕ → ℕ → ℕ
shear_under T v ws hs x =
    let ft = roof_force T v in
    ft + up ((v - ft) * weight_height (drop x ws) (drop x hs)) (weight_height ws hs)

abbrev pub shears : ℕ → ℕ → List ℕ → List ℕ → List ℕ
shears T v ws hs = cells (shear_under T v ws hs) (length ws)

-- above the roof there is none, and `get_or` gives 0
abbrev pub force : List ℕ → ℕ → ℕ
force us x = get_or us x 0 - get_or us (x + 1) 0

abbrev pub forces : List ℕ → List ℕ
forces us = cells (force us) (length us)

abbrev pub bottom : List ℕ → ℕ → ℕ
bottom hs x = below 0 hs x

unfoldable pub about : ℕ → List ℕ → List ℕ → ℕ
about b [] hs = 0
about b (f ∷ fs) [] = 0
about b (f ∷ fs) (h ∷ hs) = f * (h - b) + about b fs hs

abbrev pub borne : ℕ → List ℕ → List ℕ → Borne
borne b fs hs = record { force = sum fs; moment = about b fs hs }

abbrev pub overturning : List ℕ → List ℕ → ℕ → ℕ
overturning fs hs x = about (bottom hs x) (drop x fs) (drop x hs)

abbrev pub overturnings : List ℕ → List ℕ → List ℕ
overturnings fs hs = cells (overturning fs hs) (length fs)

abbrev pub Filled : ℕ → ℕ → List ℕ → List ℕ → List ℕ → List ℕ → List ℕ → List ℕ → List ℕ → List ℕ → Type 0
Filled T v ws hs us fs os us' fs' os' =
    (us' ≡ laid (shears T v ws hs) us)
    × (fs' ≡ laid (forces (shears T v ws hs)) fs)
    × (os' ≡ laid (overturnings (forces (shears T v ws hs)) hs) os)
