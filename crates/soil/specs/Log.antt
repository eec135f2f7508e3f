-- A soil log: thicknesses ds in cm, kinds ks and values xs of its layers.
--   counted n                13: no layer, or over 40, at 0; judged on the thickness list
--   thick p ds               14: the first layer of thickness 0; the first of the list stands at place p
--   deep ds                  14: thicknesses that do not add up to 3,000, at 0
--   judged_log ds k x        2 (k kinds or x values for another number of thicknesses, at 0), 13, 14, 14 in turn
--   site_class l ds ks xs    the class by the class limits l, or the first refusal: 2, 13, 14, 15
--   Answers ds ks xs a       the code's answer a says what Table 3's limits give
use Rattle.std.specs.Prelude.{◌≡◌, not, List, [], ◌∷◌, ℕ, ◌+◌, eqb, length}
use Rattle.whole.specs.Cells.{sum}
use Rattle.limits.specs.declared.class.Class.{Class}
use Rattle.limits.specs.Lengths.{same_length}
use Rattle.limits.specs.Outcome.{Outcome, accepted, Done, require, ◌>>=◌, ◌>>◌, Answer, outcome}
use Rattle.limits.specs.Ranges.{within}
use Rattle.soil.specs.declared.class.ClassLimits.{ClassLimits}
use Rattle.soil.specs.Class.{table3, class_of}
use Rattle.soil.specs.Times.{judged_times}

abbrev pub counted : ℕ → Outcome Done
counted n = within 1 40 n 13 0

unfoldable pub thick : ℕ → List ℕ → Outcome Done
thick p [] = accepted tt
thick p (d ∷ ds) = do
  require (not (eqb d 0)) 14 p
  thick (p + 1) ds

unfoldable pub deep : List ℕ → Outcome Done
deep ds = require (eqb (sum ds) 3_000) 14 0

unfoldable pub judged_log : List ℕ → ℕ → ℕ → Outcome Done
judged_log ds k x = do
  same_length (length ds) k
  same_length (length ds) x
  counted (length ds)
  thick 1 ds
  deep ds

unfoldable pub site_class : ClassLimits → List ℕ → List ℕ → List ℕ → Outcome Class
site_class l ds ks xs = do
  judged_log ds (length ks) (length xs)
  t ← judged_times ds ks xs
  accepted (class_of l t)

abbrev pub Answers : List ℕ → List ℕ → List ℕ → Answer Class → Type 0
Answers ds ks xs a = outcome a ≡ site_class table3 ds ks xs
