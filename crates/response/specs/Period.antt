-- The period, in ms.
--   coefficient kind       c: 85, 70, 70, 50 for kinds 1 to 4
--   approximate kind h     the largest whole t with 1000·t⁴ ≤ c⁴·h³, h the top height in dm
--   in_use calculated t     T: with a calculated period the smaller of it and 14·t/10 rounded down; else t (0 is 'none')
--   period_of kind calculated h    T of a frame of top height h
--   period_most             the longest T: 1.4 times the longest approximate period, that of kind 1 at 2,000 dm
use Rattle.std.specs.Prelude.{ℕ, ◌*◌, ◌^◌, min, leb, eqb}
use Rattle.whole.specs.Choice.{pick}
use Rattle.whole.specs.Rounding.{down}
use Rattle.whole.specs.Search.{largest}
use Rattle.limits.specs.declared.kind.Kind.{Kind}
use Rattle.limits.specs.declared.kind.Kind.TheVariants.{Steel, Concrete, Braced, Other}

abbrev pub coefficient : Kind → ℕ
coefficient Steel = 85
coefficient Concrete = 70
coefficient Braced = 70
coefficient Other = 50

unfoldable pub approximate : Kind → ℕ → ℕ
approximate kind h = largest (λ t. leb (1000 * t ^ 4) (coefficient kind ^ 4 * h ^ 3))

unfoldable pub in_use : ℕ → ℕ → ℕ
in_use calculated t = pick (eqb calculated 0) t (min calculated (down (14 * t) 10))

abbrev pub period_of : Kind → ℕ → ℕ → ℕ
period_of kind calculated h = in_use calculated (approximate kind h)

abbrev pub period_most : ℕ
period_most = 6328
