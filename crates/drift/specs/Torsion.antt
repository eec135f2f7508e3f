-- Torsion (2.5.2): the amplification factor of a floor, from its largest displacement l and its average a, without a sign, in 0.01 mm.
--   amplification l a       A_x = (δ_max / (1.2 δ_avg))², exact (22)
--   torsion_factor l a      in thousandths, rounded up; 'not required to exceed 3.0'. The section has no other bound
--   torsion_of l a          the factor, or the first refusal
--   TorsionAnswers l a r    r is the answer
use Rattle.std.specs.Prelude.{◌≡◌, ℕ, min}
use Rattle.whole.specs.declared.Fraction.{Fraction}
use Rattle.whole.specs.Fraction.{over, times, quotient, square, up_in}
use Rattle.limits.specs.Floor.{judged_floor}
use Rattle.limits.specs.Outcome.{Outcome, Answer, accepted, outcome, ◌>>◌}

abbrev pub amplification : ℕ → ℕ → Fraction
amplification l a = square (quotient (over l 1) (times (over 12 10) (over a 1)))

unfoldable pub torsion_factor : ℕ → ℕ → ℕ
torsion_factor l a = min (up_in 1_000 (amplification l a)) 3_000

unfoldable pub torsion_of : ℕ → ℕ → Outcome ℕ
torsion_of l a = do
  judged_floor l a
  accepted (torsion_factor l a)

abbrev pub TorsionAnswers : ℕ → ℕ → Answer ℕ → Type 0
TorsionAnswers l a r = outcome r ≡ torsion_of l a
