-- The spectrum (4), (14) with the branch beyond 2.5·T0 of document 001's (15). A and B in 10⁻⁸ g, T in ms.
--   g A                     A, in g
--   exact_spectrum A B T    in g: A(0.4 + 3T/T0) for T ≤ 0.2·T0; A for T ≤ T0; B/(T in s) for T ≤ 2.5·T0; else 0.4·A
--   rounded s x             one rounding, up, to s-ths
--   spectrum s A B T        the spectrum in s-ths of g
use Rattle.std.specs.Prelude.{ℕ, ◌*◌}
use Rattle.whole.specs.declared.Fraction.{Fraction}
use Rattle.whole.specs.Choice.{pick}
use Rattle.whole.specs.Fraction.{over, plus, times, quotient, at_most, up_in}
use Rattle.response.specs.Corner.{corner, part, ms}

abbrev pub g : ℕ → Fraction
g A = over A 100_000_000

unfoldable pub exact_spectrum : ℕ → ℕ → ℕ → Fraction
exact_spectrum A B T =
    pick (at_most (ms T) (part 2 10 A B)) (times (g A) (plus (over 4 10) (quotient (over (3 * T) 1) (corner A B))))
    (pick (at_most (ms T) (corner A B)) (g A)
    (pick (at_most (ms T) (part 25 10 A B)) (quotient (g B) (over T 1000))
    (times (over 4 10) (g A))))

abbrev pub rounded : ℕ → Fraction → ℕ
rounded s x = up_in s x

unfoldable pub spectrum : ℕ → ℕ → ℕ → ℕ → ℕ
spectrum s A B T = rounded s (exact_spectrum A B T)
