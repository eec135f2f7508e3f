-- The reduction factor (6), (16), of a capacity and a root. A and B in 10⁻⁸ g, T in ms.
--   x A B T, y A B T     (T − 0.6·T0)/(0.4·T0) and (T − 0.2·T0)/(0.2·T0), each with its sign
--   one                  1
--   factor A B T c r     capacity c for T ≥ T0; root r + (c − r)·x down to 0.6·T0; r down to 0.2·T0; below that
--                        r + (r − 1)·y, where y is negative
--   exact_factor A B T c r      the same as a fraction without a sign
--   lower_factor s A B T c ρ    in s-ths, at the lower root of the square ρ, rounded down
--   upper_factor s A B T c ρ    in s-ths, at the upper root of the square ρ, rounded up
use Rattle.std.specs.Prelude.{ℕ}
use Rattle.whole.specs.declared.Fraction.{Fraction}
use Rattle.whole.specs.Choice.{pick}
use Rattle.whole.specs.Fraction.{over, at_most}
use Rattle.whole.specs.Signed.{Signed, signed, ◌⊕◌, ◌⊖◌, ◌⊗◌, ◌⊘◌, floor_in, ceiling_in, natural, unsigned}
use Rattle.response.specs.Corner.{corner, part, ms}
use Rattle.whole.specs.Root.{lower_root, upper_root}

abbrev pub x : ℕ → ℕ → ℕ → Signed
x A B T = (signed (ms T) ⊖ signed (part 6 10 A B)) ⊘ part 4 10 A B

abbrev pub y : ℕ → ℕ → ℕ → Signed
y A B T = (signed (ms T) ⊖ signed (part 2 10 A B)) ⊘ part 2 10 A B

abbrev pub one : Signed
one = signed (over 1 1)

unfoldable pub factor : ℕ → ℕ → ℕ → Fraction → Fraction → Signed
factor A B T c r =
    pick (at_most (corner A B) (ms T)) (signed c)
    (pick (at_most (part 6 10 A B) (ms T)) (signed r ⊕ (signed c ⊖ signed r) ⊗ x A B T)
    (pick (at_most (part 2 10 A B) (ms T)) (signed r)
    (signed r ⊕ (signed r ⊖ one) ⊗ y A B T)))

abbrev pub exact_factor : ℕ → ℕ → ℕ → Fraction → Fraction → Fraction
exact_factor A B T c r = unsigned (factor A B T c r)

unfoldable pub lower_factor : ℕ → ℕ → ℕ → ℕ → Fraction → Fraction → ℕ
lower_factor s A B T c ρ = natural (floor_in s (factor A B T c (over (lower_root s ρ) s)))

unfoldable pub upper_factor : ℕ → ℕ → ℕ → ℕ → Fraction → Fraction → ℕ
upper_factor s A B T c ρ = natural (ceiling_in s (factor A B T c (over (upper_root s ρ) s)))
