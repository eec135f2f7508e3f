-- One line of the paper: the digits k found down to a place p, on the way to a last one, and what is left beside them. The first line and, by a digit,
-- the next; how large what stands in a line comes. For a square n/d up to 11, and s up to 10⁷.
-- Assumes nothing.
use mathlib.Core.Path.{◌≡◌, refl, subst}
use Prim.Native.Nat.{ℕ, ◌+◌, ◌-◌, ◌*◌, ◌/◌, ◌≤◌, ◌<◌, ◌∣◌}
use native.Mathlib.Nat.{mul-le-mul, le_of_mul-le-mul_right, dvd-zero, div-mul_cancel}
use native.Mathlib.Omega.{arith}
use Rattle.whole.specs.declared.Fraction.{Fraction}
use Rattle.whole.specs.Digits.{Left, Found, taken, Digit, Place}
use Rattle.whole.proofs.Root.{le_of_square, radicand}
use Rattle.whole.proofs.Places.{place_positive, tenth, zeros_next}
use Rattle.whole.proofs.Taken.{digit_most}
use Rattle.whole.proofs.Found.{left_next, found_next, one_more}

pub record Line (s : ℕ) (ρ : Fraction) (last p left k : ℕ) : Type 0 where
  pub place : Place p
  pub ahead : last ≤ p
  pub below : p ≤ 100_000_000
  pub found : Found s ρ p k
  pub rest : Left s ρ k left

module _ (s : ℕ) (ρ : Fraction) (unit : s ≤ 10_000_000) (positive : 0 < ρ.den) (most : ρ.num ≤ 11 * ρ.den) where
  -- what fits is at most 4·10⁷
  pub fits_small : (k : ℕ) → ρ.den * (k * k) ≤ s * s * ρ.num → k ≤ 40_000_000
  fits_small k h =
      le_of_square k 40_000_000
      (le_of_mul-le-mul_right {k = ρ.den} (omega (arith, h, radicand s ρ.num ρ.den unit most)) positive)

  -- before the first digit: no multiple of 10⁸ but 0 fits, and all is left
  pub first_line : (last : ℕ) → last ≤ 10_000_000 → Line s ρ last 100_000_000 (s * s * ρ.num) 0
  first_line last h =
      record {
        place = record { zeros = 8; place = refl };
        ahead = omega (arith, h);
        below = omega arith;
        found = record { holds = (dvd-zero 100_000_000, omega arith); largest = λ j f. none j f (fits_small j f.1) };
        rest = omega arith;
      }
    where
      none : (j : ℕ) → (100_000_000 ∣ j) × (ρ.den * (j * j) ≤ s * s * ρ.num) → j ≤ 40_000_000 → j ≤ 0
      none j f small = omega (arith, div-mul_cancel 100_000_000 f.0, small)

  module _ {last p left k : ℕ} (l : Place last) (line : Line s ρ last p left k) where
    pub line_small : k ≤ 40_000_000
    line_small = fits_small k line.found.holds.1

    module _ (lt : last < p) where
      next : (Place (p / 10)) × (p ≡ 10 * (p / 10)) × (last ≤ p / 10)
      next = tenth last p l line.place lt

      pub next_positive : 0 < p / 10
      next_positive = place_positive next.0

      pub next_small : p / 10 ≤ 10_000_000
      next_small = omega (arith, next.1, line.below)

      pub next_less : p / 10 < p
      next_less = omega (arith, next.1, next_positive)

      found_before : Found s ρ (10 * (p / 10)) k
      found_before = subst (λ (q : ℕ). Found s ρ q k) next.1 line.found

      pub ten_more : left < taken ρ.den k (10 * (p / 10))
      ten_more = one_more s ρ (10 * (p / 10)) k left (omega (arith, next_positive)) found_before line.rest

      pub next_fits : (c : ℕ) → taken ρ.den k (c * (p / 10)) ≤ left → c * (p / 10) ≤ 90_000_000
      next_fits c h = omega (arith, mul-le-mul (digit_most ρ.den k (p / 10) left ten_more c h) next_small)

      pub next_line : (c t : ℕ) → Digit ρ.den k (p / 10) left c → t ≡ taken ρ.den k (c * (p / 10))
          → Line s ρ last (p / 10) (left - t) (k + c * (p / 10))
      next_line c t g e =
          record {
            place = next.0;
            ahead = next.2;
            below = omega (arith, next_small);
            found =
                found_next s ρ (p / 10) k left c (zeros_next (p / 10) k found_before.holds.0) line.rest g;
            rest = rw e (left_next s ρ k left (c * (p / 10)) line.rest g.holds);
          }
