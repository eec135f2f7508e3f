-- A side on which a factor is printed: below the exact one or above it.
--   Rounds q o z     q rounds a quotient to the side, o to the other, and z rounds one with a sign to the side
--   Prints z r f     f is the factor at the root r, in s-ths, rounded by z
--   Between r        r lies between the lower and the upper root
--   lower_rounds, lower_prints, lower_between    so it is below;  upper_rounds, upper_prints, upper_between    and above
-- What each says of either side are laws of `whole`.
use Rattle.std.specs.Prelude.{◌≡◌, refl, ℕ, ◌+◌, ◌-◌, ◌*◌, ◌^◌, ◌≤◌, ◌<◌, ℤ, pos, neg_ℤ, ◌+ℤ◌, ◌*ℤ◌}
use Rattle.std.proofs.Common.{le_refl}
use Rattle.whole.specs.declared.Fraction.{Fraction}
use Rattle.whole.specs.Fraction.{over}
use Rattle.whole.specs.Root.{lower_root, upper_root}
use Rattle.whole.specs.Rounding.{up, down}
use Rattle.whole.specs.Signed.{Signed, floor, ceiling, natural}
use Rattle.whole.proofs.Floor.{floor_off, ceiling_off}
use Rattle.whole.proofs.Root.{lower_most}
use Rattle.whole.proofs.Rounding.{up_same, down_same, up_whole, down_whole, up_exact, down_exact, up_less, down_less, up_most, down_most}
use Rattle.whole.proofs.SignedSame.{Stands, floor_stands, ceiling_stands}
use Rattle.response.specs.Factor.{factor, lower_factor, upper_factor}

pub record Rounds (q o : ℕ → ℕ → ℕ) (z : ℤ → ℕ → ℤ) : Type 0 where
  pub same : (n d m e : ℕ) → 0 < d → 0 < e → n * e ≡ m * d → q n d ≡ q m e
  pub whole : (a n d : ℕ) → 0 < d → a + q n d ≡ q (d * a + n) d
  pub exact : (n d : ℕ) → 0 < d → q (d * n) d ≡ n
  pub less : (a n d : ℕ) → 0 < d → n ≤ d * a → a - o n d ≡ q (d * a - n) d
  pub most : (n d r : ℕ) → 0 < d → n ≤ d * r → q n d ≤ r
  pub other_most : (n d r : ℕ) → 0 < d → n ≤ d * r → o n d ≤ r
  pub off : (a n d : ℕ) → 0 < d → o n d ≤ a → pos a +ℤ z (neg_ℤ (pos n)) d ≡ pos (a - o n d)
  pub stands : (y : Signed) (x : Fraction) → 0 < y.den → 0 < x.den → Stands y x
      → (s : ℕ) → z (pos s *ℤ y.num) y.den ≡ pos (q (s * x.num) x.den)

pub lower_rounds : Rounds down up floor
lower_rounds =
    record {
      same = down_same;
      whole = down_whole;
      exact = down_exact;
      less = down_less;
      most = down_most;
      other_most = up_most;
      off = floor_off;
      stands = floor_stands;
    }

pub upper_rounds : Rounds up down ceiling
upper_rounds =
    record {
      same = up_same;
      whole = up_whole;
      exact = up_exact;
      less = up_less;
      most = up_most;
      other_most = down_most;
      off = λ a n d p. ceiling_off a n d;
      stands = ceiling_stands;
    }

pub record Prints (z : ℤ → ℕ → ℤ) (r : ℕ → Fraction → ℕ) (f : ℕ → ℕ → ℕ → ℕ → Fraction → Fraction → ℕ) : Type 0 where
  pub printed : (s A B T : ℕ) (c ρ : Fraction) →
      let x = factor A B T c (over (r s ρ) s) in
      f s A B T c ρ ≡ natural (z (pos s *ℤ x.num) x.den)

pub lower_prints : Prints floor lower_root lower_factor
unfolding lower_factor
lower_prints = record { printed = λ s A B T c ρ. refl }

pub upper_prints : Prints ceiling upper_root upper_factor
unfolding upper_factor
upper_prints = record { printed = λ s A B T c ρ. refl }

pub record Between (r : ℕ → Fraction → ℕ) : Type 0 where
  pub between : (s : ℕ) (ρ : Fraction) → ρ.num * (s * s) < 2 ^ 64 * ρ.den → 0 < ρ.den → (lower_root s ρ ≤ r s ρ) × (r s ρ ≤ upper_root s ρ)

pub lower_between : Between lower_root
lower_between = record { between = λ s ρ h p. (le_refl (lower_root s ρ), lower_most s ρ h p) }

pub upper_between : Between upper_root
upper_between = record { between = λ s ρ h p. (lower_most s ρ h p, le_refl (upper_root s ρ)) }
