-- A number read byte by byte: how it goes on, and where it ends.
-- Assumes nothing.
use Rattle.std.proofs.Common.{◌≡◌, ℕ, ◌+◌, ◌-◌, ◌*◌, Bool, true, false, cond, Some, None, List, [], ◌∷◌, length, refl, arith}
use Rattle.rows.specs.Numbers.{goes_on, with_digit, number_from}

module _ (v b : ℕ) (s rest : List ℕ) where
  pub number_more : {more : ℕ} → s ≡ b ∷ rest → Some more ≡ with_digit v b → number_from v s ≡ number_from more rest
  unfolding number_from with_digit
  number_more {more} h e = rw h (by_case (goes_on v b) refl)
    where
      by_case : (t : Bool) → goes_on v b ≡ t → cond (goes_on v b) (number_from (10 * v + (b - 48)) rest) (record { value = v; rest = rest }) ≡ number_from more rest
      by_case true g = grind arith
      by_case false g = grind arith

  pub number_stops : s ≡ b ∷ rest → None ≡ with_digit v b → number_from v s ≡ record { value = v; rest = rest }
  unfolding number_from with_digit
  number_stops h e = rw h (by_case (goes_on v b) refl)
    where
      by_case : (t : Bool) → goes_on v b ≡ t → cond (goes_on v b) (number_from (10 * v + (b - 48)) rest) (record { value = v; rest = rest }) ≡ record { value = v; rest = rest }
      by_case true g = grind arith
      by_case false g = grind arith

pub number_ends : (v : ℕ) (s : List ℕ) → length s ≡ 0 → number_from v s ≡ record { value = v; rest = s }
unfolding number_from
number_ends v [] h = refl
number_ends v (b ∷ s) h = grind arith
