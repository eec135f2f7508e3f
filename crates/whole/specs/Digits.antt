-- The lower root of a fraction ρ = n/d in s-ths as it is found on paper: digit by digit from the first place on, what is left kept beside the
-- digits.
--   Left s ρ k r       r is what is left beside k: s²·n − d·k²
--   Found s ρ p k      k is the digits down to the place p, with zeros behind them: the largest multiple of p with d·k² ≤ s²·n
--   taken d k x        what x takes off beside k: d·(k + x)² − d·k²
--   Digit d k p r c    c is the digit at the place p behind the digits k: the largest number whose c·p takes no more than r, which is at most 9
--                      where 10·p takes more than r
--   Place p            p is 1, 10, 100, ..
-- Each next digit keeps `Left` and carries `Found` one place on; k is the lower root with zeros in place of its digits behind p, and down to the place 1
-- it is the lower root: proofs/Found.antt.
use Rattle.std.specs.Prelude.{◌≡◌, ℕ, ◌+◌, ◌*◌, ◌^◌, ◌≤◌}
use Rattle.std.specs.Int.{◌∣◌}
use Rattle.whole.specs.declared.Fraction.{Fraction}
use Rattle.whole.specs.Extreme.{Largest}

abbrev pub Left : ℕ → Fraction → ℕ → ℕ → Type 0
Left s ρ k r = r + ρ.den * (k * k) ≡ s * s * ρ.num

abbrev pub Found : ℕ → Fraction → ℕ → ℕ → Type 0
Found s ρ p k = Largest (λ (k : ℕ). (p ∣ k) × (ρ.den * (k * k) ≤ s * s * ρ.num)) k

abbrev pub taken : ℕ → ℕ → ℕ → ℕ
taken d k x = d * ((2 * k + x) * x)

abbrev pub Digit : ℕ → ℕ → ℕ → ℕ → ℕ → Type 0
Digit d k p r c = Largest (λ (c : ℕ). taken d k (c * p) ≤ r) c

pub record Place (p : ℕ) : Type 0 where
  pub zeros : ℕ
  pub place : p ≡ 10 ^ zeros
