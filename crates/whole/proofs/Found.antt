-- The digits found down to a place, and what is left beside them: each next digit keeps what is left and carries the digits one place on. They are the
-- lower root with zeros in place of its digits behind; down to the place 1 they are the lower root.
-- Assumes nothing.
use mathlib.Core.Path.{◌≡◌}
use Prim.Native.Nat.{ℕ, ◌+◌, ◌-◌, ◌*◌, ◌/◌, ◌≤◌, ◌<◌, ◌∣◌}
use native.Mathlib.Nat.{mul-le-mul, mul-le-mul_left, mul-le-mul_right, lt_of_not-le, le_antisymm, div-mul-le_self, le-div_iff_mul-le, one-dvd, dvd-add, dvd-mul_left, dvd_refl, div-mul_cancel}
use native.Mathlib.Decide.{dec_le}
use native.Mathlib.Omega.{arith}
use Rattle.whole.specs.declared.Fraction.{Fraction}
use Rattle.whole.specs.Root.{LowerRoot}
use Rattle.whole.specs.Digits.{Left, Found, taken, Digit}
use Rattle.whole.proofs.Extreme.{largest_same}

module _ (s : ℕ) (ρ : Fraction) where
  pub left_next : (k r x : ℕ) → Left s ρ k r → taken ρ.den k x ≤ r → Left s ρ (k + x) (r - taken ρ.den k x)
  left_next k r x l h = omega arith

  -- beside k, what fits with x more takes no more than is left
  fits_taken : (k r x : ℕ) → Left s ρ k r → ρ.den * ((k + x) * (k + x)) ≤ s * s * ρ.num → taken ρ.den k x ≤ r
  fits_taken k r x l h = omega arith

  pub found_next : (p k r c : ℕ) → p ∣ k → Left s ρ k r → Digit ρ.den k p r c → Found s ρ p (k + c * p)
  found_next p k r c z l g =
      record {
        holds = (dvd-add p z (dvd-mul_left p c), omega (arith, left_next k r (c * p) l g.holds));
        largest = λ j h. past j h (dec_le j (k + c * p));
      }
    where
      past : (j : ℕ) → (p ∣ j) × (ρ.den * (j * j) ≤ s * s * ρ.num) → Dec (j ≤ k + c * p) → j ≤ k + c * p
      past j h (yes q) = q
      past j h (no q) =
          let a = k / p in
          let b = j / p in
          let ea : a * p ≡ k = div-mul_cancel p z in
          let eb : b * p ≡ j = div-mul_cancel p h.0 in
          let m : a + c + 1 ≤ b = more a b ea eb (lt_of_not-le q) in
          let n : k + (c + 1) * p ≤ j = omega (arith, mul-le-mul_right p m, ea, eb) in
          let f = fits_taken k r ((c + 1) * p) l (omega (arith, mul-le-mul_left ρ.den (mul-le-mul n n), h.1)) in
          absurd (omega (arith, g.largest (c + 1) f))
        where
          more : (a b : ℕ) → a * p ≡ k → b * p ≡ j → k + c * p < j → a + c + 1 ≤ b
          more a b ea eb lt = go (dec_le (a + c + 1) b)
            where
              go : Dec (a + c + 1 ≤ b) → a + c + 1 ≤ b
              go (yes y) = y
              go (no n) =
                  let w : b ≤ a + c = omega (arith, lt_of_not-le n) in
                  absurd (omega (arith, mul-le-mul_right p w, ea, eb, lt))

  -- beside digits found down to a place, one more at that place takes more than is left
  pub one_more : (p k r : ℕ) → 0 < p → Found s ρ p k → Left s ρ k r → r < taken ρ.den k p
  one_more p k r pp f l = go (dec_le (taken ρ.den k p) r)
    where
      go : Dec (taken ρ.den k p ≤ r) → r < taken ρ.den k p
      go (yes h) =
          let v = f.largest (k + p) (dvd-add p f.holds.0 (dvd_refl p), omega (arith, left_next k r p l h)) in
          absurd (omega (arith, v, pp))
      go (no n) = lt_of_not-le n

  pub found_is_root : (k : ℕ) → Found s ρ 1 k → LowerRoot s ρ k
  found_is_root k = largest_same (λ j h. omega (arith, h.1)) (λ j h. (one-dvd j, omega (arith, h)))

  pub found_of_root : (p k l : ℕ) → 0 < p → LowerRoot s ρ l → Found s ρ p k → k ≡ l / p * p
  found_of_root p k l pp r f =
      let u : k ≤ l = r.largest k (omega (arith, f.holds.1)) in
      let v : l / p * p ≤ l = div-mul-le_self l p in
      let w : l / p * p ≤ k =
      f.largest (l / p * p) (dvd-mul_left p (l / p), omega (arith, r.holds, mul-le-mul_left ρ.den (mul-le-mul v v))) in
      let e : k / p * p ≡ k = div-mul_cancel p f.holds.0 in
      let q : k / p ≤ l / p = (le-div_iff_mul-le pp).1 (omega (arith, e, u)) in
      le_antisymm (omega (arith, e, mul-le-mul_right p q)) w
