-- Digits as they stand at the front of bytes, and the number that they write: without a leading zero they are its decimal.
--   Digital ds    every byte is a digit
-- Assumes nothing.
use mathlib.Core.Path.{◌≡◌, refl, sym, ap, ap₂, ◌∙◌}
use mathlib.Core.Bool.{Bool, true, false, ◌&&◌, not}
use mathlib.Core.List.{List, [], ◌∷◌, ◌++◌, append_assoc, append-nil}
use Prim.Native.Nat.{ℕ, zero, suc, ◌+◌, ◌-◌, ◌*◌, ◌^◌, ◌/◌, ◌%◌, ◌≤◌, ◌<◌}
use native.Mathlib.Nat.{add-zero, zero-add, pow-suc, pow-le-pow_right, lt_of_lt_of_le, mul-le-mul_right}
use native.Mathlib.Numerals.{add-one}
use native.Mathlib.Omega.{arith}
use lib.Dec.{leb, ltb, lit<}
use lib.ListN.{length, drop}
use borrow.Author.Tests.{leb-true, eqb-false, lt-ltb}
use Rattle.whole.specs.Choice.{pick}
use Rattle.limits.specs.Ranges.{in_range}
use Rattle.text.proofs.Decimal.{digits_small, digits_big, digits_enough}
use Rattle.text.specs.Number.{digits, value, value_from, leading_zero, well_made}
use Rattle.text.specs.Writing.{digits_of, decimal, Short}
use Rattle.limits.proofs.Passed.{differ}

pub both : (a b : Bool) → (a && b) ≡ true → (a ≡ true) × (b ≡ true)
both true b e = (refl, e)
both false b e = absurd (differ (sym e))

abbrev pub Digital : List ℕ → Type 0
Digital [] = Unit {0}
Digital (b ∷ ds) = (48 ≤ b) × (b ≤ 57) × Digital ds

pub within_digit : (b : ℕ) → in_range 48 57 b ≡ true → (48 ≤ b) × (b ≤ 57)
unfolding in_range
within_digit b e =
    let r = both (leb 48 b) (leb b 57) e in
    (leb-true 48 b r.0, leb-true b 57 r.1)

pub digits_digital : (l : List ℕ) → Digital (digits l)
unfolding digits
digits_digital [] = tt
digits_digital (b ∷ l) = go (in_range 48 57 b) refl (digits_digital l)
  where
    go : (t : Bool) → in_range 48 57 b ≡ t → Digital (digits l) → Digital (pick t (b ∷ digits l) [])
    go true e d = let r = within_digit b e in (r.0, r.1, d)
    go false e d = tt

-- they stand at the front
pub digits_front : (l : List ℕ) → l ≡ digits l ++ drop (length (digits l)) l
unfolding digits
digits_front [] = refl
digits_front (b ∷ l) = go (in_range 48 57 b) (digits_front l)
  where
    go : (t : Bool) → l ≡ digits l ++ drop (length (digits l)) l
        → b ∷ l ≡ pick t (b ∷ digits l) [] ++ drop (length (pick t (b ∷ digits l) [])) (b ∷ l)
    go true e = ap (λ (m : List ℕ). b ∷ m) e
    go false e = refl

-- a number above 0, and digits after those of it
value_digits : (v k : ℕ) (ds : List ℕ) → 1 ≤ v → Digital ds → digits_of (k + length ds) (value_from v ds) ≡ digits_of k v ++ ds
unfolding value_from
value_digits v k [] h d = rw (add-zero k) (sym (append-nil (digits_of k v)))
value_digits v k (b ∷ ds) h d =
    let w = 10 * v + (b - 48) in
    let more : k + suc (length ds) ≡ suc k + length ds = omega arith in
    let tens : w / 10 ≡ v = omega (arith, d.0, d.1) in
    let last : 48 + w % 10 ≡ b = omega (arith, d.0, d.1) in
    ap (λ (j : ℕ). digits_of j (value_from w ds)) more
    ∙ value_digits w (suc k) ds (omega arith) d.2
    ∙ ap (λ (l : List ℕ). l ++ ds) (digits_big k w (omega arith) ∙ ap₂ (λ (t u : ℕ). digits_of k t ++ (u ∷ [])) tens last)
    ∙ append_assoc (digits_of k v) (b ∷ []) ds

value_below : (v : ℕ) (ds : List ℕ) → Digital ds → value_from v ds < (v + 1) * 10 ^ length ds
unfolding value_from
value_below v [] d = omega arith
value_below v (b ∷ ds) d =
    let w = 10 * v + (b - 48) in
    let p = 10 ^ length ds in
    let s : w + 1 ≤ 10 * (v + 1) = omega (arith, d.0, d.1) in
    let e : 10 * (v + 1) * p ≡ (v + 1) * (p * 10) = omega arith in
    rw (pow-suc 10 (length ds), ← e) (lt_of_lt_of_le (value_below w ds d.2) (mul-le-mul_right p s))

-- more digits than are needed change nothing
digits_room : (j m n : ℕ) → n < 10 ^ (j + 1) → digits_of (j + m) n ≡ digits_of j n
digits_room j zero n h = ap (λ (i : ℕ). digits_of i n) (add-zero j)
digits_room j (suc m) n h =
    let one : j + suc m ≡ suc (j + m) = omega arith in
    ap (λ (i : ℕ). digits_of i n) one
    ∙ digits_enough (j + m) n (lt_of_lt_of_le h (pow-le-pow_right (lit< tt) (omega arith)))
    ∙ digits_room j m n h

-- digits without a leading zero are the decimal of what they write
first_value : (b : ℕ) → 10 * 0 + (b - 48) ≡ b - 48
first_value b = omega arith

digit_back : (b : ℕ) → 48 ≤ b → b ≤ 57 → 48 + (b - 48) % 10 ≡ b
digit_back b h g = omega arith

module _ (b : ℕ) (ds : List ℕ) (d : Digital (b ∷ ds)) (few : length ds ≤ 8) where
  below : value_from (b - 48) ds < 10 ^ (length ds + 1)
  below =
      let s : b - 48 + 1 ≤ 10 = omega (arith, d.0, d.1) in
      let e : 10 * 10 ^ length ds ≡ 10 ^ (length ds + 1) = rw (add-one (length ds), pow-suc 10 (length ds)) (omega arith) in
      rw (← e) (lt_of_lt_of_le (value_below (b - 48) ds d.2) (mul-le-mul_right (10 ^ length ds) s))

  short_back : Short (value (b ∷ ds))
  unfolding value_from
  short_back =
      let most : length ds + 1 ≤ 9 = omega arith in
      let p : 10 ^ (length ds + 1) ≤ 10 ^ 9 = pow-le-pow_right (lit< tt) most in
      rw (first_value b) (omega (arith, below, p))

  some_back : 1 ≤ b - 48 → decimal (value (b ∷ ds)) ≡ b ∷ ds
  unfolding decimal value_from digits_of
  some_back h =
      let n = value_from (b - 48) ds in
      let room : length ds + (19 - length ds) ≡ 19 = omega arith in
      rw (first_value b)
      (ap (λ (k : ℕ). digits_of k n) (sym room)
      ∙ digits_room (length ds) (19 - length ds) n below
      ∙ ap (λ (k : ℕ). digits_of k n) (sym (zero-add (length ds)))
      ∙ value_digits (b - 48) 0 ds h d.2
      ∙ ap (λ (x : ℕ). x ∷ ds) (digit_back b d.0 d.1))

decimal_back : (b : ℕ) (ds : List ℕ) → Digital (b ∷ ds) → length ds ≤ 8 → leading_zero (suc (length ds)) b ≡ false
    → decimal (value (b ∷ ds)) ≡ b ∷ ds
unfolding decimal value_from
decimal_back b [] d few e =
    rw (first_value b)
    (digits_small 19 (b - 48) (omega (arith, d.0, d.1)) ∙ ap (λ (x : ℕ). x ∷ []) (digit_back b d.0 d.1))
decimal_back b (c ∷ ds) d few e =
    let more : ltb 1 (suc (suc (length ds))) ≡ true = lt-ltb 1 (suc (suc (length ds))) (omega arith) in
    let not_zero : b ≡ 48 → ⊥ = eqb-false b 48 (rw more at e) in
    some_back b (c ∷ ds) d few (omega (arith, d.0))

no_zero : (t : Bool) → not t ≡ true → t ≡ false
no_zero true e = sym e
no_zero false e = refl

pub made_back : (ds : List ℕ) → Digital ds → well_made ds ≡ true → (decimal (value ds) ≡ ds) × Short (value ds)
unfolding well_made in_range
made_back [] d e = absurd (differ (sym e))
made_back (b ∷ ds) d e =
    let w = both (leb 1 (suc (length ds)) && leb (suc (length ds)) 9) (not (leading_zero (suc (length ds)) b)) e in
    let few = leb-true (suc (length ds)) 9 (both (leb 1 (suc (length ds))) (leb (suc (length ds)) 9) w.0).1 in
    (decimal_back b ds d (omega arith) (no_zero (leading_zero (suc (length ds)) b) w.1), short_back b ds d (omega arith))
