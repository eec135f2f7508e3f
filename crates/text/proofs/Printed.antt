-- The digits of a number, read again: which they are, what they write, how many there are, and that none leads with a needless 0.
-- Assumes nothing.
use mathlib.Core.Path.{◌≡◌, refl, ap, ◌∙◌}
use mathlib.Core.Bool.{Bool, true, false, and-false}
use mathlib.Core.List.{List, [], ◌∷◌, ◌++◌, append_assoc, append-nil}
use Prim.Native.Nat.{ℕ, zero, suc, ◌+◌, ◌-◌, ◌*◌, ◌^◌, ◌/◌, ◌%◌, ◌≤◌, ◌<◌}
use native.Mathlib.Nat.{pow-suc, lt_of_lt_of_le}
use native.Mathlib.Numerals.{add-one}
use native.Mathlib.Omega.{arith}
use lib.Dec.{leb, ltb, lit≤}
use lib.ListN.{length, get_or, length-append}
use borrow.Author.Tests.{le-leb, ne_eqb, leb-true, leb-false}
use Rattle.limits.specs.Ranges.{in_range}
use Rattle.text.proofs.Decimal.{digits_small, digits_big, tenth}
use Rattle.text.specs.Number.{digits, value, value_from, leading_zero}
use Rattle.text.specs.Writing.{digits_of, decimal}

-- a statement about the digits of n, by their last one: n is below 10, or n / 10 has one digit less
by_last : (P : ℕ → ℕ → Type 0) → ((k n : ℕ) → n < 10 → P k n) → ((k n : ℕ) → 10 ≤ n → P k (n / 10) → P (suc k) n)
    → (k n : ℕ) → n < 10 ^ (k + 1) → P k n
by_last P small big zero n h = small zero n h
by_last P small big (suc k) n h = go (leb 10 n) refl (by_last P small big k (n / 10) (tenth k n h))
  where
    go : (t : Bool) → leb 10 n ≡ t → P k (n / 10) → P (suc k) n
    go true e ih = big k n (leb-true 10 n e) ih
    go false e ih = small (suc k) n (leb-false 10 n e)

-- ---- they are the digits at the front
digit_front : (x : ℕ) (l : List ℕ) → x < 10 → digits ((48 + x) ∷ l) ≡ (48 + x) ∷ digits l
unfolding digits in_range
digit_front x l h = simp (le-leb 48 (48 + x) (omega arith), le-leb (48 + x) 57 (omega arith))

pub printed_digits : (k n : ℕ) → n < 10 ^ (k + 1) → (l : List ℕ) → digits (digits_of k n ++ l) ≡ digits_of k n ++ digits l
printed_digits =
    by_last (λ (k n : ℕ). (l : List ℕ) → digits (digits_of k n ++ l) ≡ digits_of k n ++ digits l)
    (λ k n s l. rw (digits_small k n s) (digit_front (n % 10) l (omega arith)))
    (λ k n b ih l.
    let d = 48 + n % 10 in
    rw (digits_big k n b, append_assoc (digits_of k (n / 10)) (d ∷ []) l, append_assoc (digits_of k (n / 10)) (d ∷ []) (digits l))
    (ih (d ∷ l) ∙ ap (λ (z : List ℕ). digits_of k (n / 10) ++ z) (digit_front (n % 10) l (omega arith))))

-- ---- they write the number
value_last : (v b : ℕ) (ds : List ℕ) → value_from v (ds ++ (b ∷ [])) ≡ 10 * value_from v ds + (b - 48)
unfolding value_from
value_last v b [] = refl
value_last v b (d ∷ ds) = value_last (10 * v + (d - 48)) b ds

pub printed_value : (k n : ℕ) → n < 10 ^ (k + 1) → value (digits_of k n) ≡ n
unfolding value_from
printed_value =
    by_last (λ (k n : ℕ). value (digits_of k n) ≡ n)
    (λ k n s. rw (digits_small k n s) (omega arith))
    (λ k n b ih. rw (digits_big k n b) (value_last 0 (48 + n % 10) (digits_of k (n / 10)) ∙ omega (arith, ih)))

-- ---- how many there are
pub printed_some : (k n : ℕ) → n < 10 ^ (k + 1) → 1 ≤ length (digits_of k n)
printed_some =
    by_last (λ (k n : ℕ). 1 ≤ length (digits_of k n))
    (λ k n s. rw (digits_small k n s) (omega arith))
    (λ k n b ih. rw (digits_big k n b) (simp length-append (omega arith)))

pub printed_few : (j k n : ℕ) → n < 10 ^ (j + 1) → n < 10 ^ (k + 1) → length (digits_of k n) ≤ j + 1
printed_few j k n h f =
    by_last (λ (k n : ℕ). (j : ℕ) → n < 10 ^ (j + 1) → length (digits_of k n) ≤ j + 1)
    (λ k n s j h. rw (digits_small k n s) (omega arith))
    (λ k n b ih j h. step k n b ih j h) k n f j h
  where
    step : (k n : ℕ) → 10 ≤ n → ((j : ℕ) → n / 10 < 10 ^ (j + 1) → length (digits_of k (n / 10)) ≤ j + 1) → (j : ℕ)
        → n < 10 ^ (j + 1)
        → length (digits_of (suc k) n) ≤ j + 1
    step k n b ih zero h = absurd (let z : ⊥ = omega arith in z)
    step k n b ih (suc j) h = rw (digits_big k n b) (simp length-append (omega (arith, ih j (tenth j n h))))

pub printed_many : (j k n : ℕ) → 10 ^ j ≤ n → n < 10 ^ (k + 1) → j < length (digits_of k n)
printed_many j k n h f =
    by_last (λ (k n : ℕ). (j : ℕ) → 10 ^ j ≤ n → j < length (digits_of k n))
    small
    step k n f j h
  where
    small : (k n : ℕ) → n < 10 → (j : ℕ) → 10 ^ j ≤ n → j < length (digits_of k n)
    small k n s zero h = rw (digits_small k n s) (omega arith)
    small k n s (suc j) h = absurd (let z : ⊥ = omega (arith, pow-suc 10 j, positive j) in z)
      where
        positive : (i : ℕ) → 1 ≤ 10 ^ i
        positive zero = omega arith
        positive (suc i) = omega (arith, pow-suc 10 i, positive i)

    step : (k n : ℕ) → 10 ≤ n → ((j : ℕ) → 10 ^ j ≤ n / 10 → j < length (digits_of k (n / 10))) → (j : ℕ) → 10 ^ j ≤ n
        → j < length (digits_of (suc k) n)
    step k n b ih zero h = rw (digits_big k n b) (simp length-append (omega arith))
    step k n b ih (suc j) h = rw (digits_big k n b) (simp length-append (omega (arith, ih j (omega (arith, pow-suc 10 j)))))

pub printed_length : (j n : ℕ) → 10 ^ j ≤ n → n < 10 * 10 ^ j → n < 2 ^ 64 → j + 1 ≡ length (decimal n)
unfolding decimal
printed_length j n h s f =
    let small : n < 10 ^ (j + 1) = rw (add-one j, pow-suc 10 j) (omega arith) in
    let fits : n < 10 ^ (19 + 1) = lt_of_lt_of_le f (lit≤ tt) in
    omega (arith, printed_many j 19 n h fits, printed_few j 19 n small fits)

-- ---- a number above 0 does not begin with 0
first_some : (k n : ℕ) → n < 10 ^ (k + 1) → 0 < n → (l : List ℕ) → 48 < get_or (digits_of k n ++ l) 0 0
first_some =
    by_last (λ (k n : ℕ). 0 < n → (l : List ℕ) → 48 < get_or (digits_of k n ++ l) 0 0)
    (λ k n s p l. rw (digits_small k n s) (omega arith))
    (λ k n b ih p l. rw (digits_big k n b, append_assoc (digits_of k (n / 10)) ((48 + n % 10) ∷ []) l)
    (ih (omega arith) ((48 + n % 10) ∷ l)))

pub printed_lead : (k n : ℕ) → n < 10 ^ (k + 1) → leading_zero (length (digits_of k n)) (get_or (digits_of k n) 0 0) ≡ false
printed_lead k n h = go (leb n 0) refl
  where
    go : (t : Bool) → leb n 0 ≡ t → leading_zero (length (digits_of k n)) (get_or (digits_of k n) 0 0) ≡ false
    go true e =
        let z : n < 10 = omega (arith, leb-true n 0 e) in
        rw (digits_small k n z)
    go false e =
        let some : 48 < get_or (digits_of k n) 0 0 = rw (append-nil (digits_of k n)) at (first_some k n h (leb-false n 0 e) []) in
        simp (ne_eqb (get_or (digits_of k n) 0 0) 48 (λ q. let z : ⊥ = omega arith in z)) (and-false (ltb 1 (length (digits_of k n))))
