-- The digits of a number: how many there are, and how they are written.
-- Assumes nothing.
use mathlib.Core.Path.{◌≡◌, refl, sym, ap, ◌∙◌}
use mathlib.Core.Bool.{Bool, true, false}
use mathlib.Core.List.{List, [], ◌∷◌, ◌++◌}
use Prim.Native.Nat.{ℕ, zero, suc, ◌+◌, ◌*◌, ◌^◌, ◌/◌, ◌%◌, ◌≤◌, ◌<◌}
use native.Mathlib.Nat.{pow-suc}
use native.Mathlib.Numerals.{add-one}
use native.Mathlib.Omega.{arith}
use lib.Dec.{leb, ltb}
use lib.ListN.{length, set, length-append, length-set}
use borrow.Author.Tests.{lt-ltb, le-ltb, leb-true, leb-false}
use Rattle.whole.specs.Choice.{pick}
use Rattle.whole.proofs.Choice.{by_leb}
use Rattle.text.proofs.Spliced.{spliced_one, spliced_last}
use Rattle.text.specs.Writing.{digits_of, decimal, spliced}

pub digits_small : (k n : ℕ) → n < 10 → digits_of k n ≡ (48 + n % 10) ∷ []
unfolding digits_of
digits_small zero n h = refl
digits_small (suc k) n h = simp (lt-ltb _ _ h)

pub digits_big : (k n : ℕ) → 10 ≤ n → digits_of (suc k) n ≡ digits_of k (n / 10) ++ ((48 + n % 10) ∷ [])
unfolding digits_of
digits_big k n h = simp (le-ltb _ _ h)

-- a digit less
pub tenth : (k n : ℕ) → n < 10 ^ (suc k + 1) → n / 10 < 10 ^ (k + 1)
tenth k n h =
    let e : 10 ^ (suc k + 1) ≡ 10 ^ (k + 1) * 10 = rw (add-one (suc k), add-one k) (pow-suc 10 (suc k)) in
    omega (arith, e)

-- where k + 1 digits are enough, one more changes nothing
pub digits_enough : (k n : ℕ) → n < 10 ^ (k + 1) → digits_of (suc k) n ≡ digits_of k n
digits_enough zero n h = digits_small 1 n h ∙ sym (digits_small 0 n h)
digits_enough (suc k) n h = go (leb 10 n) refl (digits_enough k (n / 10) (tenth k n h))
  where
    go : (t : Bool) → leb 10 n ≡ t → digits_of (suc k) (n / 10) ≡ digits_of k (n / 10)
        → digits_of (suc (suc k)) n ≡ digits_of (suc k) n
    go true e ih =
        let b = leb-true 10 n e in
        digits_big (suc k) n b ∙ ap (λ (l : List ℕ). l ++ ((48 + n % 10) ∷ [])) ih ∙ sym (digits_big k n b)
    go false e ih =
        let s = leb-false 10 n e in
        digits_small (suc (suc k)) n s ∙ sym (digits_small (suc k) n s)

decimal_small : (n : ℕ) → n < 10 → decimal n ≡ (48 + n % 10) ∷ []
unfolding decimal
decimal_small n h = digits_small 19 n h

-- a number of 64 bits has 20 digits at the most
decimal_big : (n : ℕ) → 10 ≤ n → n < 2 ^ 64 → decimal n ≡ decimal (n / 10) ++ ((48 + n % 10) ∷ [])
unfolding decimal
decimal_big n h f =
    let few : n / 10 < 10 ^ (18 + 1) = omega arith in
    digits_big 18 n h ∙ ap (λ (l : List ℕ). l ++ ((48 + n % 10) ∷ [])) (sym (digits_enough 18 (n / 10) few))

digits_most : (k n : ℕ) → length (digits_of k n) ≤ k + 1
unfolding digits_of
digits_most zero n = omega arith
digits_most (suc k) n = go (ltb n 10) (digits_most k (n / 10))
  where
    go : (t : Bool) → length (digits_of k (n / 10)) ≤ k + 1
        → length (pick t ((48 + n % 10) ∷ []) (digits_of k (n / 10) ++ ((48 + n % 10) ∷ []))) ≤ suc k + 1
    go true ih = omega arith
    go false ih = simp length-append (omega arith)

pub decimal_most : (n : ℕ) → length (decimal n) ≤ 20
unfolding decimal
decimal_most n = digits_most 19 n

-- ---- a digit more than the tenth has
pub length_small : (n : ℕ) → n < 10 → length (decimal n) ≡ 1
length_small n h = ap length (decimal_small n h)

pub length_big : (n : ℕ) → 10 ≤ n → n < 2 ^ 64 → length (decimal n) ≡ length (decimal (n / 10)) + 1
length_big n h f = ap length (decimal_big n h f) ∙ length-append (decimal (n / 10)) ((48 + n % 10) ∷ [])

length_some : (n : ℕ) → n < 2 ^ 64 → 0 < length (decimal n)
length_some n f =
    by_leb (λ (_ : Bool). 0 < length (decimal n)) 10 n true false
    (λ h. omega (arith, length_big n h f)) (λ h. omega (arith, length_small n h))

-- ---- a number written digit by digit, the last one first: a buffer that held old holds `held`, and is as wanted when the
-- digits of `rest` are written too, which end before p; where p is at the front it is as wanted
pub record Left (old : List ℕ) (at n : ℕ) (held : List ℕ) (rest p : ℕ) : Type 0 where
  pub more : at < p → (spliced held at (decimal rest) ≡ spliced old at (decimal n)) × (p ≡ at + length (decimal rest))
  pub done : p ≤ at → held ≡ spliced old at (decimal n)
  pub size : length held ≡ length old

pub left_all : (old : List ℕ) (at n p : ℕ) → p ≡ at + length (decimal n) → n < 2 ^ 64 → Left old at n old n p
left_all old at n p e f =
    record {
      more = λ _. (refl, e);
      done = λ h. absurd (let z : ⊥ = omega (arith, length_some n f) in z);
      size = refl;
    }

module _ {old : List ℕ} {at n : ℕ} {held : List ℕ} {rest p q : ℕ} (l : Left old at n held rest p) (next : p ≡ q + 1) (from : at ≤ q)
    (room : q < length held) (d : ℕ) (e : d ≡ 48 + rest % 10) (f : rest < 2 ^ 64) where
  less : 10 ≤ rest → Left old at n (set held q d) (rest / 10) q
  less big =
      let m = l.more (omega arith) in
      let tens = decimal (rest / 10) in
      let last : q ≡ at + length tens = omega (arith, m.1, length_big rest big f) in
      record {
        more =
            λ _. (
              rw (last, e)
                  (spliced_last held at tens (48 + rest % 10) (omega (arith, m.1, length_big rest big f))
                  ∙ ap (spliced held at) (sym (decimal_big rest big f))
                  ∙ m.0),
              last,
            );
        done = λ h. absurd (let z : ⊥ = omega (arith, length_some (rest / 10) (omega arith)) in z);
        size = length-set held q d ∙ l.size;
      }

  one : rest < 10 → Left old at n (set held q d) (rest / 10) q
  one s =
      let m = l.more (omega arith) in
      let front : q ≡ at = omega (arith, m.1, length_small rest s) in
      record {
        more = λ h. absurd (let z : ⊥ = omega arith in z);
        done =
            λ _. rw (front, e)
            (spliced_one held at (48 + rest % 10) (omega arith)
            ∙ ap (spliced held at) (sym (decimal_small rest s))
            ∙ m.0);
        size = length-set held q d ∙ l.size;
      }

  pub left_less : Left old at n (set held q d) (rest / 10) q
  left_less = by_leb (λ (_ : Bool). Left old at n (set held q d) (rest / 10) q) 10 rest true false less one
