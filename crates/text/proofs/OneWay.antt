-- A line is laid out in one way: two lines at the front of the same bytes have the same word, the same numbers and the same bytes
-- after them. A word and a number end at the first byte that is not above TAB and LF.
--   Unbroken w    each byte of w is above TAB, 9, and LF, 10
-- Assumes nothing.
use mathlib.Core.Path.{◌≡◌, refl, sym, ap, ap₂, ◌∙◌}
use mathlib.Core.List.{List, [], ◌∷◌, ◌++◌, append_assoc}
use Prim.Native.Nat.{ℕ, zero, suc, ◌+◌, ◌^◌, ◌/◌, ◌%◌, ◌≤◌, ◌<◌}
use native.Mathlib.Nat.{lt_of_le_of_lt}
use native.Mathlib.Omega.{arith}
use lib.Dec.{ltb, lit<}
use Rattle.whole.proofs.Choice.{by_test}
use Rattle.text.proofs.Printed.{printed_value}
use Rattle.text.specs.Number.{value}
use Rattle.text.specs.Writing.{digits_of, decimal, field_of, fields_of, laid_out, Short, AllShort}

abbrev pub Unbroken : List ℕ → Type 0
Unbroken [] = Unit {0}
Unbroken (b ∷ w) = (10 < b) × Unbroken w

parted : (w v : List ℕ) (b c : ℕ) (x y : List ℕ) → Unbroken w → Unbroken v → b ≤ 10 → c ≤ 10 → w ++ (b ∷ x) ≡ v ++ (c ∷ y)
    → (w ≡ v) × (b ≡ c) × (x ≡ y)
parted [] [] b c x y p q hb hc e = (refl, cc, cc)
parted [] (d ∷ v) b c x y p q hb hc e =
    let same : b ≡ d = cc in
    absurd (let z : ⊥ = omega (arith, q.0) in z)
parted (a ∷ w) [] b c x y p q hb hc e =
    let same : a ≡ c = cc in
    absurd (let z : ⊥ = omega (arith, p.0) in z)
parted (a ∷ w) (d ∷ v) b c x y p q hb hc e =
    let first : a ≡ d = cc in
    let rest : w ++ (b ∷ x) ≡ v ++ (c ∷ y) = cc in
    let r = parted w v b c x y p.1 q.1 hb hc rest in
    (ap₂ (λ (k : ℕ) (l : List ℕ). k ∷ l) first r.0, r.1, r.2)

-- ---- a number
digits_unbroken : (k n : ℕ) → Unbroken (digits_of k n)
unfolding digits_of
digits_unbroken zero n = (omega arith, tt)
digits_unbroken (suc k) n =
    by_test Unbroken (ltb n 10) _ _ (λ _. (omega arith, tt)) (λ _. join (digits_of k (n / 10)) (digits_unbroken k (n / 10)))
  where
    join : (w : List ℕ) → Unbroken w → Unbroken (w ++ ((48 + n % 10) ∷ []))
    join [] p = (omega arith, tt)
    join (b ∷ w) p = (p.0, join w p.1)

decimal_unbroken : (n : ℕ) → Unbroken (decimal n)
unfolding decimal
decimal_unbroken n = digits_unbroken 19 n

decimal_once : (n m : ℕ) → Short n → Short m → decimal n ≡ decimal m → n ≡ m
unfolding decimal
decimal_once n m s t e = sym (printed_value 19 n (fits n s)) ∙ ap value e ∙ printed_value 19 m (fits m t)
  where
    fits : (k : ℕ) → Short k → k < 10 ^ (19 + 1)
    fits k h = lt_of_le_of_lt h (lit< tt)

-- ---- a line: its word, and LF; or its word, TAB, and a line whose word is its first number
word_lf : (w x : List ℕ) → laid_out w [] ++ x ≡ w ++ (10 ∷ x)
unfolding laid_out fields_of
word_lf w x = append_assoc w (10 ∷ []) x

word_tab : (w : List ℕ) (n : ℕ) (ns x : List ℕ) → laid_out w (n ∷ ns) ++ x ≡ w ++ (9 ∷ (laid_out (decimal n) ns ++ x))
unfolding laid_out fields_of field_of
word_tab w n ns x = simp append_assoc

pub laid_once : (w v ns ms x y : List ℕ) → Unbroken w → Unbroken v → AllShort ns → AllShort ms → laid_out w ns ++ x ≡ laid_out v ms ++ y
    → (w ≡ v) × (ns ≡ ms) × (x ≡ y)
laid_once w v [] [] x y p q s t e =
    let r = parted w v 10 10 x y p q (omega arith) (omega arith) (sym (word_lf w x) ∙ e ∙ word_lf v y) in
    (r.0, refl, r.2)
laid_once w v [] (m ∷ ms) x y p q s t e =
    let r = parted w v 10 9 x _ p q (omega arith) (omega arith) (sym (word_lf w x) ∙ e ∙ word_tab v m ms y) in
    absurd (let z : ⊥ = omega (arith, r.1) in z)
laid_once w v (n ∷ ns) [] x y p q s t e =
    let r = parted w v 9 10 _ y p q (omega arith) (omega arith) (sym (word_tab w n ns x) ∙ e ∙ word_lf v y) in
    absurd (let z : ⊥ = omega (arith, r.1) in z)
laid_once w v (n ∷ ns) (m ∷ ms) x y p q s t e =
    let r = parted w v 9 9 _ _ p q (omega arith) (omega arith) (sym (word_tab w n ns x) ∙ e ∙ word_tab v m ms y) in
    let l = laid_once (decimal n) (decimal m) ns ms x y (decimal_unbroken n) (decimal_unbroken m) s.1 t.1 r.2 in
    (r.0, ap₂ (λ (k : ℕ) (ks : List ℕ). k ∷ ks) (decimal_once n m s.0 t.0 l.0) l.1, l.2)
