-- Readings one after the other, as the code takes them: each answer with the bytes after it.
-- Assumes nothing.
use mathlib.Core.Path.{◌≡◌, refl, sym, ap, ◌∙◌}
use mathlib.Core.List.{List}
use Prim.Native.Nat.{ℕ, ◌+◌}
use native.Mathlib.Omega.{arith}
use lib.ListN.{drop}
use lib.Seq.{drop-drop}
use denote.Ref.{Bor}
use Rattle.std.specs.Prelude.{Option, Some, None}
use Rattle.limits.specs.Outcome.{Done}
use Rattle.text.specs.Reading.{Reading, found, otherwise, Reader, read, later, next, left, beside, and_rest, rest, ◌>>=◌}

-- ---- an answer that finds nothing
pub nothing : {A X : Type 0} {a : A} {n : ℕ} → ◌≡◌ {A = Reading A} otherwise (found a n) → X
nothing e = absurd (let z : ◌≡◌ {A = ℕ} 0 1 = cc in let b : ⊥ = omega arith in b)

missed : {A : Type 0} (s : List ℕ) (o : Reading A) → left o s ≡ None → o ≡ otherwise
unfolding left
missed s (found a n) e = cc
missed s otherwise e = refl

pub beside_missed : {A : Type 0} (a : A) (s : List ℕ) (o : Reading A) (r : Option (Bor (List ℕ))) → beside a r ≡ left o s → r ≡ None
    → o ≡ otherwise
beside_missed a s o r e is = missed s o (sym e ∙ ap (beside a) is)

pub word_missed : (s : List ℕ) (o : Reading Done) (r : Option (Bor (List ℕ))) → rest r ≡ left o s → r ≡ None → o ≡ otherwise
word_missed = beside_missed tt

pub value_missed : {A : Type 0} (s : List ℕ) (o : Reading A) (r : Option (A × Bor (List ℕ))) → and_rest r ≡ left o s → r ≡ None
    → o ≡ otherwise
value_missed s o r e is = missed s o (sym e ∙ ap and_rest is)

-- ---- what is found, and the bytes after it
pub record Went {A : Type 0} (s t : List ℕ) (o : Reading A) (a : A) : Type 0 where
  pub used : ℕ
  pub is : o ≡ found a used
  pub to : drop used s ≡ t

went : {A : Type 0} (s t : List ℕ) (o : Reading A) (a : A) → left o s ≡ Some (a, t) → Went s t o a
unfolding left
went {A} s t (found b n) a e =
    let held : ◌≡◌ {A = A × List ℕ} (b, drop n s) (a, t) = cc in
    record { used = n; is = ap (λ (p : A × List ℕ). found p.0 n) held; to = ap (λ (p : A × List ℕ). p.1) held }
went s t otherwise a e = cc

pub beside_went : {A : Type 0} (a : A) (s : List ℕ) (o : Reading A) (r : Option (Bor (List ℕ))) (b : Bor (List ℕ)) → beside a r ≡ left o s
    → r ≡ Some b → Went s b.now o a
beside_went a s o r b e is = went s b.now o a (sym e ∙ ap (beside a) is)

pub word_went : (s : List ℕ) (o : Reading Done) (r : Option (Bor (List ℕ))) (b : Bor (List ℕ)) → rest r ≡ left o s → r ≡ Some b
    → Went s b.now o tt
word_went = beside_went tt

pub value_went : {A : Type 0} (s : List ℕ) (o : Reading A) (r : Option (A × Bor (List ℕ))) (p : A × Bor (List ℕ))
    → and_rest r ≡ left o s → r ≡ Some p → Went s p.1.now o p.0
value_went s o r p e is = went s p.1.now o p.0 (sym e ∙ ap and_rest is)

-- ---- what is read after it is read from there
pub left_later : {A : Type 0} (s : List ℕ) (n : ℕ) (o : Reading A) → left (later n o) s ≡ left o (drop n s)
unfolding left
left_later s n (found a m) = ap (λ (l : List ℕ). Some (a, l)) (sym (drop-drop m n s))
left_later s n otherwise = refl

module _ {A B : Type 0} {s t : List ℕ} {o : Reading A} {a : A} (w : Went s t o a) where
  pub onward : (f : A → Reader B) → left (next o f s) s ≡ left (f a t) t
  onward f = rw w.is (left_later s w.used (f a (drop w.used s)) ∙ rw w.to)

-- ---- two readings, the second from where the first ended
module _ {A B : Type 0} (r : Reader A) (f : A → Reader B) {s t : List ℕ} {a : A} (w : Went s t (r s) a) where
  pub then_went : {x : List ℕ} {v : B} → Went t x (f a t) v → Went s x ((r >>= f) s) v
  then_went {x} {v} u =
      record {
        used = w.used + u.used;
        is = rw (w.is, w.to, u.is);
        to = sym (drop-drop u.used w.used s) ∙ ap (λ (l : List ℕ). drop u.used l) w.to ∙ u.to;
      }

  pub then_missed : f a t ≡ otherwise → (r >>= f) s ≡ otherwise
  then_missed o = rw (w.is, w.to, o)

pub first_missed : {A B : Type 0} (r : Reader A) (f : A → Reader B) {s : List ℕ} → r s ≡ otherwise → (r >>= f) s ≡ otherwise
first_missed r f o = rw o

pub read_went : {A : Type 0} (s : List ℕ) (a : A) → Went s s (read a s) a
read_went s a = record { used = 0; is = refl; to = refl }

-- ---- the answer to a reading that is known
pub no_answer : {A : Type 0} (s : List ℕ) (o : Reading A) → o ≡ otherwise → None ≡ left o s
unfolding left
no_answer s o e = rw e

pub answer : {A : Type 0} {s t : List ℕ} {o : Reading A} {a : A} → Went s t o a → Some (a, t) ≡ left o s
unfolding left
answer w = rw (w.is, w.to)
