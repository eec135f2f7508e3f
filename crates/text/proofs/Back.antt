-- What is read was written so: a number stands there in decimal, a line as it is laid out, and nothing else is read.
--   Backs r W    W holds of what r reads and of the bytes x that it takes from the front
-- Assumes nothing.
use mathlib.Core.Path.{◌≡◌, refl, sym, ap, ap₂, subst, ◌∙◌}
use mathlib.Core.Bool.{Bool, true, false}
use mathlib.Core.List.{List, [], ◌∷◌, ◌++◌, append_assoc, append-nil}
use Prim.Native.Nat.{ℕ, zero, suc, ◌+◌}
use lib.Dec.{eqb}
use lib.ListN.{length, drop}
use lib.Seq.{drop-drop}
use borrow.Author.Tests.{eqb-true}
use Rattle.whole.specs.Choice.{pick}
use Rattle.text.specs.Line.{tab, lf, field, fields, line}
use Rattle.text.specs.Number.{digits, value, well_made, number}
use Rattle.text.specs.Reading.{Reading, found, otherwise, Reader, read, later, next, starts, word, ◌>>=◌, ◌>>◌}
use Rattle.text.specs.Writing.{decimal, field_of, fields_of, laid_out, Short, AllShort}
use Rattle.limits.proofs.Passed.{differ}
use Rattle.text.proofs.Digital.{both, digits_digital, digits_front, made_back}
use Rattle.text.proofs.Readings.{nothing}

abbrev pub Backs : {A : Type 0} → Reader A → (A → List ℕ → Type 0) → Type 0
Backs {A} r W = (l : List ℕ) (a : A) (n : ℕ) → r l ≡ found a n → (x : List ℕ) × (l ≡ x ++ drop n l) × W a x

number_back : Backs number (λ v x. (x ≡ decimal v) × Short v)
unfolding number
number_back l v n e = go (well_made (digits l)) refl e
  where
    go : (t : Bool) → well_made (digits l) ≡ t → pick t (found (value (digits l)) (length (digits l))) otherwise ≡ found v n
        → (x : List ℕ) × (l ≡ x ++ drop n l) × ((x ≡ decimal v) × Short v)
    go true p q =
        let ev : value (digits l) ≡ v = cc in
        let en : length (digits l) ≡ n = cc in
        let m = made_back (digits l) (digits_digital l) p in
        rw (← ev, ← en) (digits l, digits_front l, (sym m.0, m.1))
    go false p q = nothing q

word_back : (w : List ℕ) → Backs (word w) (λ _ x. x ≡ w)
unfolding word starts
word_back w l a n e = go (starts w l) refl e
  where
    front : (w l : List ℕ) → starts w l ≡ true → l ≡ w ++ drop (length w) l
    front [] l e = refl
    front (a ∷ w) [] e = absurd (differ (sym e))
    front (a ∷ w) (b ∷ l) e =
        let s = both (eqb a b) (starts w l) e in
        ap₂ (λ (x : ℕ) (m : List ℕ). x ∷ m) (sym (eqb-true a b s.0)) (front w l s.1)

    go : (t : Bool) → starts w l ≡ t → pick t (found tt (length w)) otherwise ≡ found a n → (x : List ℕ)
        × (l ≡ x ++ drop n l) × (x ≡ w)
    go true p q =
        let en : length w ≡ n = cc in
        (w, rw (← en) (front w l p), refl)
    go false p q = nothing q

read_back : {A : Type 0} (a : A) → Backs (read a) (λ b x. (b ≡ a) × (x ≡ []))
read_back a l b n e =
    let en : 0 ≡ n = cc in
    ([], ap (λ (k : ℕ). drop k l) en, (cc, refl))

-- one reading after the other
then_back : {A B : Type 0} (r : Reader A) (f : A → Reader B) {WA : A → List ℕ → Type 0} {Wb : A → B → List ℕ → Type 0}
    (W : B → List ℕ → Type 0)
    → Backs r WA → ((a : A) → Backs (f a) (Wb a)) → ((a : A) (b : B) (x y : List ℕ) → WA a x → Wb a b y → W b (x ++ y))
    → Backs (r >>= f) W
then_back {A} {B} r f {WA} {Wb} W rb fb join l b n e = first (r l) refl e
  where
    second : (a : A) (m : ℕ) → r l ≡ found a m → (o : Reading B) → f a (drop m l) ≡ o → later m o ≡ found b n
        → (z : List ℕ) × (l ≡ z ++ drop n l) × W b z
    second a m p (found b' k) q u =
        let eb : b' ≡ b = cc in
        let en : m + k ≡ n = cc in
        let x = rb l a m p in
        let y = fb a (drop m l) b' k q in
        let all : l ≡ (x.0 ++ y.0) ++ drop (m + k) l =
        x.1 ∙ ap (λ (s : List ℕ). x.0 ++ s) (y.1 ∙ ap (λ (s : List ℕ). y.0 ++ s) (drop-drop k m l))
        ∙ sym (append_assoc x.0 y.0 (drop (m + k) l)) in
        (x.0 ++ y.0, rw (← en) all, subst (λ (c : B). W c (x.0 ++ y.0)) eb (join a b' x.0 y.0 x.2 y.2))
    second a m p otherwise q u = nothing u

    first : (o : Reading A) → r l ≡ o → next o f l ≡ found b n → (z : List ℕ) × (l ≡ z ++ drop n l) × W b z
    first (found a m) p u = second a m p (f a (drop m l)) refl u
    first otherwise p u = nothing u

-- ---- a field, fields, a line
field_back : Backs field (λ v x. (x ≡ field_of v) × Short v)
unfolding field field_of
field_back =
    then_back (word tab) (λ _. number) (λ v x. (x ≡ tab ++ decimal v) × Short v) (word_back tab) (λ _. number_back)
    (λ _ v x y p q. (ap₂ (λ (s t : List ℕ). s ++ t) p q.0, q.1))

pub record Fields (k : ℕ) (ns x : List ℕ) : Type 0 where
  pub is : x ≡ fields_of ns
  pub short : AllShort ns
  pub count : length ns ≡ k

fields_none : (ns x : List ℕ) → (ns ≡ []) × (x ≡ []) → Fields 0 ns x
unfolding fields_of
fields_none ns x e = rw e.0 (record { is = e.1; short = tt; count = refl })

fields_one : (k v : ℕ) (ns ms x y : List ℕ) → (x ≡ field_of v) × Short v → ms ≡ v ∷ ns → Fields k ns y → Fields (suc k) ms (x ++ y)
unfolding fields_of
fields_one k v ns ms x y p e f =
    rw e (record { is = ap₂ (λ (s t : List ℕ). s ++ t) p.0 f.is; short = (p.1, f.short); count = ap suc f.count })

fields_back : (k : ℕ) → Backs (fields k) (Fields k)
unfolding fields
fields_back zero =
    λ l ns n e. let b = read_back {A = List ℕ} [] l ns n e in (b.0, b.1, fields_none ns b.0 b.2)
fields_back (suc k) =
    then_back field (λ v. fields k >>= λ ns. read (v ∷ ns)) (Fields (suc k)) field_back
    (λ v. then_back (fields k) (λ ns. read (v ∷ ns)) (λ ms y. (ns : List ℕ) × (ms ≡ v ∷ ns) × Fields k ns y) (fields_back k)
    (λ ns. read_back (v ∷ ns))
    (λ ns ms y z p q. (ns, q.0, rw (q.1, append-nil y) p)))
    (λ v ms x y p q. fields_one k v q.0 ms x y p q.1 q.2)

pub record Lined (w : List ℕ) (k : ℕ) (ns x : List ℕ) : Type 0 where
  pub is : x ≡ laid_out w ns
  pub short : AllShort ns
  pub count : length ns ≡ k

pub line_back : (w : List ℕ) (k : ℕ) → Backs (line w k) (Lined w k)
unfolding line laid_out
line_back w k =
    then_back (word w) (λ _. fields k >>= λ ns. word lf >> read ns) (Lined w k) (word_back w)
    (λ _. then_back (fields k) (λ ns. word lf >> read ns) (λ ms y. (z : List ℕ) × (y ≡ z ++ lf) × Fields k ms z) (fields_back k)
    (λ ns. then_back (word lf) (λ _. read ns) (λ ms z. (ms ≡ ns) × (z ≡ lf)) (word_back lf) (λ _. read_back ns)
    (λ _ ms y z p q. (q.0, rw (p, q.1))))
    (λ ns ms y z p q. (y, ap (λ (t : List ℕ). y ++ t) q.1, rw q.0 p)))
    (λ _ ms x y p q. record {
      is =
          ap₂ (λ (s t : List ℕ). s ++ t) p
          (q.1 ∙ ap (λ (t : List ℕ). t ++ lf) q.2.is);
      short = q.2.short;
      count = q.2.count;
    })
