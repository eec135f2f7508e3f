-- A line at the front of bytes, by any layouts: one that stands there as one of them is taken, whichever is tried first, and what is
-- taken stands there; all else is 16 at its place.
--   Worded ks    no word of the layouts ks has a TAB or a LF
-- Assumes nothing.
use mathlib.Core.Path.{◌≡◌, refl, sym, ap, subst, ◌∙◌}
use mathlib.Core.List.Memᴰ
use mathlib.Core.List.{List, [], ◌∷◌, ◌++◌, Memᴰ}
use mathlib.Core.Logic.{◌⊎◌, inl, inr, ⊎_elim}
use Prim.Native.Nat.{ℕ}
use lib.ListN.{drop}
use Rattle.limits.specs.Outcome.{Outcome, accepted, refused}
use Rattle.limits.proofs.Passed.{never, one_value, one_refusal}
use Rattle.text.specs.Line.{line}
use Rattle.text.specs.Reading.{Reading, found, otherwise}
use Rattle.text.specs.Writing.{AllShort}
use Rattle.text.proofs.Back.{line_back}
use Rattle.text.proofs.OneWay.{Unbroken, laid_once}
use Rattle.text.proofs.Readings.{nothing}
use Rattle.text.proofs.Trip.{line_read_lem}
use Rattle.sheet.specs.Layouts.{Layout, Line, layout_of, line_laid, LaidLine}
use Rattle.sheet.specs.Lines.{Front, fitted, line_in}

abbrev pub Worded : List Layout → Type 0
Worded ks = (k : Layout) → Memᴰ k ks → Unbroken k.word

pub no_word : Worded []
no_word k m = absurd (Memᴰ.not-nil m)

pub and_word : (k : Layout) {ks : List Layout} → Unbroken k.word → Worded ks → Worded (k ∷ ks)
and_word k u w j m = ⊎_elim (λ e. subst (λ (i : Layout). Unbroken i.word) (sym e) u) (w j) (Memᴰ.cases_cons m)

-- ---- what is taken stands there
abbrev Stands : List Layout → List ℕ → Front → Type 0
Stands ks s x = LaidLine ks x.line × (s ≡ line_laid x.line ++ x.rest)

pub taken_line : (p : ℕ) (ks : List Layout) (s : List ℕ) (x : Front) → line_in p ks s ≡ accepted x → Stands ks s x
unfolding line_in
taken_line p [] s x e = absurd (never e)
taken_line p (k ∷ ks) s x e = go (line k.word k.numbers s) refl e (taken_line p ks s x)
  where
    go : (o : Reading (List ℕ)) → line k.word k.numbers s ≡ o → fitted k.word o s (line_in p ks s) ≡ accepted x
        → (line_in p ks s ≡ accepted x → Stands ks s x) → Stands (k ∷ ks) s x
    go (found ns n) q u ih =
        let b = line_back k.word k.numbers s ns n q in
        subst (Stands (k ∷ ks) s) (one_value u) (
          record { layout = Memᴰ.head (λ i. record { word = k.word; numbers = b.2.count i }); short = b.2.short },
          b.1 ∙ ap (λ (y : List ℕ). y ++ drop n s) b.2.is,
        )
    go otherwise q u ih =
        let t = ih u in
        (record { layout = Memᴰ.tail t.0.layout; short = t.0.short }, t.1)

pub stopped_line : (p : ℕ) (ks : List Layout) (s : List ℕ) (n q : ℕ) → line_in p ks s ≡ refused n q → (n ≡ 16) × (q ≡ p)
unfolding line_in
stopped_line p [] s n q e = let r = one_refusal e in (sym r.0, sym r.1)
stopped_line p (k ∷ ks) s n q e = go (line k.word k.numbers s) e (stopped_line p ks s n q)
  where
    go : (o : Reading (List ℕ)) → fitted k.word o s (line_in p ks s) ≡ refused n q
        → (line_in p ks s ≡ refused n q → (n ≡ 16) × (q ≡ p)) → (n ≡ 16) × (q ≡ p)
    go (found ns m) u ih = absurd (never (sym u))
    go otherwise u ih = ih u

-- ---- what stands there is taken
module _ (p : ℕ) (l : Line) (x : List ℕ) (whole : Unbroken l.word) (short : AllShort l.numbers) where
  abbrev s : List ℕ
  s = line_laid l ++ x

  first_fit : (ks : List Layout) → Worded ks → Memᴰ (layout_of l) ks → line_in p ks s ≡ accepted (record { line = l; rest = x })
  unfolding line_in
  first_fit [] w m = absurd (Memᴰ.not-nil m)
  first_fit (k ∷ ks) w m =
      go (line k.word k.numbers s) refl (Memᴰ.cases_cons m) (first_fit ks (λ j i. w j (Memᴰ.tail i)))
    where
      go : (o : Reading (List ℕ)) → line k.word k.numbers s ≡ o → (layout_of l ≡ k) ⊎ Memᴰ (layout_of l) ks
          → (Memᴰ (layout_of l) ks → line_in p ks s ≡ accepted (record { line = l; rest = x }))
          → fitted k.word o s (line_in p ks s) ≡ accepted (record { line = l; rest = x })
      go (found ns n) q c ih =
          let b = line_back k.word k.numbers s ns n q in
          let same =
          laid_once l.word k.word l.numbers ns x (drop n s) whole (w k (Memᴰ.head refl)) short b.2.short
          (b.1 ∙ ap (λ (y : List ℕ). y ++ drop n s) b.2.is) in
          λ i. accepted (record {
            line = record { word = sym same.0 i; numbers = sym same.1 i };
            rest = sym same.2 i;
          })
      go otherwise q (inl e) ih =
          let read = line_read_lem l.word l.numbers x short in
          nothing (sym q ∙ ap (λ (j : Layout). line j.word j.numbers s) (sym e) ∙ read)
      go otherwise q (inr i) ih = ih i

pub standing_line : (p : ℕ) (ks : List Layout) (l : Line) (x : List ℕ) → Worded ks → LaidLine ks l
    → line_in p ks (line_laid l ++ x) ≡ accepted (record { line = l; rest = x })
standing_line p ks l x w t = first_fit p l x (w (layout_of l) t.layout) t.short ks w t.layout

-- where none stands, it is 16 at its place
pub no_line_lem : (p : ℕ) (ks : List Layout) (s : List ℕ) → ((l : Line) (x : List ℕ) → LaidLine ks l → s ≡ line_laid l ++ x → ⊥)
    → line_in p ks s ≡ refused 16 p
no_line_lem p ks s nowhere = go (line_in p ks s) refl
  where
    go : (o : Outcome Front) → line_in p ks s ≡ o → o ≡ refused 16 p
    go (accepted x) e = let t = taken_line p ks s x e in absurd (nowhere x.line x.rest t.0 t.1)
    go (refused n q) e = let r = stopped_line p ks s n q e in rw (r.0, r.1)
