-- The four laws of lines, of any form: lines that are laid out as it says are read; what is read is laid out so; what is refused is
-- 16, at the first line that is otherwise; and where a line is so, 16 is refused. Then how lines are read one by one.
--   WordedForm f    no word of a line has a TAB or a LF
-- Assumes nothing.
use mathlib.Core.Path.{◌≡◌, refl, sym, ap, subst, ◌∙◌}
use mathlib.Core.Bool.{true, false, and-false}
use mathlib.Core.List.{List, [], ◌∷◌, ◌++◌}
use mathlib.Core.Logic.{⊎_elim}
use Prim.Native.Nat.{ℕ, zero, suc, ◌+◌, ◌<◌}
use native.Mathlib.Omega.{arith}
use lib.ListN.{length, get_or, length-append}
use lib.Seq.{get_or-drop}
use Rattle.whole.proofs.Choice.{by_test}
use Rattle.limits.specs.Outcome.{Outcome, accepted, refused, ◌>>=◌}
use Rattle.limits.proofs.Passed.{never, one_value, bind_passed, differ, only}
use Rattle.text.proofs.Digital.{both}
use Rattle.text.proofs.Fields.{line_length}
use Rattle.sheet.proofs.OneLine.{Worded, taken_line, stopped_line, standing_line, no_line_lem}
use Rattle.sheet.proofs.Refused.{bind_refused}
use Rattle.sheet.specs.Layouts.{Line, Form, first_of, past, none, ended, line_laid, lines_laid, LaidLines}
use Rattle.sheet.specs.Lines.{Front, line_in, lines_from, read_from}
use Rattle.sheet.specs.Otherwise.{FirstOtherwise, here, after}

abbrev pub WordedForm : Form → Type 0
WordedForm f = (i : ℕ) → Worded (get_or f.heads i f.later)

past_worded : (f : Form) → WordedForm f → WordedForm (past f)
past_worded f w i = subst Worded (sym (get_or-drop 1 f.heads i f.later)) (w (1 + i))

-- ---- where a text ends
not_ended : (f : Form) (s : List ℕ) → 0 < length s → ended f s ≡ false
not_ended f [] h = absurd (let z : ⊥ = omega arith in z)
not_ended f (b ∷ s) h = and-false (none f.heads)

empty : (s : List ℕ) → none s ≡ true → s ≡ []
empty [] e = refl
empty (b ∷ s) e = absurd (differ (sym e))

-- a line has a byte
shorter : (l : Line) (x : List ℕ) → length x < length (line_laid l ++ x)
shorter l x = omega (arith, length-append (line_laid l) x, line_length l.word l.numbers)

-- ---- the four laws
pub laid_lines_read : (most p : ℕ) (f : Form) (ls : List Line) → WordedForm f → LaidLines f ls → length (lines_laid ls) < most
    → lines_from most p f (lines_laid ls) ≡ accepted ls
unfolding lines_from
laid_lines_read zero p f ls w t room = absurd (let z : ⊥ = omega arith in z)
laid_lines_read (suc most) p f [] w t room = simp t
laid_lines_read (suc most) p f (l ∷ ls) w t room =
    let short = shorter l (lines_laid ls) in
    simp (
      not_ended f (lines_laid (l ∷ ls)) (omega arith),
      standing_line p (first_of f) l (lines_laid ls) (w 0) t.0,
      laid_lines_read most (p + 1) (past f) ls (past_worded f w) t.1 (omega arith),
    )

pub read_lines_laid : (most p : ℕ) (f : Form) (s : List ℕ) (ls : List Line) → lines_from most p f s ≡ accepted ls
    → (s ≡ lines_laid ls) × LaidLines f ls
unfolding lines_from
read_lines_laid zero p f s ls e = absurd (never e)
read_lines_laid (suc most) p f s ls e =
    by_test (λ (o : Outcome (List Line)). o ≡ accepted ls → (s ≡ lines_laid ls) × LaidLines f ls) (ended f s) _ _
    (λ t u.
    let b = both (none f.heads) (none s) t in
    subst (λ (z : List Line). (s ≡ lines_laid z) × LaidLines f z) (one_value u) (empty s b.1, b.0))
    (λ t u.
    let x = bind_passed (line_in p (first_of f) s) _ u in
    let r = bind_passed (lines_from most (p + 1) (past f) x.0.rest) (λ z. accepted (x.0.line ∷ z)) x.2 in
    let first = taken_line p (first_of f) s x.0 x.1 in
    let later = read_lines_laid most (p + 1) (past f) x.0.rest r.0 r.1 in
    subst (λ (z : List Line). (s ≡ lines_laid z) × LaidLines f z) (one_value r.2)
    (first.1 ∙ ap (λ (y : List ℕ). line_laid x.0.line ++ y) later.0, (first.0, later.1)))
    e

-- the place of what is refused, where line p is the first of the bytes
pub record Stopped (p : ℕ) (f : Form) (s : List ℕ) (n q : ℕ) : Type 0 where
  pub number : n ≡ 16
  pub line : ℕ
  pub place : suc q ≡ p + line
  pub first : FirstOtherwise f line s

pub refused_otherwise : (most p : ℕ) (f : Form) (s : List ℕ) (n q : ℕ) → WordedForm f → length s < most
    → lines_from most p f s ≡ refused n q → Stopped p f s n q
unfolding lines_from
refused_otherwise zero p f s n q w room e = absurd (let z : ⊥ = omega arith in z)
refused_otherwise (suc most) p f s n q w room e =
    by_test (λ (o : Outcome (List Line)). o ≡ refused n q → Stopped p f s n q) (ended f s) _ _
    (λ t u. absurd (never (sym u)))
    (λ t u. ⊎_elim
    (λ v.
    let r = stopped_line p (first_of f) s n q v in
    record {
      number = r.0;
      line = 1;
      place = omega (arith, r.1);
      first = here t (λ l x d is. never (sym v ∙ ap (line_in p (first_of f)) is ∙ standing_line p (first_of f) l x (w 0) d));
    })
    (λ v.
    let x = v.0 in
    let first = taken_line p (first_of f) s x v.1 in
    let short = shorter x.line x.rest in
    let later =
    refused_otherwise most (p + 1) (past f) x.rest n q (past_worded f w) (omega (arith, ap length first.1))
    (only (lines_from most (p + 1) (past f) x.rest) (λ z. x.line ∷ z) v.2) in
    record {
      number = later.number;
      line = suc later.line;
      place = omega (arith, later.place);
      first = subst (FirstOtherwise f (suc later.line)) (sym first.1) (after x.line first.0 later.first);
    })
    (bind_refused (line_in p (first_of f) s) _ u))
    e

pub otherwise_stops : (most p q : ℕ) (f : Form) (k : ℕ) (s : List ℕ) → WordedForm f → length s < most → suc q ≡ p + k
    → FirstOtherwise f k s → lines_from most p f s ≡ refused 16 q
unfolding lines_from
otherwise_stops zero p q f k s w room e o = absurd (let z : ⊥ = omega arith in z)
otherwise_stops (suc most) p q f k s w room e (here t nowhere) =
    let same : q ≡ p = omega arith in
    rw same (simp (t, no_line_lem p (first_of f) s nowhere))
otherwise_stops (suc most) p q f k s w room e (after {s = x} l d o) =
    let short = shorter l x in
    simp (
      not_ended f (line_laid l ++ x) (omega arith),
      standing_line p (first_of f) l x (w 0) d,
      otherwise_stops most (p + 1) q (past f) _ x (past_worded f w) (omega arith) (omega arith) o,
    )

-- a bound that leaves room for every line says nothing
enough : (m m' p : ℕ) (f : Form) (s : List ℕ) → WordedForm f → length s < m → length s < m' → lines_from m p f s ≡ lines_from m' p f s
enough m m' p f s w h h' = go (lines_from m p f s) refl
  where
    go : (o : Outcome (List Line)) → lines_from m p f s ≡ o → lines_from m p f s ≡ lines_from m' p f s
    go (accepted ls) e =
        let t = read_lines_laid m p f s ls e in
        e ∙ sym (ap (lines_from m' p f) t.0 ∙ laid_lines_read m' p f ls w t.1 (omega (arith, ap length t.0)))
    go (refused n q) e =
        let r = refused_otherwise m p f s n q w h e in
        e ∙ rw r.number (sym (otherwise_stops m' p q f r.line s w h' r.place r.first))

-- ---- line by line
module _ (p : ℕ) (f : Form) (s : List ℕ) where
  pub read_end : ended f s ≡ true → read_from p f s ≡ accepted []
  unfolding lines_from
  read_end t = simp t

  pub read_stop : (n q : ℕ) → ended f s ≡ false → line_in p (first_of f) s ≡ refused n q → read_from p f s ≡ refused n q
  unfolding lines_from
  read_stop n q t e = simp (t, e)

  pub read_on : (x : Front) → WordedForm f → line_in p (first_of f) s ≡ accepted x
      → read_from p f s ≡ (read_from (p + 1) (past f) x.rest >>= λ ls. accepted (x.line ∷ ls))
  unfolding lines_from
  read_on x w e =
      let first = taken_line p (first_of f) s x e in
      let short = shorter x.line x.rest in
      let more : length x.rest < length s = omega (arith, ap length first.1) in
      simp (not_ended f s (omega arith), e)
      (ap (λ (o : Outcome (List Line)). o >>= λ ls. accepted (x.line ∷ ls))
      (enough (length s) (suc (length x.rest)) (p + 1) (past f) x.rest (past_worded f w) more (omega arith)))
