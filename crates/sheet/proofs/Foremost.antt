-- A sheet is given the first refusal that applies, in the order in which they are judged (`order`): 17, then 16, then what its job is given; and which of
-- its numbers name a place.
-- Assumes nothing.
use mathlib.Core.Path.{◌≡◌, refl, sym, ap, subst, ◌∙◌}
use mathlib.Core.List.{List}
use mathlib.Core.Logic.{◌⊎◌, inl, inr, ⊎_elim}
use Prim.Native.Nat.{ℕ, ◌+◌, ◌≤◌}
use native.Mathlib.Omega.{arith}
use lib.ListN.{length}
use Rattle.limits.specs.Applies.{LevelsApply}
use Rattle.limits.specs.FirstRefusal.{FirstRefusal}
use Rattle.limits.specs.Order.{InOrder, NoLater}
use Rattle.limits.specs.Outcome.{Outcome, accepted, refused}
use Rattle.limits.proofs.InOrder.{in_order}
use Rattle.limits.proofs.Numbers.{numbered_levels, never_17, applies_in_order as given-in-order}
use Rattle.limits.proofs.Places.{NamedIn, named_job}
use Rattle.limits.proofs.Passed.{never, one_value, bind_passed}
use Rattle.job.specs.Job.{Results}
use Rattle.job.proofs.FirstRefusal.{results_first}
use Rattle.sheet.proofs.LaidRead.{sheet_long, sheet_lines_lem, lines_held}
use Rattle.sheet.proofs.Otherwise.{read_refused, otherwise_lines, otherwise_refused, one_first}
use Rattle.sheet.proofs.ReadLaid.{read_lines}
use Rattle.sheet.proofs.Refused.{bind_refused}
use Rattle.sheet.specs.Applies.{HeldApplies, SheetApplies, long, line, of_job}
use Rattle.sheet.specs.Layouts.{Line, Form, lines_laid, LaidLines}
use Rattle.sheet.specs.Listing.{job_of_sheet, outcome_of}
use Rattle.sheet.specs.Otherwise.{FirstOtherwise, here, after}
use Rattle.sheet.specs.Reading.{sheet_lines, read_sheet}
use Rattle.sheet.specs.Sheet.{sheet_form, Sheet, sheet_of}

-- to the job of what a sheet holds the first refusal is given
held_first : (r : Sheet) → FirstRefusal (HeldApplies r) (job_of_sheet r)
held_first r = results_first r.ground r.frame r.levels.weights r.levels.heights (length r.levels.weights)

held_17 : (r : Sheet) (q : ℕ) → HeldApplies r 17 q → ⊥
held_17 r q a =
    let ws = r.levels.weights in
    never_17 (LevelsApply ws r.levels.heights (length ws)) (λ n p. numbered_levels) r.frame r.ground a refl

-- lines are counted from 1
line_above : {f : Form} {p : ℕ} {x : List ℕ} → FirstOtherwise f p x → 1 ≤ p
line_above (here e n) = omega arith
line_above (after l t o) = omega arith

-- refusal n at place p is the first of the two: judged no later, and where it is the same at a place above 0, at such a place and no higher up
record First (n p m q : ℕ) : Type 0 where
  number : NoLater n m
  place : n ≡ m → (i : ℕ) → q ≡ 1 + i → (1 ≤ p) × (p ≤ 1 + i)

module _ (s : List ℕ) where
  -- lines that are as they may be are read
  lines_are : (ls : List Line) → LaidLines sheet_form ls → s ≡ lines_laid ls → sheet_lines s ≡ accepted (sheet_of ls)
  lines_are ls t is = ap sheet_lines is ∙ lines_held ls t

  -- 17 is the first number, and applies at place 0 alone
  only_17 : (m q i : ℕ) → m ≡ 17 → q ≡ 1 + i → SheetApplies s m q → ⊥
  only_17 m q i e z (long h) = omega arith
  only_17 m q i e z (line f) = omega arith
  only_17 m q i e z (of_job ls t is a) = held_17 (sheet_of ls) q (subst (λ (k : ℕ). HeldApplies (sheet_of ls) k q) e a)

  -- to a sheet with a line that is otherwise only 16 applies, at that line; to one that is read only what applies to its job
  after_16 : (n p m q : ℕ) → n ≡ 16 → length s ≤ 4_096 → FirstOtherwise sheet_form p s → SheetApplies s m q → First n p m q
  after_16 n p m q e short o (long h) = absurd (let z : ⊥ = omega arith in z)
  after_16 n p m q e short o (line f) =
      record { number = rw e (omega arith); place = λ _ i z. let one = one_first s p q o f in omega arith }
  after_16 n p m q e short o (of_job ls t is a) = absurd (never (sym (otherwise_lines s p o) ∙ lines_are ls t is))

  read_applies : (r : Sheet) (m q : ℕ) → read_sheet s ≡ accepted r → SheetApplies s m q → HeldApplies r m q
  read_applies r m q e (long h) = absurd (never (sym (sheet_long s h) ∙ e))
  read_applies r m q e (line f) = absurd (never (sym (otherwise_refused s q (read_lines s r e).short f) ∙ e))
  read_applies r m q e (of_job ls t is a) =
      subst (λ (x : Sheet). HeldApplies x m q)
      (one_value (sym (lines_are ls t is) ∙ sym (sheet_lines_lem s (read_lines s r e).short) ∙ e)) a

  -- every number that applies stands in the order
  pub applies_in_order : (n p : ℕ) → SheetApplies s n p → InOrder n
  applies_in_order n p (long h) = in_order 17 (omega arith)
  applies_in_order n p (line f) = in_order 16 (omega arith)
  applies_in_order n p (of_job ls t is a) = given-in-order _ (λ n p. numbered_levels) _ _ a

  -- which numbers name a place: 16 its line, 3 to 6 as in a job; the others have place 0
  pub named_sheet : (n p : ℕ) → SheetApplies s n p → ((n ≡ 16) × (1 ≤ p)) ⊎ NamedIn 3 6 n p
  named_sheet n p (long h) = inr (inr (inr (omega arith), refl))
  named_sheet n p (line f) = inl (refl, line_above f)
  named_sheet n p (of_job ls t is a) = inr (named_job a)

  module _ (n p : ℕ) (e : outcome_of s ≡ refused n p) where
    applies : SheetApplies s n p
    applies =
        ⊎_elim
        (λ u. ⊎_elim (λ h. rw (h.0, h.1) (long h.2)) (λ h. rw h.1 (line h.2)) (read_refused s n p u))
        (λ u.
        let l = read_lines s u.0 u.1 in
        of_job l.lines l.laid l.is
        (subst (λ (x : Sheet). HeldApplies x n p) (sym l.held) ((held_first u.0).refused_applies n p u.2)))
        (bind_refused (read_sheet s) job_of_sheet e)

    first : (m q : ℕ) → SheetApplies s m q → First n p m q
    first m q a =
        ⊎_elim
        (λ u. ⊎_elim
        (λ h. record { number = rw h.0 (omega arith); place = λ k i z. absurd (only_17 m q i (sym k ∙ h.0) z a) })
        (λ h. after_16 n p m q h.1 h.0 h.2 a)
        (read_refused s n p u))
        (λ u.
        let wrong = read_applies u.0 m q u.1 a in
        record {
          number = (held_first u.0).first_number n p m q u.2 wrong;
          place = λ k i z. (held_first u.0).lowest_place n p i u.2 (subst (HeldApplies u.0 n) z (subst (λ (j : ℕ). HeldApplies u.0 j q) (sym k) wrong));
        })
        (bind_refused (read_sheet s) job_of_sheet e)

  unless : ((n p : ℕ) → SheetApplies s n p → ⊥) → (r : Results) × (outcome_of s ≡ accepted r)
  unless none = go (outcome_of s) refl
    where
      go : (o : Outcome Results) → outcome_of s ≡ o → (r : Results) × (outcome_of s ≡ accepted r)
      go (accepted r) e = (r, e)
      go (refused n p) e = absurd (none n p (applies n p e))

  none : (r : Results) (n p : ℕ) → outcome_of s ≡ accepted r → SheetApplies s n p → ⊥
  none r n p e a =
      let b = bind_passed (read_sheet s) job_of_sheet e in
      (held_first b.0).accepted_none r n p b.2 (read_applies b.0 n p b.1 a)

  pub sheet_first : FirstRefusal (SheetApplies s) (outcome_of s)
  sheet_first =
      record {
        refused_applies = applies;
        first_number = λ n p m q e a. (first n p e m q a).number;
        lowest_place = λ n p i e a. (first n p e n (1 + i) a).place refl i refl;
        accepted_unless_refused = unless;
        accepted_none = none;
      }
