-- The answer of drift: what it says of the judgment and of the buffer, storey by storey; that no second outcome meets its contract; that it gives the first
-- refusal, which has the lowest number that applies; and that nothing but the call's own input plays a part.
-- Assumes nothing.
use mathlib.Core.Path.{◌≡◌, refl, sym, ap, ◌∙◌}
use mathlib.Core.Bool.{Bool, true, false}
use mathlib.Core.List.{List}
use Prim.Native.Nat.{ℕ, ◌*◌, ◌≤◌, ◌<◌}
use native.Mathlib.Omega.{arith}
use lib.IntN.{ℤ}
use lib.ListN.{length, drop, get_or}
use borrow.Author.Tests.{leb-true, le-leb, lt-leb}
use Rattle.std.specs.Prelude.{Ok, Err}
use Rattle.whole.specs.Cells.{laid}
use Rattle.whole.specs.Choice.{pick}
use Rattle.whole.proofs.Cells.{cells_length, cells_at, laid_at, laid_rest}
use Rattle.limits.specs.declared.refusal.Refusal.{Refusal}
use Rattle.limits.specs.DriftAllowed.{AllowedDrift}
use Rattle.limits.specs.DriftApplies.{DriftApplies}
use Rattle.limits.specs.DriftJudging.{judged_drift}
use Rattle.limits.specs.FirstRefusal.{FirstRefusal}
use Rattle.limits.specs.Outcome.{Outcome, Answer, Done, accepted, outcome, done_only, ◌>>◌}
use Rattle.limits.proofs.AcceptedDrift.{drift_allowed}
use Rattle.limits.proofs.DriftNumbers.{numbered_drift, lowest_of_drift}
use Rattle.limits.proofs.DriftStage as judged
use Rattle.limits.proofs.Unique.{one_answer}
use Rattle.drift.specs.Drift.{storey_height, apart, within_limit, verdict_of, verdicts, drift_of, DriftAnswers}
use Rattle.drift.proofs.Answering as answering
use Rattle.drift.proofs.Limit.{by_products}

module _ (hs : List ℕ) (zs : List ℤ) (m : ℕ) (old : List ℕ) where
  -- ---- once the judgment has answered
  pub refused_drift : (a : Answer Done) (r : Refusal) → a ≡ Err r → outcome a ≡ judged_drift hs zs m (length old) → DriftAnswers hs zs m old a old
  unfolding drift_of
  refused_drift = answering.refused_answers laid (judged_drift hs zs m (length old)) (verdicts hs zs m) old

  pub passed_drift : {held : List ℕ} → judged_drift hs zs m (length old) ≡ accepted tt → held ≡ laid (verdicts hs zs m) old
      → DriftAnswers hs zs m old (Ok tt) held
  unfolding drift_of
  passed_drift = answering.passed_answers laid (judged_drift hs zs m (length old)) (verdicts hs zs m) old

  -- ---- no second outcome
  pub one_drift : {a a' : Answer Done} {held held' : List ℕ} → DriftAnswers hs zs m old a held → DriftAnswers hs zs m old a' held'
      → (a ≡ a') × (held ≡ held')
  one_drift = answering.one_answer laid (drift_of hs zs m (length old)) old

  module _ (held : List ℕ) where
    -- ---- the first refusal
    pub drift_first : (a : Answer Done) → DriftAnswers hs zs m old a held → FirstRefusal (DriftApplies hs zs m (length old)) (outcome a)
    unfolding drift_of
    drift_first a e =
        answering.first_answered laid (judged_drift hs zs m (length old)) (verdicts hs zs m) old held (DriftApplies hs zs m (length old)) a
        (judged.drift_first hs zs m (length old)) e

    -- a refused call writes nothing
    pub refused_untouched : (r : Refusal) → DriftAnswers hs zs m old (Err r) held → held ≡ old
    unfolding drift_of
    refused_untouched = answering.refused_untouched laid (judged_drift hs zs m (length old)) (verdicts hs zs m) old held

    -- ---- where it passed
    module _ (a : DriftAnswers hs zs m old (Ok tt) held) where
      pub passed_judged : judged_drift hs zs m (length old) ≡ accepted tt
      unfolding drift_of
      passed_judged = answering.passed_judged laid (judged_drift hs zs m (length old)) (verdicts hs zs m) old held a

      pub passed_laid : held ≡ laid (verdicts hs zs m) old
      unfolding drift_of
      passed_laid = answering.passed_laid laid (judged_drift hs zs m (length old)) (verdicts hs zs m) old held a

      pub passed_allowed : AllowedDrift hs zs m
      passed_allowed = (drift_allowed hs zs m (length old) passed_judged).0

      count : length (verdicts hs zs m) ≡ length hs
      count = cells_length (verdict_of hs zs m) (length hs)

      -- each storey's cell is its verdict
      pub cell_is : (x : ℕ) → x < length hs → get_or held x 0 ≡ verdict_of hs zs m x
      cell_is x h =
          ap (λ (l : List ℕ). get_or l x 0) passed_laid
          ∙ laid_at (verdicts hs zs m) old x (rw count h)
          ∙ cells_at (verdict_of hs zs m) (length hs) x h

      -- and what lies past the last storey is as it was
      pub rest_kept : drop (length hs) held ≡ drop (length hs) old
      rest_kept = ap (λ (l : List ℕ). drop (length hs) l) passed_laid ∙ laid_rest (verdicts hs zs m) old (length hs) count

      -- 1 exactly where the difference between the ends is at most the limit times the height, else 0
      pub yes_within : (x : ℕ) → x < length hs → get_or held x 0 ≡ 1 → apart zs x ≤ m * storey_height hs x
      yes_within x h e = go (within_limit hs zs m x) refl
        where
          go : (t : Bool) → within_limit hs zs m x ≡ t → apart zs x ≤ m * storey_height hs x
          go true t = leb-true _ _ (sym (by_products hs zs m x) ∙ t)
          go false t = absurd (let z : ⊥ = omega (arith, e, cell_is x h ∙ ap (λ (b : Bool). pick b 1 0) t) in z)

      pub within_yes : (x : ℕ) → x < length hs → apart zs x ≤ m * storey_height hs x → get_or held x 0 ≡ 1
      within_yes x h l = cell_is x h ∙ ap (λ (b : Bool). pick b 1 0) (by_products hs zs m x ∙ le-leb _ _ l)

      pub beyond_no : (x : ℕ) → x < length hs → m * storey_height hs x < apart zs x → get_or held x 0 ≡ 0
      beyond_no x h l = cell_is x h ∙ ap (λ (b : Bool). pick b 1 0) (by_products hs zs m x ∙ lt-leb _ _ l)

-- ---- the first refusal is the lowest number that applies
pub lowest_drift : (hs : List ℕ) (zs : List ℤ) (m : ℕ) (old : List ℕ) (r : Refusal) (held : List ℕ) → DriftAnswers hs zs m old (Err r) held
    → (k q : ℕ) → DriftApplies hs zs m (length old) k q → r.number ≤ k
lowest_drift hs zs m old r held e k q w =
    lowest_of_drift (DriftApplies hs zs m (length old)) (λ n p. numbered_drift) (outcome (Err r)) r.number r.place k q refl
    (drift_first hs zs m old held (Err r) e) w

-- ---- whatever the buffers held, and however much longer than the lists they are, the answer is one, and so are the verdicts
room_for_storeys : (hs : List ℕ) (zs : List ℤ) (m room room' : ℕ) → length hs ≤ room → length hs ≤ room' → judged_drift hs zs m room ≡ judged_drift hs zs m room'
unfolding judged_drift
room_for_storeys hs zs m room room' h h' = rw (le-leb (length hs) room h, le-leb (length hs) room' h')

module _ (hs : List ℕ) (zs : List ℤ) (m : ℕ) (old old' : List ℕ) where
  pub longer_drift : {a a' : Answer Done} {held held' : List ℕ} → length hs ≤ length old → length hs ≤ length old' → DriftAnswers hs zs m old a held
      → DriftAnswers hs zs m old' a' held' → a ≡ a'
  unfolding drift_of
  longer_drift h h' p q =
      one_answer (p.0 ∙ ap (λ (j : Outcome Done). done_only (j >> accepted (verdicts hs zs m))) (room_for_storeys hs zs m (length old) (length old') h h')) q.0

  pub drift_cells : {held held' : List ℕ} → DriftAnswers hs zs m old (Ok tt) held → DriftAnswers hs zs m old' (Ok tt) held'
      → (x : ℕ) → x < length hs → get_or held x 0 ≡ get_or held' x 0
  drift_cells {held} {held'} p q x h = cell_is hs zs m old held p x h ∙ sym (cell_is hs zs m old' held' q x h)
