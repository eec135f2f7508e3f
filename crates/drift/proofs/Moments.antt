-- The answer of the accidental moments: what it says of the judgment and of the two buffers, level by level; that no second outcome meets its contract; that it
-- gives the first refusal, which has the lowest number that applies; that a level's moments are those of the force which the distribution gives it; and that
-- nothing but the call's own input plays a part.
-- Assumes nothing.
use mathlib.Core.Path.{◌≡◌, refl, sym, ap, ◌∙◌}
use mathlib.Core.List.{List}
use Prim.Native.Nat.{ℕ, ◌≤◌, ◌<◌}
use native.Mathlib.Omega.{arith}
use lib.IntN.{ℤ, pos, neg_ℤ}
use lib.ListN.{length, drop, get_or}
use Rattle.std.specs.Prelude.{Ok, Err}
use Rattle.whole.specs.Cells.{laid}
use Rattle.whole.specs.Fraction.{over, Same, times}
use Rattle.whole.proofs.Cells.{cells_length, cells_cell, laid_at, laid_cell, laid_rest}
use Rattle.limits.specs.declared.refusal.Refusal.{Refusal}
use Rattle.limits.specs.DriftAllowed.{AllowedMoments}
use Rattle.limits.specs.DriftApplies.{MomentsApply}
use Rattle.limits.specs.DriftJudging.{judged_moments}
use Rattle.limits.specs.FirstRefusal.{FirstRefusal}
use Rattle.limits.specs.Outcome.{Outcome, Answer, Done, accepted, outcome, done_only, ◌>>◌}
use Rattle.limits.proofs.AcceptedDrift.{moments_allowed}
use Rattle.limits.proofs.DriftNumbers.{numbered_moments, lowest_of_drift}
use Rattle.limits.proofs.DriftStage as judged
use Rattle.limits.proofs.Room.{room_for_levels}
use Rattle.limits.proofs.Unique.{one_answer}
use Rattle.limits.specs.Judging.{judged_distribution}
use Rattle.job.specs.Distribution.{Buffers, columns_at, Distributed}
use Rattle.storeys.specs.Reach.{Load, Standing}
use Rattle.storeys.proofs.Chain.{load_of}
use Rattle.job.proofs.Columns.{forces_cells}
use Rattle.job.proofs.Distributed.{passed_cells}
use Rattle.job.proofs.GivenReached.{standing}
use Rattle.drift.specs.Accidental.{accidental_moment, moments_at, moments_of, MomentBuffers, shorter, laid_each_way, MomentAnswers}
use Rattle.drift.proofs.Answering as answering

-- ---- what the code asks for, once the judgment has passed
pub moments_asked : (v T : ℕ) (ws hs : List ℕ) (d room : ℕ) → accepted tt ≡ judged_moments v T ws hs d room
    → Load T v × Standing ws hs × (d ≤ 5_000) × (length ws ≤ 50) × (length ws ≤ room)
moments_asked v T ws hs d room e =
    let a = moments_allowed v T ws hs d room (sym e) in (
      load_of T v (omega (arith, a.0.handed.period)) (omega (arith, a.0.handed.shear)),
      standing ws hs a.0.levels,
      a.0.dimension.1,
      a.0.levels.few,
      a.1,
    )

module _ (v T : ℕ) (ws hs : List ℕ) (d : ℕ) (b : MomentBuffers) where
  -- ---- once the judgment has answered
  pub refused_moments : {room : ℕ} (a : Answer Done) (r : Refusal) → room ≡ shorter b → a ≡ Err r → outcome a ≡ judged_moments v T ws hs d room
      → MomentAnswers v T ws hs d b a b
  unfolding moments_of
  refused_moments a r e t q =
      answering.refused_answers laid_each_way (judged_moments v T ws hs d (shorter b)) (moments_at T v ws hs d) b a r t
      (q ∙ ap (λ (n : ℕ). judged_moments v T ws hs d n) e)

  pub passed_moments : {room : ℕ} {p n : List ℤ} → room ≡ shorter b → judged_moments v T ws hs d room ≡ accepted tt
      → p ≡ laid (moments_at T v ws hs d).positive b.positive → n ≡ laid (moments_at T v ws hs d).negative b.negative
      → MomentAnswers v T ws hs d b (Ok tt) (record { positive = p; negative = n })
  unfolding moments_of
  passed_moments e q ep en =
      answering.passed_answers laid_each_way (judged_moments v T ws hs d (shorter b)) (moments_at T v ws hs d) b
      (ap (λ (n : ℕ). judged_moments v T ws hs d n) (sym e) ∙ q) (λ i. record { positive = ep i; negative = en i })

  -- ---- no second outcome
  pub one_moments : {a a' : Answer Done} {c c' : MomentBuffers} → MomentAnswers v T ws hs d b a c → MomentAnswers v T ws hs d b a' c'
      → (a ≡ a') × (c ≡ c')
  one_moments = answering.one_answer laid_each_way (moments_of v T ws hs d (shorter b)) b

  module _ (b' : MomentBuffers) where
    -- ---- the first refusal
    pub moments_first : (a : Answer Done) → MomentAnswers v T ws hs d b a b' → FirstRefusal (MomentsApply v T ws hs d (shorter b)) (outcome a)
    unfolding moments_of
    moments_first a e =
        answering.first_answered laid_each_way (judged_moments v T ws hs d (shorter b)) (moments_at T v ws hs d) b b'
        (MomentsApply v T ws hs d (shorter b)) a (judged.moments_first v T ws hs d (shorter b)) e

    -- a refused call writes nothing
    pub refused_untouched : (r : Refusal) → MomentAnswers v T ws hs d b (Err r) b' → b' ≡ b
    unfolding moments_of
    refused_untouched = answering.refused_untouched laid_each_way (judged_moments v T ws hs d (shorter b)) (moments_at T v ws hs d) b b'

    -- ---- where it passed
    module _ (a : MomentAnswers v T ws hs d b (Ok tt) b') where
      pub passed_judged : judged_moments v T ws hs d (shorter b) ≡ accepted tt
      unfolding moments_of
      passed_judged = answering.passed_judged laid_each_way (judged_moments v T ws hs d (shorter b)) (moments_at T v ws hs d) b b' a

      pub passed_laid : b' ≡ laid_each_way (moments_at T v ws hs d) b
      unfolding moments_of
      passed_laid = answering.passed_laid laid_each_way (judged_moments v T ws hs d (shorter b)) (moments_at T v ws hs d) b b' a

      pub passed_allowed : AllowedMoments v T ws hs d
      passed_allowed = (moments_allowed v T ws hs d (shorter b) passed_judged).0

      abbrev fs : List ℕ
      fs = (columns_at T v ws hs).forces

      level : (x : ℕ) → x < length ws → x < length fs
      level x h = rw (forces_cells T v ws hs) h

      -- each level's cells are its moment each way
      pub positive_cell : (x : ℕ) → x < length ws → get_or b'.positive x (pos 0) ≡ pos (accidental_moment (get_or fs x 0) d)
      positive_cell x h =
          ap (λ (c : MomentBuffers). get_or c.positive x (pos 0)) passed_laid
          ∙ laid_cell (pos 0) (moments_at T v ws hs d).positive b.positive x (rw (cells_length (λ y. pos (accidental_moment (get_or fs y 0) d)) (length fs)) (level x h))
          ∙ cells_cell (pos 0) (λ y. pos (accidental_moment (get_or fs y 0) d)) (length fs) x (level x h)

      pub negative_cell : (x : ℕ) → x < length ws → get_or b'.negative x (pos 0) ≡ neg_ℤ (pos (accidental_moment (get_or fs x 0) d))
      negative_cell x h =
          ap (λ (c : MomentBuffers). get_or c.negative x (pos 0)) passed_laid
          ∙ laid_cell (pos 0) (moments_at T v ws hs d).negative b.negative x (rw (cells_length (λ y. neg_ℤ (pos (accidental_moment (get_or fs y 0) d))) (length fs)) (level x h))
          ∙ cells_cell (pos 0) (λ y. neg_ℤ (pos (accidental_moment (get_or fs y 0) d))) (length fs) x (level x h)

      -- and what lies past the last level is as it was
      pub rest_kept : (drop (length ws) b'.positive ≡ drop (length ws) b.positive) × (drop (length ws) b'.negative ≡ drop (length ws) b.negative)
      rest_kept = (
        ap (λ (c : MomentBuffers). drop (length ws) c.positive) passed_laid
            ∙ laid_rest (moments_at T v ws hs d).positive b.positive (length ws) (cells_length (λ y. pos (accidental_moment (get_or fs y 0) d)) (length fs) ∙ forces_cells T v ws hs),
        ap (λ (c : MomentBuffers). drop (length ws) c.negative) passed_laid
            ∙ laid_rest (moments_at T v ws hs d).negative b.negative (length ws) (cells_length (λ y. neg_ℤ (pos (accidental_moment (get_or fs y 0) d))) (length fs) ∙ forces_cells T v ws hs),
      )

      -- 'Wish 6's force': the one that the distribution of the same call writes, whatever its buffers held
      pub of_its_force : (c c' : Buffers) → Distributed v T ws hs c (Ok tt) c' → (x : ℕ) → x < length ws
          → (get_or b'.positive x (pos 0) ≡ pos (accidental_moment (get_or c'.forces x 0) d))
          × (get_or b'.negative x (pos 0) ≡ neg_ℤ (pos (accidental_moment (get_or c'.forces x 0) d)))
      of_its_force c c' e x h =
          let f : get_or fs x 0 ≡ get_or c'.forces x 0
          = sym (ap (λ (y : Buffers). get_or y.forces x 0) (passed_cells v T ws hs c c' e) ∙ laid_at fs c.forces x (level x h)) in
          (positive_cell x h ∙ ap (λ (k : ℕ). pos (accidental_moment k d)) f, negative_cell x h ∙ ap (λ (k : ℕ). neg_ℤ (pos (accidental_moment k d))) f)

-- ---- hundredths of a N·dm: the force times '5% of the dimension'
pub five_per_cent : (f d : ℕ) → Same (over (accidental_moment f d) 100) (times (over f 1) (times (over 5 100) (over d 1)))
five_per_cent f d = omega arith

-- ---- the first refusal is the lowest number that applies
pub lowest_moments : (v T : ℕ) (ws hs : List ℕ) (d : ℕ) (b : MomentBuffers) (r : Refusal) (b' : MomentBuffers) → MomentAnswers v T ws hs d b (Err r) b'
    → (k q : ℕ) → MomentsApply v T ws hs d (shorter b) k q → r.number ≤ k
lowest_moments v T ws hs d b r b' e k q w =
    lowest_of_drift (MomentsApply v T ws hs d (shorter b)) (λ n p. numbered_moments) (outcome (Err r)) r.number r.place k q refl
    (moments_first v T ws hs d b b' (Err r) e) w

-- ---- whatever the buffers held, and however much longer than the lists they are, the answer is one, and so are the moments
room_for_moments : (v T : ℕ) (ws hs : List ℕ) (d room room' : ℕ) → length ws ≤ room → length ws ≤ room'
    → judged_moments v T ws hs d room ≡ judged_moments v T ws hs d room'
unfolding judged_moments judged_distribution
room_for_moments v T ws hs d room room' h h' = rw (room_for_levels ws hs room room' h h')

module _ (v T : ℕ) (ws hs : List ℕ) (d : ℕ) (b c : MomentBuffers) where
  pub longer_moments : {a a' : Answer Done} {b' c' : MomentBuffers} → length ws ≤ shorter b → length ws ≤ shorter c → MomentAnswers v T ws hs d b a b'
      → MomentAnswers v T ws hs d c a' c' → a ≡ a'
  unfolding moments_of
  longer_moments h h' p q =
      one_answer (p.0 ∙ ap (λ (j : Outcome Done). done_only (j >> accepted (moments_at T v ws hs d))) (room_for_moments v T ws hs d (shorter b) (shorter c) h h')) q.0

  pub moments_cells : {b' c' : MomentBuffers} → MomentAnswers v T ws hs d b (Ok tt) b' → MomentAnswers v T ws hs d c (Ok tt) c' → (x : ℕ) → x < length ws
      → (get_or b'.positive x (pos 0) ≡ get_or c'.positive x (pos 0)) × (get_or b'.negative x (pos 0) ≡ get_or c'.negative x (pos 0))
  moments_cells {b'} {c'} p q x h = (
    positive_cell v T ws hs d b b' p x h ∙ sym (positive_cell v T ws hs d c c' q x h),
    negative_cell v T ws hs d b b' p x h ∙ sym (negative_cell v T ws hs d c c' q x h),
  )
