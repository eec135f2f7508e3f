-- 'An answer depends on its own call's input only': the answer and the written cells do not depend on what the buffers held, nor on
-- how much longer they are than the lists.
-- Assumes nothing.
use Rattle.std.specs.Prelude.{Ok}
use mathlib.Core.Path.{◌≡◌, sym, ap, ◌∙◌}
use mathlib.Core.List.{List}
use Prim.Native.Nat.{ℕ, ◌≤◌}
use native.Mathlib.Nat.{le_refl}
use lib.ListN.{length, take}
use Rattle.limits.specs.declared.frame.FrameValues.{FrameValues}
use Rattle.limits.specs.declared.ground.GroundValues.{GroundValues}
use Rattle.limits.specs.declared.judging.Given.{Given}
use Rattle.limits.specs.Outcome.{Outcome, accepted, ◌>>=◌, Answer}
use Rattle.limits.proofs.Accepted.{given_allowed}
use Rattle.limits.proofs.Room.{room_enough}
use Rattle.base_shear.specs.declared.Figures.{Figures}
use Rattle.job.specs.Distribution.{Buffers, shortest}
use Rattle.job.specs.Job.{results_at, results_of, job_of, figures_only, Figured, Answers}
use Rattle.job.proofs.Answered.{taken_accepted}
use Rattle.job.proofs.Columns.{Written, laid_written}
use Rattle.limits.proofs.Unique.{one_answer}

one_figures : {n m : Figures} → ◌≡◌ {A = Answer Figures} (Ok n) (Ok m) → n ≡ m
one_figures e = cc

module _ (G : GroundValues) (f : FrameValues) (ws hs : List ℕ) where
  job_room : (room room' : ℕ) → length ws ≤ room → length ws ≤ room' → job_of G f ws hs room ≡ job_of G f ws hs room'
  unfolding job_of
  job_room room room' h h' = ap (λ (o : Outcome Given). o >>= λ g. accepted (results_of g ws hs)) (room_enough G f ws hs room room' h h')

  -- whatever buffers of the same shortest length hold, the answer is one
  pub same_answer : (b c : Buffers) (a a' : Answer Figures) (b' c' : Buffers) → shortest b ≡ shortest c
      → Answers G f ws hs b a b' → Answers G f ws hs c a' c' → a ≡ a'
  same_answer b c a a' b' c' e p q = one_answer (p.0 ∙ ap (λ (n : ℕ). figures_only (job_of G f ws hs n)) e) q.0

  -- and it is one for all that have a cell for each level
  pub longer_answer : (b c : Buffers) (a a' : Answer Figures) (b' c' : Buffers) → length ws ≤ shortest b → length ws ≤ shortest c
      → Answers G f ws hs b a b' → Answers G f ws hs c a' c' → a ≡ a'
  longer_answer b c a a' b' c' hb hc p q =
      one_answer (p.0 ∙ ap figures_only (job_room (shortest b) (shortest c) hb hc)) q.0

  -- as buffers have where figures are given
  cells_enough : (b : Buffers) (n : Figures) (b' : Buffers) → Answers G f ws hs b (Ok n) b' → length ws ≤ shortest b
  cells_enough b n b' a =
      let t = taken_accepted G f ws hs b n b' a in
      (given_allowed G f ws hs (shortest b) t.given t.judged).1

  -- and it is the answer without buffers
  pub figured_answer : (b : Buffers) (a a' : Answer Figures) (b' : Buffers) → length ws ≤ shortest b
      → Answers G f ws hs b a b' → Figured G f ws hs a' → a ≡ a'
  figured_answer b a a' b' h p q =
      one_answer (p.0 ∙ ap figures_only (job_room (shortest b) (length ws) h (le_refl (length ws)))) q

  -- what is written is what the results say, one cell a level, and the rest is as it was
  pub taken_written : (b : Buffers) (n : Figures) (b' : Buffers) → Answers G f ws hs b (Ok n) b' → Written n.t n.vd ws hs b b'
  taken_written b n b' a = laid_written n.t n.vd ws hs b b' (taken_accepted G f ws hs b n b' a).cells

  -- so neither the figures nor the written cells depend on what the buffers held, nor on how long they are
  pub same_cells : (b c : Buffers) (n m : Figures) (b' c' : Buffers) → Answers G f ws hs b (Ok n) b' → Answers G f ws hs c (Ok m) c'
      → (n ≡ m)
      × (take (length ws) b'.forces ≡ take (length ws) c'.forces)
      × (take (length ws) b'.shears ≡ take (length ws) c'.shears)
      × (take (length ws) b'.overturnings ≡ take (length ws) c'.overturnings)
  same_cells b c n m b' c' p q =
      let same = one_figures (longer_answer b c (Ok n) (Ok m) b' c' (cells_enough b n b' p) (cells_enough c m c' q) p q) in
      let x = taken_written b n b' p in
      let y = taken_written c m c' q in (
        same,
        x.forces ∙ ap (λ (k : Figures). (results_at k ws hs).columns.forces) same ∙ sym y.forces,
        x.shears ∙ ap (λ (k : Figures). (results_at k ws hs).columns.shears) same ∙ sym y.shears,
        x.overturnings ∙ ap (λ (k : Figures). (results_at k ws hs).columns.overturnings) same ∙ sym y.overturnings,
      )
