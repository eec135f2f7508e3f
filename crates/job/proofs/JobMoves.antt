-- Which way the figures of a job move. Of any two jobs on one ground whose T is the same: the premises are that both were answered with figures, T, and the
-- change. And of two jobs that differ in R, I, alpha-y or one weight alone: there T is the same by itself. The answer without buffers is the same
-- (`figured_answers`).
-- Assumes nothing.
use Rattle.std.specs.Prelude.{Ok}
use Rattle.limits.specs.Outcome.{Answer}
use mathlib.Core.Path.{◌≡◌, refl}
use mathlib.Core.List.{List}
use Prim.Native.Nat.{ℕ, ◌≤◌}
use native.Mathlib.Nat.{le_refl}
use lib.ListN.{get_or}
use Rattle.whole.specs.Cells.{sum}
use Rattle.whole.proofs.Sums.{sum_rises}
use Rattle.limits.specs.declared.frame.FrameValues.{FrameValues}
use Rattle.limits.specs.declared.ground.GroundValues.{GroundValues}
use Rattle.limits.specs.Levels.{top_height}
use Rattle.base_shear.specs.declared.Figures.{Figures}
use Rattle.job.specs.Distribution.{Buffers}
use Rattle.job.specs.Job.{Answers}
use Rattle.job.specs.Moves.{with_r, with_i, with_alpha, with_weight, NoneLower, AsRGrows}
use Rattle.job.specs.ShearCall.{Sheared}
use Rattle.job.proofs.CallMoves.{same_period, never_lower, as_r_grows}
use Rattle.job.proofs.CalledInTurn.{job_parted}

-- ---- two jobs on one ground at one T
module _ (G : GroundValues) (f f' : FrameValues) (ws hs ws' hs' : List ℕ) (b b' c c' : Buffers) (n n' : Figures)
    (p : Answers G f ws hs b (Ok n) b') (q : Answers G f' ws' hs' c (Ok n') c') where
  abbrev first : Sheared G f (sum ws) (top_height hs) (Ok n)
  first = (job_parted G f ws hs b n b' p).0

  abbrev second : Sheared G f' (sum ws') (top_height hs') (Ok n')
  second = (job_parted G f' ws' hs' c n' c' q).0

  pub job_never_lower : n.t ≡ n'.t → f.r ≡ f'.r → f.i ≤ f'.i → f'.alpha ≤ f.alpha → sum ws ≤ sum ws' → NoneLower n n'
  job_never_lower same = never_lower G f f' (sum ws) (top_height hs) (sum ws') (top_height hs') n n' first second same

  pub job_as_r_grows : n.t ≡ n'.t → f.r ≤ f'.r → f.i ≡ f'.i → f.alpha ≡ f'.alpha → sum ws ≡ sum ws' → AsRGrows n n'
  job_as_r_grows same = as_r_grows G f f' (sum ws) (top_height hs) (sum ws') (top_height hs') n n' first second same

  pub job_same_period : f.kind ≡ f'.kind → f.calculated ≡ f'.calculated → top_height hs ≡ top_height hs' → n.t ≡ n'.t
  job_same_period = same_period G f f' (sum ws) (top_height hs) (sum ws') (top_height hs') n n' first second

-- ---- one change
module _ (G : GroundValues) (f : FrameValues) (ws hs : List ℕ) (b b' c c' : Buffers) (n n' : Figures) (p : Answers G f ws hs b (Ok n) b') where
  -- a larger I
  pub larger_i : (i : ℕ) → Answers G (with_i f i) ws hs c (Ok n') c' → f.i ≤ i → (n.t ≡ n'.t) × NoneLower n n'
  larger_i i q h =
      let same = job_same_period G f (with_i f i) ws hs ws hs b b' c c' n n' p q refl refl refl in
      (same, job_never_lower G f (with_i f i) ws hs ws hs b b' c c' n n' p q same refl h (le_refl f.alpha) (le_refl (sum ws)))

  -- a smaller alpha-y
  pub smaller_alpha : (a : ℕ) → Answers G (with_alpha f a) ws hs c (Ok n') c' → a ≤ f.alpha → (n.t ≡ n'.t) × NoneLower n n'
  smaller_alpha a q h =
      let same = job_same_period G f (with_alpha f a) ws hs ws hs b b' c c' n n' p q refl refl refl in
      (same, job_never_lower G f (with_alpha f a) ws hs ws hs b b' c c' n n' p q same refl (le_refl f.i) h (le_refl (sum ws)))

  -- a larger weight at one level
  pub heavier_level : (x w : ℕ) → Answers G f (with_weight ws x w) hs c (Ok n') c' → get_or ws x 0 ≤ w → (n.t ≡ n'.t) × NoneLower n n'
  heavier_level x w q h =
      let vs = with_weight ws x w in
      let same = job_same_period G f f ws hs vs hs b b' c c' n n' p q refl refl refl in
      (same, job_never_lower G f f ws hs vs hs b b' c c' n n' p q same refl (le_refl f.i) (le_refl f.alpha) (sum_rises ws x w h))

  -- a larger R
  pub larger_r : (r : ℕ) → Answers G (with_r f r) ws hs c (Ok n') c' → f.r ≤ r → (n.t ≡ n'.t) × AsRGrows n n'
  larger_r r q h =
      let same = job_same_period G f (with_r f r) ws hs ws hs b b' c c' n n' p q refl refl refl in
      (same, job_as_r_grows G f (with_r f r) ws hs ws hs b b' c c' n n' p q same h refl refl refl)
