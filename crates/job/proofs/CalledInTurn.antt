-- A job's answer is what the answers of the shear call and of the distribution make in turn, and the other way; and neither gives 19 or 20 for V_D and T of a
-- shear call.
--   both n a    what the two calls answer together: the figures n, or what the distribution refuses with
-- Assumes nothing.
use Rattle.std.specs.Prelude.{Ok, Err}
use mathlib.Core.Path.{◌≡◌, refl, sym, ap, ◌∙◌}
use mathlib.Core.List.{List}
use mathlib.Core.Logic.{◌⊎◌, inl, inr}
use Prim.Native.Nat.{ℕ, ◌≤◌}
use Rattle.whole.specs.Cells.{sum}
use Rattle.limits.specs.declared.frame.FrameValues.{FrameValues}
use Rattle.limits.specs.declared.ground.GroundValues.{GroundValues}
use Rattle.limits.specs.declared.refusal.Refusal.{Refusal}
use Rattle.limits.specs.Allowed.{AllowedHanded}
use Rattle.limits.specs.Applies.{LevelsApply}
use Rattle.limits.specs.Levels.{judged_levels, top_height}
use Rattle.limits.specs.Outcome.{Outcome, accepted, refused, Answer, Done}
use Rattle.limits.proofs.AcceptedCalls.{judged_in_turn, judged_handed_lem}
use Rattle.limits.proofs.Told.{given_applies}
use Rattle.limits.proofs.Numbers.{numbered_levels, at_most_18}
use Rattle.limits.proofs.Refusing.{levels_told}
use Rattle.base_shear.specs.declared.Figures.{Figures}
use Rattle.job.specs.Distribution.{columns_at, Buffers, shortest, laid_over, Distributed}
use Rattle.job.specs.Job.{Results, job_of, figures_only, written, Answers}
use Rattle.job.specs.ShearCall.{Sheared}
use Rattle.job.proofs.Answered as job
use Rattle.job.proofs.Distributed.{passed_judged, passed_cells, refused_judged, refused_untouched, passed_distributed}
use Rattle.job.proofs.GivenReached.{between_handed}
use Rattle.job.proofs.FirstRefusal.{job_first}
use Rattle.job.proofs.Sheared as call
use Rattle.job.proofs.Stages.{job_refused, job_accepted}
use Rattle.job.proofs.Unique.{one_outcome}
use Rattle.job.proofs.InTurn.{levels_refuse, levels_pass}

abbrev pub both : Figures → Answer Done → Answer Figures
both n (Ok tt) = Ok n
both n (Err r) = Err r

same_refusal : {q r : Refusal} → ◌≡◌ {A = Answer Figures} (Err q) (Err r) → q ≡ r
same_refusal e = cc

handed : (G : GroundValues) (f : FrameValues) (W h : ℕ) (n : Figures) → Sheared G f W h (Ok n) → AllowedHanded n.vd n.t
handed G f W h n c = between_handed n (call.figures_between G f W h n c)

module _ (G : GroundValues) (f : FrameValues) (ws hs : List ℕ) (b : Buffers) where
  levels_taken : (v T : ℕ) → AllowedHanded v T → (c : Buffers) → Distributed v T ws hs b (Ok tt) c
      → judged_levels ws hs (shortest b) ≡ accepted tt
  levels_taken v T a c d = sym (judged_handed_lem v T ws hs (shortest b) a) ∙ passed_judged v T ws hs b c d

  refused_job : {n p : ℕ} → judged_levels ws hs (shortest b) ≡ refused n p
      → (figures_only (job_of G f ws hs (shortest b)) ≡ refused n p) × (written (job_of G f ws hs (shortest b)) b ≡ b)
  refused_job e =
      let o = job_refused G f ws hs (shortest b) (levels_refuse G f ws hs (shortest b) e) in
      (ap figures_only o, ap (λ (x : Outcome Results). written x b) o)

  -- the levels come first: whatever shear and period in range are handed in with them, what the distribution refuses them for is what the
  -- job refuses them for
  pub levels_first : (v T : ℕ) → AllowedHanded v T → (r : Refusal) (b' : Buffers) → Distributed v T ws hs b (Err r) b'
      → Answers G f ws hs b (Err r) b'
  levels_first v T a r b' d =
      let l = sym (judged_handed_lem v T ws hs (shortest b) a) ∙ refused_judged v T ws hs b r b' d in
      let o = refused_job l in
      (sym o.0, refused_untouched v T ws hs b r b' d ∙ sym o.1)

  -- once it takes them, what the shear call refuses is what the job refuses
  pub refused_in_turn : (v T : ℕ) → AllowedHanded v T → (c : Buffers) → Distributed v T ws hs b (Ok tt) c
      → (r : Refusal) → Sheared G f (sum ws) (top_height hs) (Err r) → Answers G f ws hs b (Err r) b
  refused_in_turn v T a c d r e =
      let l = levels_taken v T a c d in
      let j = judged_in_turn G f ws hs (shortest b) l ∙ call.refused_judged G f (sum ws) (top_height hs) r e in
      let o = job_refused G f ws hs (shortest b) j in
      (sym (ap figures_only o), sym (ap (λ (x : Outcome Results). written x b) o))

  -- where the shear call answers with figures, the distribution at V_D and T gives the job's answer and the job's cells
  module _ (n : Figures) (c : Sheared G f (sum ws) (top_height hs) (Ok n)) where
    pub called_in_turn : (a : Answer Done) (b' : Buffers) → Distributed n.vd n.t ws hs b a b' → Answers G f ws hs b (both n a) b'
    called_in_turn (Ok tt) b' d =
        let l = levels_taken n.vd n.t (handed G f (sum ws) (top_height hs) n c) b' d in
        let t = call.taken_accepted G f (sum ws) (top_height hs) n c in
        let o = job_accepted G f ws hs (shortest b) (judged_in_turn G f ws hs (shortest b) l ∙ t.judged) in (
          ap accepted t.figures ∙ sym (ap figures_only o),
          passed_cells n.vd n.t ws hs b b' d
              ∙ ap (λ (m : Figures). laid_over (columns_at m.t m.vd ws hs) b) t.figures
              ∙ sym (ap (λ (x : Outcome Results). written x b) o),
        )
    called_in_turn (Err r) b' d = levels_first n.vd n.t (handed G f (sum ws) (top_height hs) n c) r b' d

  -- and the other way. Where a job answers with figures, so do the two calls, and they write what it writes
  pub job_parted : (n : Figures) (b' : Buffers) → Answers G f ws hs b (Ok n) b'
      → Sheared G f (sum ws) (top_height hs) (Ok n) × Distributed n.vd n.t ws hs b (Ok tt) b'
  job_parted n b' a =
      let t = job.taken_accepted G f ws hs b n b' a in
      let l = levels_pass G f ws hs (shortest b) t.judged in
      let j = sym (judged_in_turn G f ws hs (shortest b) l) ∙ t.judged in
      let c : Sheared G f (sum ws) (top_height hs) (Ok n) =
      ap accepted t.figures ∙ sym (call.call_accepted G f (sum ws) (top_height hs) j) in
      let d = judged_handed_lem n.vd n.t ws hs (shortest b) (handed G f (sum ws) (top_height hs) n c) ∙ l in (
        c,
        passed_distributed n.vd n.t ws hs (shortest b) b refl d
            (ap (λ (x : Buffers). x.shears) t.cells) (ap (λ (x : Buffers). x.forces) t.cells)
            (ap (λ (x : Buffers). x.overturnings) t.cells),
      )

  -- where it refuses, the distribution of any shear and period in range refuses the levels so, or takes them and the shear call refuses so
  pub refused_parted : (r : Refusal) (b' : Buffers) → Answers G f ws hs b (Err r) b' → (v T : ℕ) → AllowedHanded v T
      → (a : Answer Done) (c : Buffers) → Distributed v T ws hs b a c
      → (a ≡ Err r) ⊎ ((a ≡ (Ok tt)) × Sheared G f (sum ws) (top_height hs) (Err r))
  refused_parted r b' p v T h (Err q) c d =
      inl (ap Err (same_refusal (one_outcome G f ws hs b (levels_first v T h q c d) p).0))
  refused_parted r b' p v T h (Ok tt) c d =
      let l = levels_taken v T h c d in
      let j = sym (judged_in_turn G f ws hs (shortest b) l) ∙ job.refused_judged G f ws hs b r b' p in
      inr (refl, sym (call.call_refused G f (sum ws) (top_height hs) j))

-- ---- V_D and T of any shear call are what the distribution takes, over any levels: it never gives 19 or 20 for them; nor does a job
pub never_19_nor_20 : (G : GroundValues) (f : FrameValues) (W h : ℕ) (n : Figures) → Sheared G f W h (Ok n)
    → (ws hs : List ℕ) (b : Buffers) (r : Refusal) (b' : Buffers) → Distributed n.vd n.t ws hs b (Err r) b' → r.number ≤ 4
never_19_nor_20 G f W h n c ws hs b r b' d =
    let l = sym (judged_handed_lem n.vd n.t ws hs (shortest b) (handed G f W h n c)) ∙ refused_judged n.vd n.t ws hs b r b' d in
    let told = levels_told ws hs (shortest b) in
    (numbered_levels (given_applies (LevelsApply ws hs (shortest b)) (judged_levels ws hs (shortest b)) told r.number r.place l)).1

pub job_at_most_18 : (G : GroundValues) (f : FrameValues) (ws hs : List ℕ) (b : Buffers) (r : Refusal) (b' : Buffers)
    → Answers G f ws hs b (Err r) b' → r.number ≤ 18
job_at_most_18 G f ws hs b r b' a =
    let w = (job_first G f ws hs b (Err r) b' a).refused_applies r.number r.place refl in
    (at_most_18 (LevelsApply ws hs (shortest b)) (λ n p. numbered_levels) f G w).1
