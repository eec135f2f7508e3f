-- What the answer of a job, called with buffers of 50 cells, says of its outcome. Over 50 levels are refused before any buffer is
-- looked at.
-- Assumes nothing.
use mathlib.Core.Path.{◌≡◌, refl, sym, ap, subst, ◌∙◌}
use mathlib.Core.Bool.{Bool, true, false}
use mathlib.Core.List.{List}
use Prim.Native.Nat.{ℕ, ◌≤◌, ◌<◌}
use native.Mathlib.Nat.{le_refl}
use native.Mathlib.Omega.{arith}
use lib.Dec.{leb}
use lib.ListN.{length, take}
use borrow.Author.Tests.{leb-true, leb-false, le-leb, lt-leb}
use Rattle.std.specs.Prelude.{Ok, Err}
use Rattle.limits.specs.declared.frame.FrameValues.{FrameValues}
use Rattle.limits.specs.declared.ground.GroundValues.{GroundValues}
use Rattle.limits.specs.declared.refusal.Refusal.{Refusal}
use Rattle.limits.specs.Judging.{judged_job}
use Rattle.limits.specs.Levels.{judged_levels}
use Rattle.limits.specs.Outcome.{Answer, accepted, refused, zeros}
use Rattle.limits.specs.Ranges.{in_range, within}
use Rattle.limits.proofs.Accepted.{given_allowed}
use Rattle.limits.proofs.Room.{room_enough}
use Rattle.base_shear.specs.declared.Figures.{Figures}
use Rattle.job.specs.Distribution.{Buffers}
use Rattle.job.specs.Job.{Results, results_at, job_of, Answers}
use Rattle.job.proofs.Answered.{taken_accepted, refused_judged}
use Rattle.job.proofs.Columns.{forces_cells, shears_cells, overturnings_cells}
use Rattle.job.proofs.Independent.{taken_written}
use Rattle.job.proofs.Stages.{job_refused, job_accepted}
use Rattle.sheet.specs.Listing.{Levelled}

abbrev pub lent : Buffers
lent = record { forces = zeros 50; shears = zeros 50; overturnings = zeros 50 }

-- the results that stand in the first cells, as many as there are weights
abbrev cut : List ℕ → Figures → Buffers → Results
cut ws n b =
    record {
      figures = n;
      columns =
          record {
            forces = take (length ws) b.forces;
            shears = take (length ws) b.shears;
            overturnings = take (length ws) b.overturnings;
          };
    }

pub record JobTaken (G : GroundValues) (f : FrameValues) (ws hs : List ℕ) (n : Figures) (b : Buffers) : Type 0 where
  pub few : length ws ≤ 50
  pub forces : length (take (length ws) b.forces) ≡ length ws
  pub shears : length (take (length ws) b.shears) ≡ length ws
  pub overturnings : length (take (length ws) b.overturnings) ≡ length ws
  pub levelled : Levelled (take (length ws) b.forces) (take (length ws) b.shears) (take (length ws) b.overturnings)
  pub outcome : job_of G f ws hs (length ws) ≡ accepted (cut ws n b)

pub too_many : (G : GroundValues) (f : FrameValues) (ws hs : List ℕ) (room : ℕ) → 50 < length ws
    → judged_job G f ws hs room ≡ refused 1 0
unfolding judged_job judged_levels within in_range
too_many G f ws hs room h = simp (le-leb 1 (length ws) (omega arith), lt-leb (length ws) 50 h)

module _ (G : GroundValues) (f : FrameValues) (ws hs : List ℕ) where
  room : judged_job G f ws hs (length ws) ≡ judged_job G f ws hs 50
  room = go (leb (length ws) 50) refl
    where
      go : (t : Bool) → leb (length ws) 50 ≡ t → judged_job G f ws hs (length ws) ≡ judged_job G f ws hs 50
      go true e = room_enough G f ws hs (length ws) 50 (le_refl (length ws)) (leb-true (length ws) 50 e)
      go false e =
          let many = leb-false (length ws) 50 e in
          too_many G f ws hs (length ws) many ∙ sym (too_many G f ws hs 50 many)

  module _ (a : Answer Figures) (b' : Buffers) (said : Answers G f ws hs lent a b') where
    told : (x : Answer Figures) → a ≡ x → Answers G f ws hs lent x b'
    told x is = subst (λ (y : Answer Figures). Answers G f ws hs lent y b') is said

    pub refused_outcome : (r : Refusal) → a ≡ Err r → job_of G f ws hs (length ws) ≡ refused r.number r.place
    refused_outcome r is = job_refused G f ws hs (length ws) (room ∙ refused_judged G f ws hs lent r b' (told (Err r) is))

    -- what a job that was taken leaves in the buffers: as many cells as there are levels, and its outcome
    pub job_taken : (n : Figures) → a ≡ Ok n → JobTaken G f ws hs n b'
    job_taken n is =
        let s = told (Ok n) is in
        let t = taken_accepted G f ws hs lent n b' s in
        let w = taken_written G f ws hs lent n b' s in
        let few = (given_allowed G f ws hs 50 t.given t.judged).0.levels.few in
        let forces = ap length w.forces ∙ forces_cells n.t n.vd ws hs in
        let shears = ap length w.shears ∙ shears_cells n.t n.vd ws hs in
        let overturnings = ap length w.overturnings ∙ overturnings_cells n.t n.vd ws hs in
        record {
          few = few;
          forces = forces;
          shears = shears;
          overturnings = overturnings;
          levelled = record { shears = shears ∙ sym forces; overturnings = overturnings ∙ sym forces; few = omega (arith, forces, few) };
          outcome =
              job_accepted G f ws hs (length ws) (room ∙ t.judged)
              ∙ sym (rw (w.forces, w.shears, w.overturnings) (ap (λ (m : Figures). accepted (results_at m ws hs)) t.figures));
        }
