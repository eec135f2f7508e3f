-- A row of a district: 'Row by row it equals a single job on that stretch'. Weights ws in kN and heights hs in dm of the store.
--   answer_to ws hs e    21 where the stretch is outside the store, before all else; else what the job on it is answered, with its total weight
--   row_of o             'number, place, V, V_M, V*, V_D, T' of an answer
--   Named, named ws hs e    the levels of a stretch; those that a job names, or 21
--   row_taken r          whether a row is of an accepted job: its number is 0
--   figures_in r         the five figures in a row
use Rattle.std.specs.Prelude.{Bool, List, ◌∷◌, ℕ, eqb, length, get_or}
use Rattle.limits.specs.District.{stretch, judged_stretch}
use Rattle.limits.specs.Outcome.{Outcome, accepted, number, place, values, ◌>>◌}
use Rattle.base_shear.specs.declared.Figures.{Figures}
use Rattle.job.specs.ShearCall.{five}
use Rattle.district_call.specs.declared.weighed.Weighed.{Weighed}
use Rattle.district_call.specs.Entered.{Entered}
use Rattle.district_call.specs.Weighed.{weighed_job}

unfoldable pub answer_to : List ℕ → List ℕ → Entered → Outcome Weighed
answer_to ws hs e = do
  judged_stretch (length ws) e.start e.count
  weighed_job e.ground e.frame (stretch e.start e.count ws) (stretch e.start e.count hs)

unfoldable pub row_of : Outcome Weighed → List ℕ
row_of o = number o ∷ place o ∷ values (λ w. five w.figures) 5 o

pub record Named : Type 0 where
  pub weights : List ℕ
  pub heights : List ℕ

unfoldable pub named : List ℕ → List ℕ → Entered → Outcome Named
named ws hs e = do
  judged_stretch (length ws) e.start e.count
  accepted (record { weights = stretch e.start e.count ws; heights = stretch e.start e.count hs })

abbrev pub row_taken : List ℕ → Bool
row_taken r = eqb (get_or r 0 0) 0

abbrev pub figures_in : List ℕ → Figures
figures_in r = record { v = get_or r 2 0; vm = get_or r 3 0; star = get_or r 4 0; vd = get_or r 5 0; t = get_or r 6 0 }
