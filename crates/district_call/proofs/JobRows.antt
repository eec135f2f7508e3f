-- 'Row by row it equals a single job on that stretch, refused in 01's order': of any row of any call that was taken. And an accepted row keeps demand 3.
-- Assumes nothing.
use mathlib.Core.Path.{◌≡◌, refl, sym, ap, subst, ◌∙◌}
use mathlib.Core.List.{List, [], ◌∷◌}
use Prim.Native.Nat.{ℕ, ◌+◌, ◌≤◌, ◌<◌}
use lib.ListN.{length, get_or}
use borrow.Author.Tests.{le-leb, lt-leb}
use Rattle.limits.specs.declared.frame.FrameValues.{FrameValues}
use Rattle.limits.specs.declared.ground.GroundValues.{GroundValues}
use Rattle.limits.specs.Applies.{RowApplies}
use Rattle.limits.specs.District.{stretch, judged_stretch}
use Rattle.limits.specs.FirstRefusal.{FirstRefusal}
use Rattle.limits.specs.Judging.{judged_job, judged_row}
use Rattle.limits.specs.Outcome.{Outcome, Answer, accepted, refused, Done, number, place, values, outcome, ◌>>=◌, ◌>>◌}
use Rattle.limits.proofs.DistrictStage.{row_first as judged_first, row_judged}
use Rattle.limits.proofs.First.{first_of_value}
use Rattle.limits.proofs.Passed.{one_value, then_passed, bind_passed}
use Rattle.limits.proofs.Unique.{answer_of, says_outcome}
use Rattle.limits.specs.declared.judging.Given.{Given}
use Rattle.response.specs.Unit.{unit}
use Rattle.margin.specs.Demand3.{BaseDemand3}
use Rattle.job.proofs.Demand3.{demand3_accepted}
use Rattle.whole.specs.Cells.{sum}
use Rattle.base_shear.specs.declared.Figures.{Figures}
use Rattle.job.specs.Distribution.{Buffers, shortest}
use Rattle.job.specs.Job.{Results, job_of, job_figures, results_of, figures_only, Figured, Answers}
use Rattle.job.specs.ShearCall.{five, given_hazards}
use Rattle.job.proofs.Independent.{figured_answer}
use Rattle.district_call.specs.declared.report.Report.{Report}
use Rattle.district_call.specs.declared.weighed.Weighed.{Weighed}
use Rattle.district_call.specs.Entered.{Entered, entered}
use Rattle.district_call.specs.Row.{answer_to, row_of}
use Rattle.district_call.specs.Weighed.{weighed_job}
use Rattle.district_call.proofs.Answered.{TakenCall, row_at}
use Rattle.district_call.proofs.Rows.{stretch_inside, row_outside, row_inside}
use Rattle.district_call.proofs.WeighedJobs.{weighed_refused, weighed_accepted}

-- ---- the row of an answer to a job, as numbers
abbrev pub row_of_job : Outcome Figures → List ℕ
row_of_job o = number o ∷ place o ∷ values five 5 o

weighed_row : (G : GroundValues) (f : FrameValues) (ws hs : List ℕ) → row_of (weighed_job G f ws hs) ≡ row_of_job (figures_only (job_of G f ws hs (length ws)))
unfolding row_of
weighed_row G f ws hs = go (figures_only (job_of G f ws hs (length ws))) refl
  where
    go : (o : Outcome Figures) → figures_only (job_of G f ws hs (length ws)) ≡ o → row_of (weighed_job G f ws hs) ≡ row_of_job (figures_only (job_of G f ws hs (length ws)))
    go (accepted n) e = ap row_of (weighed_accepted G f ws hs e) ∙ sym (ap row_of_job e)
    go (refused n p) e = ap row_of (weighed_refused G f ws hs e) ∙ sym (ap row_of_job e)

module _ (store start count : ℕ) where
  inside_passes : start + count ≤ store → judged_stretch store start count ≡ accepted tt
  unfolding judged_stretch
  inside_passes h = simp (le-leb _ _ h)

  outside_stops : store < start + count → judged_stretch store start count ≡ refused 21 0
  unfolding judged_stretch
  outside_stops h = simp (lt-leb _ _ h)

-- ---- a row of a call that was taken
module _ (js : List (List ℕ)) (ws hs : List ℕ) (old : List (List ℕ)) (r : Report) (held : List (List ℕ)) (t : TakenCall js ws hs old r held) where
  module _ (i : ℕ) (h : i < length js) where
    abbrev e : Entered
    e = entered (get_or js i [])

    abbrev own_weights : List ℕ
    own_weights = stretch e.start e.count ws

    abbrev own_heights : List ℕ
    own_heights = stretch e.start e.count hs

    -- 21, 'a stretch outside the store, for that row, first', at 0
    pub row_21 : length ws < e.start + e.count → get_or held i [] ≡ 21 ∷ 0 ∷ 0 ∷ 0 ∷ 0 ∷ 0 ∷ 0 ∷ []
    unfolding row_of
    row_21 o = row_at js ws hs old r held t i h ∙ ap row_of (row_outside ws hs e (outside_stops (length ws) e.start e.count o))

    -- else what `figures` answers to the job on that stretch; and `job`, with any buffers that hold its levels
    pub row_is_figures : e.start + e.count ≤ length ws → (x : Answer Figures) → Figured e.ground e.frame own_weights own_heights x
        → get_or held i [] ≡ row_of_job (outcome x)
    row_is_figures o x f =
        row_at js ws hs old r held t i h
        ∙ ap row_of (row_inside ws hs e (inside_passes (length ws) e.start e.count o))
        ∙ weighed_row e.ground e.frame own_weights own_heights
        ∙ ap row_of_job (sym f)

    pub row_is_job : e.start + e.count ≤ length ws → (b b' : Buffers) (x : Answer Figures) → length own_weights ≤ shortest b
        → Answers e.ground e.frame own_weights own_heights b x b' → get_or held i [] ≡ row_of_job (outcome x)
    row_is_job o b b' x l s =
        let q = figures_only (job_of e.ground e.frame own_weights own_heights (length own_weights)) in
        row_is_figures o (answer_of q) (says_outcome q)
        ∙ ap (λ (y : Answer Figures). row_of_job (outcome y))
        (sym (figured_answer e.ground e.frame own_weights own_heights b x (answer_of q) b' l s (says_outcome q)))

-- ---- the first refusal of a row
-- judgments of which each only makes something of a value are one
as_one : {G R F X : Type 0} (j : Outcome Done) (o : Outcome G) (r : G → R) (f : R → F) (w : F → X)
    → (j >> (((o >>= λ g. accepted (r g)) >>= λ x. accepted (f x)) >>= λ n. accepted (w n))) ≡ ((j >> o) >>= λ g. accepted (w (f (r g))))
as_one (accepted u) (accepted g) r f w = refl
as_one (accepted u) (refused n p) r f w = refl
as_one (refused n p) o r f w = refl

module _ (ws hs : List ℕ) (e : Entered) where
  abbrev W : List ℕ
  W = stretch e.start e.count ws

  abbrev H : List ℕ
  H = stretch e.start e.count hs

  answer_judged : answer_to ws hs e ≡ (judged_row e.ground e.frame e.start e.count ws hs >>= λ g.
      accepted (record { figures = job_figures g W H; weight = sum W }))
  unfolding answer_to weighed_job job_of
  answer_judged =
      as_one (judged_stretch (length ws) e.start e.count) (judged_job e.ground e.frame W H (length W)) (λ g. results_of g W H)
      (λ (r : Results). r.figures) (λ n. record { figures = n; weight = sum W })
      ∙ ap (λ (o : Outcome Given). o >>= λ g. accepted (record { figures = job_figures g W H; weight = sum W }))
      (sym (row_judged e.start e.count ws hs e.ground e.frame))

  pub row_first : FirstRefusal (RowApplies e.ground e.frame e.start e.count ws hs) (answer_to ws hs e)
  row_first =
      let A = RowApplies e.ground e.frame e.start e.count ws hs in
      subst (FirstRefusal A) (sym answer_judged)
      (first_of_value A (judged_row e.ground e.frame e.start e.count ws hs) (λ g. record { figures = job_figures g W H; weight = sum W })
      (judged_first e.start e.count ws hs e.ground e.frame))

-- ---- an accepted row: its stretch is inside the store, its figures are those of the job on it, its weight is theirs; and V_D keeps demand 3
pub record AcceptedRow (ws hs : List ℕ) (e : Entered) (w : Weighed) : Type 0 where
  pub inside : e.start + e.count ≤ length ws
  pub given : Given
  pub judged : judged_job e.ground e.frame (W ws hs e) (H ws hs e) (length (W ws hs e)) ≡ accepted given
  pub figures : w.figures ≡ job_figures given (W ws hs e) (H ws hs e)
  pub weight : w.weight ≡ sum (W ws hs e)
  pub kept : BaseDemand3 unit (given_hazards given) given.frame w.weight w.figures.t w.figures.vd

pub accepted_row : (ws hs : List ℕ) (e : Entered) (w : Weighed) → answer_to ws hs e ≡ accepted w → AcceptedRow ws hs e w
accepted_row ws hs e w q =
    let r = bind_passed (judged_row e.ground e.frame e.start e.count ws hs) _ (sym (answer_judged ws hs e) ∙ q) in
    let g = r.0 in
    let j = then_passed (judged_stretch (length ws) e.start e.count) _ (sym (row_judged e.start e.count ws hs e.ground e.frame) ∙ r.1) in
    let is = one_value r.2 in
    let base = (demand3_accepted e.ground e.frame (W ws hs e) (H ws hs e) (length (W ws hs e)) g j.1).base in
    record {
      inside = stretch_inside (length ws) e.start e.count j.0;
      given = g;
      judged = j.1;
      figures = sym (ap (λ (x : Weighed). x.figures) is);
      weight = sym (ap (λ (x : Weighed). x.weight) is);
      kept = subst (λ (x : Weighed). BaseDemand3 unit (given_hazards g) g.frame x.weight x.figures.t x.figures.vd) is base;
    }
