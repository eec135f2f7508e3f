-- 'A refused job leaves the others' rows as they would have been': an answer goes by the ground, the frame and the levels of the stretch alone. So two calls
-- that share a job and the levels of its stretch give it the same row.
-- Assumes nothing.
use mathlib.Core.Path.{◌≡◌, refl, sym, ap, ◌∙◌}
use mathlib.Core.List.{List, []}
use Prim.Native.Nat.{ℕ, ◌<◌}
use native.Mathlib.Omega.{arith}
use lib.ListN.{length, get_or, set, length-set}
use lib.Seq.{get_or-set_other}
use Rattle.limits.specs.District.{stretch, judged_stretch}
use Rattle.limits.specs.Outcome.{Outcome, accepted, refused, Done, ◌>>=◌, ◌>>◌}
use Rattle.district_call.specs.declared.report.Report.{Report}
use Rattle.district_call.specs.Entered.{Entered, entered}
use Rattle.district_call.specs.Row.{answer_to, row_of, Named, named}
use Rattle.district_call.specs.Weighed.{weighed_job}
use Rattle.district_call.proofs.Answered.{TakenCall, row_at}

by_named : (ws hs : List ℕ) (e : Entered) → answer_to ws hs e ≡ (named ws hs e >>= λ l. weighed_job e.ground e.frame l.weights l.heights)
unfolding answer_to named
by_named ws hs e = go (judged_stretch (length ws) e.start e.count) (record { weights = stretch e.start e.count ws; heights = stretch e.start e.count hs })
  where
    go : (j : Outcome Done) (l : Named)
        → (j >> weighed_job e.ground e.frame l.weights l.heights)
        ≡ ((j >> accepted l) >>= λ m. weighed_job e.ground e.frame m.weights m.heights)
    go (accepted u) l = refl
    go (refused n p) l = refl

pub answers_alike : (ws hs ws' hs' : List ℕ) (e e' : Entered) → e.ground ≡ e'.ground → e.frame ≡ e'.frame → named ws hs e ≡ named ws' hs' e'
    → answer_to ws hs e ≡ answer_to ws' hs' e'
answers_alike ws hs ws' hs' e e' g f l =
    by_named ws hs e
    ∙ (λ i. l i >>= λ m. weighed_job (g i) (f i) m.weights m.heights)
    ∙ sym (by_named ws' hs' e')

-- two calls that share a job and the levels of its stretch give it the same row, wherever it stands in each
pub rows_alike : (js : List (List ℕ)) (ws hs : List ℕ) (old : List (List ℕ)) (r : Report) (held : List (List ℕ))
    → TakenCall js ws hs old r held → (js' : List (List ℕ)) (ws' hs' : List ℕ) (old' : List (List ℕ)) (r' : Report)
    (held' : List (List ℕ)) → TakenCall js' ws' hs' old' r' held' → (i i' : ℕ) → i < length js → i' < length js'
    → (let e = entered (get_or js i []) in let e' = entered (get_or js' i' []) in
    e.ground ≡ e'.ground → e.frame ≡ e'.frame → named ws hs e ≡ named ws' hs' e' → get_or held i [] ≡ get_or held' i' [])
rows_alike js ws hs old r held t js' ws' hs' old' r' held' t' i i' h h' g f l =
    row_at js ws hs old r held t i h
    ∙ ap row_of (answers_alike ws hs ws' hs' (entered (get_or js i [])) (entered (get_or js' i' [])) g f l)
    ∙ sym (row_at js' ws' hs' old' r' held' t' i' h')

-- whatever job stands at k in place of another, refused or not, the rows of the others stay
pub others_stay : (js : List (List ℕ)) (ws hs : List ℕ) (old : List (List ℕ)) (k : ℕ) (j : List ℕ) (r r' : Report)
    (held held' : List (List ℕ)) → TakenCall js ws hs old r held → TakenCall (set js k j) ws hs old r' held' → (i : ℕ) → i < length js
    → (i ≡ k → ⊥) → get_or held i [] ≡ get_or held' i []
others_stay js ws hs old k j r r' held held' t t' i h apart =
    row_at js ws hs old r held t i h
    ∙ ap (λ (x : List ℕ). row_of (answer_to ws hs (entered x))) (sym (get_or-set_other js k i j [] apart))
    ∙ sym (row_at (set js k j) ws hs old r' held' t' i (omega (arith, h, length-set js k j)))
