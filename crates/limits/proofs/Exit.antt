-- The exit of a `?`: a refusal is handed on as it is.
-- Assumes nothing.
use mathlib.Core.Path.{◌≡◌, ap, ◌∙◌}
use Rattle.std.specs.Prelude.{Err}
use Rattle.std.specs.Result.{IsErrAnd}
use Rattle.std.proofs.lemmas.Result.{err_from_is_err_and}
use Rattle.limits.specs.declared.refusal.Refusal.{Refusal}
use Rattle.limits.specs.Outcome.{Answer}

pub handed_on : {A : Type 0} (a : Answer A) (r : Refusal) → IsErrAnd a (λ e. e ≡ r) → a ≡ Err r
handed_on a r h = let p = err_from_is_err_and a h in p.1 ∙ ap (λ (e : Refusal). Err e) p.2
