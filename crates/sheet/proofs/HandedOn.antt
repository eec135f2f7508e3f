-- What `ok_or` and `?` hand on: the refusal where there is no value, else the value.
-- Assumes nothing.
use mathlib.Core.Path.{◌≡◌, sym, ap, ◌∙◌}
use Rattle.std.specs.Prelude.{Option, Some, None, Ok, Err}
use Rattle.std.specs.Option.{ok_or}
use Rattle.std.specs.Result.{IsErrAnd}
use Rattle.limits.specs.declared.refusal.Refusal.{Refusal}
use Rattle.limits.specs.Outcome.{Answer}
use Rattle.limits.proofs.Exit.{handed_on}

module _ {A : Type 0} (o : Option A) (r : Refusal) {a : Answer A} (is : a ≡ ok_or o r) where
  pub or_missed : {T : Type 0} {f : Refusal} → a ≡ Err f → (x : Answer T) → IsErrAnd x (λ e. e ≡ f) → (o ≡ None) × (x ≡ Err r)
  or_missed {T} {f} m x h = go o (sym is ∙ m)
    where
      go : (o : Option A) → ok_or o r ≡ Err f → (o ≡ None) × (x ≡ Err r)
      go None u =
          let same : r ≡ f = cc in
          (cc, handed_on x f h ∙ ap Err (sym same))
      go (Some v) u = cc

  pub or_found : {v : A} → a ≡ Ok v → o ≡ Some v
  or_found {v} m = go o (sym is ∙ m)
    where
      go : (o : Option A) → ok_or o r ≡ Ok v → o ≡ Some v
      go None u = cc
      go (Some w) u =
          let same : w ≡ v = cc in
          ap Some same
