-- What the programs say of an answer, as bytes.
--   tabbed out numbers    the numbers one behind the other, each behind a TAB
--   answer_said a         `taken` and its numbers, or `refused`, number and place
--   refusal_said r        a refusal in words
use Rattle.std.specs.Prelude.{Option, Some, List, [], ◌∷◌, ℕ, Result, Ok, Err}
use Rattle.std.specs.Fmt.{◌++?◌, decimal}
use lib.Chars.{codes}
use Rattle.limits.specs.declared.refusal.Refusal.{Refusal}

unfoldable pub tabbed : {T : Type 0} → (T → Option (List ℕ)) → List T → Option (List ℕ)
tabbed out [] = Some []
tabbed out (x ∷ xs) = (Some (9 ∷ []) ++? out x) ++? tabbed out xs

abbrev pub answer_said : Result (List ℕ) Refusal → Option (List ℕ)
answer_said (Ok numbers) = Some (codes "taken") ++? tabbed (λ n. Some (decimal n)) numbers
answer_said (Err r) = Some (codes "refused") ++? (Some (9 ∷ []) ++? (Some (decimal r.number) ++? (Some (9 ∷ []) ++? Some (decimal r.place))))

abbrev pub refusal_said : Refusal → Option (List ℕ)
refusal_said r = Some (codes "refused ") ++? (Some (decimal r.number) ++? (Some (codes " at ") ++? Some (decimal r.place)))
