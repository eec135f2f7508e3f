-- Numbers behind tabs, one more of them. Assumes nothing.
use Rattle.std.proofs.Common.{◌≡◌, ℕ, List, [], ◌∷◌, ◌++◌, Option, Some, None, append-nil, refl, sym, ap, ◌∙◌}
use Rattle.std.specs.Fmt.{◌++?◌}
use Rattle.std.proofs.Output.{then_text_assoc}
use Rattle.cases.specs.Said.{tabbed}

nothing_behind : (o : Option (List ℕ)) → o ++? Some [] ≡ Some [] ++? o
nothing_behind None = refl
nothing_behind (Some bs) = ap (λ (l : List ℕ). Some l) (append-nil bs)

module _ {T : Type 0} (out : T → Option (List ℕ)) where
  pub tabbed_more : (xs : List T) (x : T) → tabbed out (xs ++ x ∷ []) ≡ tabbed out xs ++? (Some (9 ∷ []) ++? out x)
  unfolding tabbed
  tabbed_more [] x = nothing_behind (Some (9 ∷ []) ++? out x)
  tabbed_more (y ∷ xs) x =
      ap (λ (o : Option (List ℕ)). (Some (9 ∷ []) ++? out y) ++? o) (tabbed_more xs x)
      ∙ sym (then_text_assoc (Some (9 ∷ []) ++? out y) (tabbed out xs) (Some (9 ∷ []) ++? out x))
