-- Two numbers that are read one after the other make a change, where there is such a field. Assumes nothing.
use Rattle.std.proofs.Common.{◌≡◌, ℕ, ◌<◌, ◌≤◌, cond, List, Option, Some, None, length, nat_lt, slice_set, refl, sym, ap, ◌∙◌, rules}
use Rattle.std.proofs.lemmas.List.{set_past}
use Rattle.std.proofs.lemmas.Grind.{common_steps}
use Rattle.rows.specs.Numbers.{Read, number_at, behind}
use Rattle.cases.specs.Changed.{Changes, field, value}

-- what a change of the field `at` to `v` gives
abbrev told_of : List ℕ → ℕ → ℕ → Option (ℕ × ℕ)
told_of fields at v = cond (nat_lt at (length fields)) (Some (at, v)) None

module _ {fields s : List ℕ} (a b : Read) (e : a ≡ number_at s) (f : b ≡ number_at a.rest) where
  changes : (r : Option (ℕ × ℕ)) (after : List ℕ) → r ≡ told_of fields a.value b.value → after ≡ slice_set fields a.value b.value → Changes fields s r after b.rest
  unfolding behind
  changes r after t h =
      let first : a.rest ≡ behind s 1 = ap (λ (r : Read). r.rest) e in
      let second : b ≡ number_at (behind s 1) = f ∙ ap (λ (l : List ℕ). number_at l) first in
      let at_is : a.value ≡ field s = ap (λ (r : Read). r.value) e in
      let value_is : b.value ≡ value s = ap (λ (r : Read). r.value) second in
      record {
        changed = h ∙ (λ i. slice_set fields (at_is i) (value_is i));
        told = t ∙ (λ i. told_of fields (at_is i) (value_is i));
        read = ap (λ (r : Read). r.rest) second;
      }

  pub change_made : a.value < length fields → Changes fields s (Some (a.value, b.value)) (slice_set fields a.value b.value) b.rest
  change_made h = changes _ _ (grind (rules, common_steps)) refl

  pub change_none : length fields ≤ a.value → Changes fields s None fields b.rest
  change_none h = changes _ _ (grind (rules, common_steps)) (sym (set_past fields a.value b.value h))
