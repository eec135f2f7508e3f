-- A row of fields that a case changes.
--   Changes fields s r after rest    by the first two numbers of s, a field and its value, `fields` becomes `after`, r is the change that was made,
--                                    and `rest` is behind the two numbers
use Rattle.std.specs.Prelude.{◌≡◌, List, ℕ, Option, Some, None, cond, nat_lt, length, slice_set}
use Rattle.rows.specs.Numbers.{number_at, behind}

abbrev pub field : List ℕ → ℕ
field s = (number_at s).value

abbrev pub value : List ℕ → ℕ
value s = (number_at (behind s 1)).value

pub record Changes (fields s : List ℕ) (r : Option (ℕ × ℕ)) (after rest : List ℕ) : Type 0 where
  pub changed : after ≡ slice_set fields (field s) (value s)
  pub told : r ≡ cond (nat_lt (field s) (length fields)) (Some (field s, value s)) None
  pub read : rest ≡ behind s 2
