-- A number: '1 to 9 digits and no leading zero (0 itself allowed)'.
--   digits bytes         the digits at the front, as they stand
--   value ds             the number that digits write, first digit first; value_from v ds    the same after digits that write v
--   leading_zero n b     n digits of which the first is b have a leading zero: 0 itself has none
--   well_made ds         1 to 9 digits, and no leading zero
--   number               a number, read
--   counted ds           how many digits there are and what they write, as the code holds it
-- ℕ's subtraction stops at 0; a digit is 48 or more.
use Rattle.std.specs.Prelude.{Bool, ◌&&◌, not, List, [], ◌∷◌, ℕ, ◌+◌, ◌-◌, ◌*◌, eqb, ltb, length, get_or}
use Rattle.whole.specs.Choice.{pick}
use Rattle.limits.specs.Ranges.{in_range}
use Rattle.text.specs.declared.number.Digits.{Digits}
use Rattle.text.specs.Reading.{found, otherwise, Reader}

unfoldable pub digits : List ℕ → List ℕ
digits [] = []
digits (b ∷ bytes) = pick (in_range 48 57 b) (b ∷ digits bytes) []

-- what digits write after others that write v
unfoldable pub value_from : ℕ → List ℕ → ℕ
value_from v [] = v
value_from v (b ∷ ds) = value_from (10 * v + (b - 48)) ds

abbrev pub value : List ℕ → ℕ
value ds = value_from 0 ds

abbrev pub leading_zero : ℕ → ℕ → Bool
leading_zero n b = ltb 1 n && eqb b 48

unfoldable pub well_made : List ℕ → Bool
well_made ds = in_range 1 9 (length ds) && not (leading_zero (length ds) (get_or ds 0 0))

unfoldable pub number : Reader ℕ
number bytes = pick (well_made (digits bytes)) (found (value (digits bytes)) (length (digits bytes))) otherwise

abbrev pub counted : List ℕ → Digits
counted ds = record { count = length ds; value = value ds }
