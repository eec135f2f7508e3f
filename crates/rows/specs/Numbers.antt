-- Numbers in decimal, one after another.
--   goes_on v b          the byte b goes on with a number whose digits so far write v: a digit that keeps it within 64 bits
--   with_digit v b       v with the digit b behind it, where b goes on with it
--   number_from v bytes  the number that the bytes go on with, and the bytes behind it: behind the byte that ends it, or none
--   number_at s          the number that s begins with; where no digit stands there, 0. A digit past 64 bits ends a number, as any other byte does
--   behind s k           the bytes behind the first k numbers of s
--   Row s count n values rest   `values` is the row of the first `count` numbers of s: they stand in the first of its n cells, and the others hold 0;
--                               `rest` is what is behind them
-- ℕ's subtraction stops at 0; a digit is 48 or more.
use Rattle.std.specs.Prelude.{◌≡◌, Bool, ◌&&◌, cond, List, [], ◌∷◌, ℕ, zero, suc, ◌+◌, ◌-◌, ◌*◌, ◌≤◌, ◌<◌, leb, length, get_or, Option, Some, None}

unfoldable pub goes_on : ℕ → ℕ → Bool
goes_on v b = leb 48 b && leb b 57 && leb (10 * v + (b - 48)) 18_446_744_073_709_551_615

unfoldable pub with_digit : ℕ → ℕ → Option ℕ
with_digit v b = cond (goes_on v b) (Some (10 * v + (b - 48))) None

pub record Read : Type 0 where
  pub value : ℕ
  pub rest : List ℕ

unfoldable pub number_from : ℕ → List ℕ → Read
number_from v [] = record { value = v; rest = [] }
number_from v (b ∷ bytes) = cond (goes_on v b) (number_from (10 * v + (b - 48)) bytes) (record { value = v; rest = bytes })

abbrev pub number_at : List ℕ → Read
number_at s = number_from 0 s

unfoldable pub behind : List ℕ → ℕ → List ℕ
behind s zero = s
behind s (suc k) = (number_at (behind s k)).rest

pub record Row (s : List ℕ) (count n : ℕ) (values rest : List ℕ) : Type 0 where
  pub size : length values ≡ n
  pub numbers : (k : ℕ) → k < count → get_or values k 0 ≡ (number_at (behind s k)).value
  pub zeros : (k : ℕ) → count ≤ k → k < n → get_or values k 0 ≡ 0
  pub after : rest ≡ behind s count
