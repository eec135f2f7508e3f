-- What the code of the accidental moments asks of its callers, as far as 64 bits need it.
--   Carried us    shears of at most 1,400,000,000 N each, as what the storeys take
use Rattle.std.specs.Prelude.{List, ℕ, ◌≤◌, ◌<◌, length, get_or}

abbrev pub Carried : List ℕ → Type 0
Carried us = (x : ℕ) → x < length us → get_or us x 0 ≤ 1_400_000_000
