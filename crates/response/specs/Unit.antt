-- The unit of spectrum, roots, reduction factors and ratios: each is a whole number of s-ths. Every definition takes s.
--   unit    ten-millionths
use Rattle.std.specs.Prelude.{ℕ}

abbrev pub unit : ℕ
unit = 10_000_000
