-- What spectrum, factor and ratio ask for so that their products fit 64 bits, with room beyond what a job has.
--   FineUnit s       a divisor of 10⁸ up to 10⁷: millionths and ten-millionths among them
--   Shape a b t      A and B to 2 g, T to 509,000 ms
--   Thousandths l    lines whose constants are at most 1
--   Meeting l        lines that meet where they change, at a ratio of at most 1; the second rises, not steeper than the last, and adds
--                    at most a half; the last not steeper than 0.75
--   Ductile s c ρ    a capacity of 1 to 6 in whole thirds of the unit, a square of 1 to 11, divisors of at most 1000, and an upper root
--                    not above the capacity
use Rattle.std.specs.Prelude.{◌≡◌, ℕ, ◌+◌, ◌*◌, ◌/◌, ◌≤◌, ◌<◌}
use Rattle.whole.specs.declared.Fraction.{Fraction}
use Rattle.whole.specs.Root.{upper_root}
use Rattle.site.specs.declared.lines.Lines.{Lines}

pub record FineUnit (s : ℕ) : Type 0 where
  pub positive : 0 < s
  pub most : s ≤ 10_000_000
  pub divides : 100_000_000 / s * s ≡ 100_000_000

pub record Shape (a b t : ℕ) : Type 0 where
  pub a_positive : 0 < a
  pub a_most : a ≤ 200_000_000
  pub b_positive : 0 < b
  pub b_most : b ≤ 200_000_000
  pub t_most : t ≤ 509_000

pub record Ductile (s : ℕ) (c ρ : Fraction) : Type 0 where
  pub cap_positive : 0 < c.den
  pub cap_small : c.den ≤ 1000
  pub cap_one : c.den ≤ c.num
  pub cap_most : c.num ≤ 6 * c.den
  pub thirds : 3 * s / c.den * c.den ≡ 3 * s
  pub square_positive : 0 < ρ.den
  pub square_small : ρ.den ≤ 1000
  pub square_one : ρ.den ≤ ρ.num
  pub square_most : ρ.num ≤ 11 * ρ.den
  pub root_most : upper_root s ρ * c.den ≤ s * c.num

pub record Thousandths (l : Lines) : Type 0 where
  pub first : l.first ≤ 1000
  pub second : l.second ≤ 1000
  pub slope : l.slope ≤ 1000
  pub add : l.add ≤ 1000
  pub last : l.last ≤ 1000

pub record Meeting (l : Lines) : Type 0 where
  pub order : l.first ≤ l.second
  pub soon : l.second ≤ 1000
  pub rising : 0 < l.slope
  pub steeper : l.slope ≤ l.last
  pub gentle : l.last ≤ 750
  pub half : 2 * l.add ≤ 1000
  pub meet_first : l.slope * l.first + 1000 * l.add ≡ 1000 * l.first
  pub meet_second : l.slope * l.second + 1000 * l.add ≡ l.last * l.second
