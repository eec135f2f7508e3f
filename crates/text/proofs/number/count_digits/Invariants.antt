-- `text::number::count_digits` meets its contract. The invariant: the digits are counted as those counted so far and what is left.
-- Assumes nothing.
use mathlib.Core.Path.{◌≡◌}
use Prim.Native.Nat.{◌-◌, ◌^◌, ◌≤◌, ◌<◌}
use lib.ListN.{take, drop}
use Rattle.text.proofs.Digits.{counted_from}
use Rattle.text.specs.Number.{digits, counted}
use Rattle.text.proofs.number.count_digits.Given as goal

abbrev pub invariant-loop-b : goal.invariant-loop-b
invariant-loop-b l =
    (l.count ≡ l.b-index) × (l.count ≤ 10) × (l.value < 10 ^ l.count)
    × (counted (take 10 (digits l.s)) ≡ counted_from l.count l.value (take (10 - l.count) (digits (drop l.count l.s))))
