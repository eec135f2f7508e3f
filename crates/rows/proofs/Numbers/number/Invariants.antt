-- `rows::Numbers::number` meets its contract: the number is what the bytes that are left make of the value so far. Assumes nothing.
use Rattle.std.proofs.Common.{◌≡◌, length}
use Rattle.rows.specs.Numbers.{number_at, number_from}
use Rattle.rows.proofs.Numbers.number.Given as goal

abbrev pub invariant-loop-byte : goal.invariant-loop-byte
invariant-loop-byte l = number_at l.initial.self.rest.now ≡ number_from l.value l.self.rest.now

abbrev pub decreases-loop-byte : goal.decreases-loop-byte
decreases-loop-byte l = length l.self.rest.now
