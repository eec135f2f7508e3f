-- `text::writing::Writer::decimal` meets its contract. The invariant: what is left to be written makes the buffer as it shall be.
-- Assumes nothing.
use mathlib.Core.Path.{◌≡◌}
use Prim.Native.Nat.{◌≤◌}
use Rattle.text.proofs.Decimal.{Left}
use Rattle.text.proofs.writing.Writer.decimal.Given as goal

abbrev pub invariant-loop-p : goal.invariant-loop-p
invariant-loop-p l =
    (l.rest ≤ l.n) × (l.self.at ≡ l.initial.self.at) × (l.self.out.ghost_name ≡ l.initial.self.out.ghost_name) × Left l.initial.self.out.now l.initial.self.at l.n l.self.out.now l.rest l.p
