-- `whole::columns::between` meets its contract. The invariant: x is past the column p, and what the whole table gives at x is what p and the columns
-- behind it give. Assumes nothing.
use mathlib.Core.Path.{◌≡◌}
use mathlib.Core.List.{◌∷◌}
use Prim.Native.Nat.{◌<◌}
use lib.ListN.{drop}
use Rattle.whole.specs.Line.{between, place}
use Rattle.whole.proofs.columns.between.Given as goal

abbrev pub invariant-loop-q : goal.invariant-loop-q
invariant-loop-q l = (place l.p < l.x) × (between l.fn.t l.x ≡ between (l.p ∷ drop l.q-index l.q-items) l.x)
