-- `whole::paper::digits_down_to` meets its contract. The invariant: k is the digits of the root down to the place p, with zeros behind them, and
-- what is left is s²·n − d·k², of the square n/d. The measure is p. Assumes nothing.
use Rattle.whole.proofs.PaperLine.{Line}
use Rattle.whole.proofs.paper.digits_down_to.Given as goal

abbrev pub invariant-loop-p : goal.invariant-loop-p
invariant-loop-p l = Line l.s l.square l.last l.p l.left l.k

abbrev pub decreases-loop-p : goal.decreases-loop-p
decreases-loop-p l = l.p
