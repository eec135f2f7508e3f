-- `Tabbed` prints each of its numbers behind a tab. Assumes nothing.
use Rattle.std.proofs.Common.{Ok, take}
use Rattle.std.specs.Fmt.{DisplaysOnOk}
use Rattle.cases.specs.Said.{tabbed}
use Rattle.cases.proofs.said.TabbedDisplay.fmt.Given as goal

abbrev pub invariant-loop-number : goal.invariant-loop-number
invariant-loop-number g l =
    DisplaysOnOk g.W.Write.write_str_gives l.initial.f (Ok tt) (tabbed g.T.Display.output (take l.number-index l.number-items)) l.f
