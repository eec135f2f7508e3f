-- `text::writing::digit_count` meets its contract. Assumes nothing.
use mathlib.Core.Path.{sym}
use native.Mathlib.Omega.{arith}
use Rattle.text.proofs.Decimal.{length_small}
use Rattle.text.proofs.Printed.{printed_length}
use Rattle.text.proofs.writing.digit_count.Goals as goal

pub returns-in-None : goal.returns-in-None
returns-in-None c = sym (length_small c.args.n (omega (arith, c.in-None.ensures.none)))

pub returns-in-Some : goal.returns-in-Some
returns-in-Some c =
    let e = c.in-Some.ensures in
    printed_length c.in-Some.tens c.args.n e.power_le e.next_power_gt (omega arith)
