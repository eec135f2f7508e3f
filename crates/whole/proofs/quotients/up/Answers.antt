-- `whole::quotients::up` meets its contract: the quotient, or one more where something is left. That the result is that number is arithmetic, whatever
-- the form in which the code says it. Assumes nothing.
use mathlib.Core.Path.{◌∙◌}
use native.Mathlib.Omega.{arith}
use Rattle.std.proofs.Common.{◌+◌, ◌/◌, ◌%◌, min}
use Rattle.std.proofs.lemmas.Grind.{div_ceil_times}
use Rattle.whole.proofs.Rounding.{up_at}
use Rattle.whole.proofs.quotients.up.Goals as goal

pub returns : goal.returns
returns c =
    let n = c.args.n in
    let d = c.args.d in
    let t = div_ceil_times n d c.requires in
    omega (arith, c.div_ceil.ensures) ∙ up_at n d (n / d + min 1 (n % d)) c.requires (omega (arith, t.0)) (omega (arith, t.1))
