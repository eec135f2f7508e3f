-- `whole::paper::digits_down_to` meets its contract. The invariant: k is the digits of the root down to the place p, with zeros behind them, and
-- what is left is s²·n − d·k², of the square n/d. The measure is p. Assumes nothing.
use native.Mathlib.Omega.{arith}
use Rattle.whole.proofs.PaperLine.{first_line, line_small, next_positive, next_small, ten_more, next_fits, next_line}
use Rattle.whole.proofs.paper.digits_down_to.Goals as goal

pub loop-p-init : goal.loop-p-init
loop-p-init c = (let q = c.requires.0 in first_line c.args.s c.args.square q.unit_most q.positive q.most c.args.last c.requires.2)

pub digit-requires : goal.digit-requires
digit-requires c =
    let s = c.args.s in
    let ρ = c.args.square in
    let q = c.requires.0 in
    let l = c.requires.1 in
    let i = c.loop-p.invariant in
    let t = c.loop-p-test.true in
    (q.positive, q.small, line_small s ρ q.unit_most q.positive q.most l i, next_positive s ρ q.unit_most q.positive q.most l i t, next_small s ρ q.unit_most q.positive q.most l i t, ten_more s ρ q.unit_most q.positive q.most l i t)

pub overflow_mul-x : goal.overflow_mul-x
overflow_mul-x c =
    let q = c.requires.0 in
    let i = c.loop-p.invariant in
    omega (arith, next_fits c.args.s c.args.square q.unit_most q.positive q.most c.requires.1 i c.loop-p-test.true c.digit.result c.digit.ensures.holds)

pub taken-left-requires : goal.taken-left-requires
taken-left-requires c =
    let s = c.args.s in
    let ρ = c.args.square in
    let q = c.requires.0 in
    let l = c.requires.1 in
    let i = c.loop-p.invariant in
    (q.small, line_small s ρ q.unit_most q.positive q.most l i, next_fits s ρ q.unit_most q.positive q.most l i c.loop-p-test.true c.digit.result c.digit.ensures.holds)

pub overflow_add-k : goal.overflow_add-k
overflow_add-k c =
    let s = c.args.s in
    let ρ = c.args.square in
    let q = c.requires.0 in
    let l = c.requires.1 in
    let i = c.loop-p.invariant in
    omega (arith, line_small s ρ q.unit_most q.positive q.most l i, next_fits s ρ q.unit_most q.positive q.most l i c.loop-p-test.true c.digit.result c.digit.ensures.holds)

pub loop-p-preserved : goal.loop-p-preserved
loop-p-preserved c =
    let q = c.requires.0 in
    let i = c.loop-p.invariant in
    next_line c.args.s c.args.square q.unit_most q.positive q.most c.requires.1 i c.loop-p-test.true c.digit.result c.taken-left.result c.digit.ensures
    c.taken-left.ensures
