-- `response::factor::factor` meets its contract: each branch is that of `proofs/Printed.antt`. Assumes nothing.
use mathlib.Core.Path.{sym, ap, ap₂, ◌∙◌}
use Prim.Native.Nat.{ℕ, ◌+◌, ◌-◌, ◌*◌, ◌/◌, ◌≤◌}
use native.Mathlib.Omega.{arith}
use Rattle.response.proofs.Printed.{factor_beyond, factor_rising, factor_level, factor_below}
use Rattle.response.proofs.Reached.{thirds_exact, rooted, rise_fits, risen_most}
use Rattle.response.proofs.factor.factor.Goals as goal

pub returns-then-b-ta : goal.returns-then-b-ta
returns-then-b-ta g c =
    let a = c.args in
    let r = c.requires in
    let side = g.met.S.Side in
    c.quotient.ensures
    ∙ sym (factor_beyond side.rounds side.prints a.s a.h.a a.h.b a.t a.h.capacity a.h.square r.0.positive r.1.a_positive r.1.b_positive r.2.cap_positive c.if-b-ta.true)

pub overflow_mul-rise : goal.overflow_mul-rise
overflow_mul-rise g c =
    let a = c.args in
    let side = g.met.S.Side in
    omega (arith, rooted a.s a.h.capacity a.h.square c.requires.0 c.requires.2 side.between _ c.root-root.ensures)

pub overflow_sub-rise : goal.overflow_sub-rise
overflow_sub-rise g c =
    let a = c.args in
    let side = g.met.S.Side in
    omega (arith, c.thirds.ensures, rooted a.s a.h.capacity a.h.square c.requires.0 c.requires.2 side.between _ c.root-root.ensures)

pub overflow_mul-rise-then-b-ta-2 : goal.overflow_mul-rise-then-b-ta-2
overflow_mul-rise-then-b-ta-2 g c =
    let a = c.args in
    let side = g.met.S.Side in
    let way = a.t * a.h.a - 600 * a.h.b in
    let known = rooted a.s a.h.capacity a.h.square c.requires.0 c.requires.2 side.between _ c.root-root.ensures in
    omega (
      arith,
      ap (λ (z : ℕ). (z - 3 * c.root-root.result) * way) c.thirds.ensures,
      rise_fits a.s a.h.capacity a.h.square c.requires.0 c.requires.2 a.h.a a.h.b a.t _ c.requires.1 known.least c.if-b-ta.false,
    )

pub overflow_add-result : goal.overflow_add-result
overflow_add-result g c =
    let a = c.args in
    let side = g.met.S.Side in
    let way = a.t * a.h.a - 600 * a.h.b in
    let known = rooted a.s a.h.capacity a.h.square c.requires.0 c.requires.2 side.between _ c.root-root.ensures in
    omega (
      arith,
      c.quotient-then-b-ta-2.ensures ∙ ap (λ (z : ℕ). g.S.Side.quotient ((z - 3 * c.root-root.result) * way) (1200 * a.h.b)) c.thirds.ensures,
      known.most,
      risen_most a.s a.h.capacity a.h.square c.requires.0 c.requires.2 a.h.a a.h.b a.t _ c.requires.1 known.least c.if-b-ta.false side.rounds,
    )

pub returns-then-b-ta-2 : goal.returns-then-b-ta-2
returns-then-b-ta-2 g c =
    let a = c.args in
    let r = c.requires in
    let side = g.met.S.Side in
    let q = g.S.Side.quotient in
    let way = a.t * a.h.a - 600 * a.h.b in
    let root = g.S.Side.root a.s a.h.square in
    let known = rooted a.s a.h.capacity a.h.square r.0 r.2 side.between _ c.root-root.ensures in
    let least : 3 * root ≤ 3 * a.s / a.h.capacity.den * a.h.capacity.num = omega (arith, c.root-root.ensures, known.thirds) in
    ap₂ (λ (x y : ℕ). x + y) c.root-root.ensures
    (c.quotient-then-b-ta-2.ensures ∙ ap₂ (λ (x y : ℕ). q ((x - 3 * y) * way) (1200 * a.h.b)) c.thirds.ensures c.root-root.ensures)
    ∙ sym
    (factor_rising side.rounds side.prints a.s a.h.a a.h.b a.t a.h.capacity a.h.square r.0.positive r.1.a_positive r.1.b_positive r.2.cap_positive
    (3 * a.s / a.h.capacity.den * a.h.capacity.num) c.if-b-ta.false c.if-b-ta-2.true (thirds_exact a.s a.h.capacity a.h.square r.0 r.2) least)

pub returns-then-b-ta-3 : goal.returns-then-b-ta-3
returns-then-b-ta-3 g c =
    let a = c.args in
    let r = c.requires in
    let side = g.met.S.Side in
    c.root-root.ensures
    ∙ sym (factor_level side.rounds side.prints a.s a.h.a a.h.b a.t a.h.capacity a.h.square r.0.positive r.1.a_positive r.1.b_positive r.2.cap_positive c.if-b-ta-2.false c.if-b-ta-3.true)

pub fallen-requires : goal.fallen-requires
fallen-requires g c =
    let a = c.args in
    let side = g.met.S.Side in
    let known = rooted a.s a.h.capacity a.h.square c.requires.0 c.requires.2 side.between _ c.root-root.ensures in
    (known.least, known.most, omega arith, omega arith, omega arith)

pub returns : goal.returns
returns g c =
    let a = c.args in
    let r = c.requires in
    let side = g.met.S.Side in
    let known = rooted a.s a.h.capacity a.h.square r.0 r.2 side.between _ c.root-root.ensures in
    let least : a.s ≤ g.S.Side.root a.s a.h.square = omega (arith, c.root-root.ensures, known.least) in
    c.fallen.ensures
    ∙ ap (λ (k : ℕ). k - g.S.Side.other ((k - a.s) * (200 * a.h.b - a.t * a.h.a)) (200 * a.h.b)) c.root-root.ensures
    ∙ sym
    (factor_below side.rounds side.prints a.s a.h.a a.h.b a.t a.h.capacity a.h.square r.0.positive r.1.a_positive r.1.b_positive r.2.cap_positive
    c.if-b-ta-3.false least)
