-- `response::factor::fallen` meets its contract. Assumes nothing.
use mathlib.Core.Path.{◌≡◌, ◌∙◌}
use Prim.Native.Nat.{◌-◌, ◌*◌}
use native.Mathlib.Omega.{arith}
use lib.IntN.{pos}
use Rattle.response.proofs.Fallen.{product_fits, left}
use Rattle.response.proofs.factor.fallen.Goals as goal

pub times-fall-requires : goal.times-fall-requires
times-fall-requires g c =
    let a = c.args in
    product_fits g.met.S.Side.rounds a.s a.root a.ta a.h c.requires _ _ c.minus.type_inv c.minus-2.type_inv c.minus.ensures c.minus-2.ensures

pub plus-requires : goal.plus-requires
plus-requires g c =
    let a = c.args in
    let k = a.root - g.S.Side.other ((a.root - a.s) * (a.h - a.ta)) a.h in
    let left =
    left g.met.S.Side.rounds a.s a.root a.ta a.h c.requires _ _ c.minus.type_inv c.minus-2.type_inv c.minus.ensures c.minus-2.ensures
    _ _ c.times-fall.type_inv c.signed_quotient.type_inv c.times-fall.ensures c.signed_quotient.ensures in
    (omega arith, (k, left, omega arith))

pub returns : goal.returns
returns g c =
    let a = c.args in
    let k = a.root - g.S.Side.other ((a.root - a.s) * (a.h - a.ta)) a.h in
    let left =
    left g.met.S.Side.rounds a.s a.root a.ta a.h c.requires _ _ c.minus.type_inv c.minus-2.type_inv c.minus.ensures c.minus-2.ensures
    _ _ c.times-fall.type_inv c.signed_quotient.type_inv c.times-fall.ensures c.signed_quotient.ensures in
    let e : pos c.plus.result ≡ pos k = c.plus.ensures ∙ left in
    cc
