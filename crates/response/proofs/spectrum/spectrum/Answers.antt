-- `response::spectrum::spectrum` meets its contract: each branch is that of `proofs/Spectra.antt`. Assumes nothing.
use mathlib.Core.Path.{refl, sym, ◌∙◌}
use Prim.Native.Nat.{◌*◌, ◌/◌, ◌<◌}
use native.Mathlib.Omega.{arith}
use Rattle.response.proofs.Reached.{parts_positive}
use Rattle.response.proofs.Spectra.{first_branch, second_branch, third_branch, fourth_branch, left_positive}
use Rattle.response.proofs.spectrum.spectrum.Goals as goal

pub returns-then-ta-b : goal.returns-then-ta-b
returns-then-ta-b c =
    let a = c.args in
    let u = c.requires.0 in
    c.rising.ensures ∙ sym (first_branch a.s a.a a.b a.t (100_000_000 / a.s) c.requires.1.b_positive (parts_positive a.s u) u.divides c.if-ta-b.true)

pub returns-then-ta-b-2 : goal.returns-then-ta-b-2
returns-then-ta-b-2 c =
    let a = c.args in
    let u = c.requires.0 in
    c.up.ensures ∙ sym (second_branch a.s a.a a.b a.t (100_000_000 / a.s) c.requires.1.b_positive (parts_positive a.s u) u.divides c.if-ta-b.false c.if-ta-b-2.true)

pub returns-then-ta-b-3 : goal.returns-then-ta-b-3
returns-then-ta-b-3 c =
    let a = c.args in
    let u = c.requires.0 in
    -- T·A is above 1000·B, so T is above 0
    let t : 0 < a.t = left_positive a.t a.a (a.t * a.a) refl (omega (arith, c.if-ta-b-2.false)) in
    c.up-then-ta-b-3.ensures ∙ sym (third_branch a.s a.a a.b a.t (100_000_000 / a.s) c.requires.1.b_positive (parts_positive a.s u) u.divides c.if-ta-b-2.false c.if-ta-b-3.true t)

pub returns : goal.returns
returns c =
    let a = c.args in
    let u = c.requires.0 in
    c.up-2.ensures ∙ sym (fourth_branch a.s a.a a.b a.t (100_000_000 / a.s) c.requires.1.b_positive (parts_positive a.s u) u.divides c.if-ta-b-3.false)
