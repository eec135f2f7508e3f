-- `storeys::overturning::fill_overturnings` meets its contract: cell after cell, and the rest untouched. Assumes nothing.
use mathlib.Core.Path.{ap, ◌∙◌}
use Prim.Native.Nat.{ℕ, ◌-◌, ◌≤◌, ◌<◌}
use native.Mathlib.Omega.{arith}
use lib.ListN.{length, drop, get_or, length-drop}
use Rattle.storeys.specs.declared.overturning.Borne.{Borne}
use Rattle.storeys.proofs.Bearing.{borne_none, borne_above}
use Rattle.storeys.proofs.Turning.{bottom_lowest, turning_from}
use Rattle.storeys.specs.Storeys.{borne}
use Rattle.whole.proofs.Cells.{part_tail, sinking_none, sinking_more, sinking_all}
use Rattle.storeys.proofs.overturning.fill_overturnings.Goals as goal

pub loop-x-init : goal.loop-x-init
loop-x-init c =
    let a = c.args in
    record { above = borne_none _ a.forces.now a.heights.now c.default-all.result c.default-all.ensures; written = sinking_none _ _ _ }

pub with_lowest-all-requires : goal.with_lowest-all-requires
with_lowest-all-requires c =
    let fs = c.args.forces.now in
    let hs = c.args.heights.now in
    let l = c.loop-x in
    let t = c.requires.0 in
    let at = l.x - 1 in
    let within : at < length hs = omega (arith, t.same) in
    let left : 0 < length (drop at fs) = omega (arith, length-drop {A = ℕ}) in
    let low : c.bottom-b.result ≤ get_or (drop at hs) 0 0 = omega (arith, c.bottom-b.ensures, bottom_lowest fs hs at t within) in
    simp part_tail (record { turning = (turning_from fs hs at t, left, low); above_value = l.invariant.above ∙ borne_above fs hs l.x c.loop-x-test.true })

pub loop-x-preserved : goal.loop-x-preserved
loop-x-preserved c =
    let fs = c.args.forces.now in
    let hs = c.args.heights.now in
    let l = c.loop-x in
    let at = l.x - 1 in
    let turned = simp part_tail at c.with_lowest-all.ensures ∙ ap (λ (z : ℕ). borne z (drop at fs) (drop at hs)) c.bottom-b.ensures in
    record {
      above = turned;
      written = sinking_more at c.with_lowest-all.result.moment l.invariant.written (omega arith) l.auto.x c.requires.1 (ap (λ (r : Borne). r.moment) turned);
    }

pub returns : goal.returns
returns c = sinking_all c.loop-x.invariant.written (omega arith) c.requires.1
