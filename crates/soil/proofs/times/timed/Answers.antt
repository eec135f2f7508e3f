-- `soil::times::timed` meets its contract. Assumes nothing.
use borrow.Author.Rules.{rules}
use Rattle.std.proofs.lemmas.Grind.{common_steps}
use mathlib.Core.Logic.{⊎_elim}
use mathlib.Core.Path.{sym}
use native.Mathlib.Omega.{arith}
use Rattle.soil.proofs.Adding.{timing_starts, timing_ends, timing_refused, timing_fits, timing_next}
use Rattle.soil.proofs.times.timed.Goals as goal

pub loop-i-init : goal.loop-i-init
loop-i-init c =
    let a = c.args in
    (search rules, search rules, simp (c.into_iter-i-iterator.ensures.into_iter_gives, c.zip-i-items.ensures.first, c.zip-i-items.ensures.second.0, c.zip.ensures.first, c.zip.ensures.second.0, c.enumerate.ensures.source, c.enumerate.ensures.count, c.iter.ensures.rest) (timing_starts a.thicknesses.now a.kinds.now a.values.now c.requires))

pub returns-in_err-v : goal.returns-in_err-v
returns-in_err-v c =
    let h = c.in-Some.ensures.steps in
    let t = timing_refused c.loop-i.invariant.2 h.0.0.0 h.0.1 h.1 h.0.0.1 c.in_err-v.ensures in
    grind (arith, common_steps, t)

pub overflow_mul-ns : goal.overflow_mul-ns
overflow_mul-ns c =
    let h = c.in-Some.ensures.steps in
    let f = timing_fits c.loop-i.invariant.2 h.0.0.0 h.0.1 h.1 h.0.0.1 c.in_ok-v.ensures in
    omega arith

pub up-up-requires : goal.up-up-requires
up-up-requires c =
    let h = c.in-Some.ensures.steps in
    (timing_fits c.loop-i.invariant.2 h.0.0.0 h.0.1 h.1 h.0.0.1 c.in_ok-v.ensures).0

pub overflow_add-up : goal.overflow_add-up
overflow_add-up c =
    let h = c.in-Some.ensures.steps in
    let f = timing_fits c.loop-i.invariant.2 h.0.0.0 h.0.1 h.1 h.0.0.1 c.in_ok-v.ensures in
    omega arith

pub down-down-requires : goal.down-down-requires
down-down-requires c =
    let h = c.in-Some.ensures.steps in
    (timing_fits c.loop-i.invariant.2 h.0.0.0 h.0.1 h.1 h.0.0.1 c.in_ok-v.ensures).0

pub overflow_add-down : goal.overflow_add-down
overflow_add-down c =
    let h = c.in-Some.ensures.steps in
    let f = timing_fits c.loop-i.invariant.2 h.0.0.0 h.0.1 h.1 h.0.0.1 c.in_ok-v.ensures in
    omega arith

pub loop-i-preserved : goal.loop-i-preserved
loop-i-preserved c =
    let h = c.in-Some.ensures.steps in
    (search rules, search rules, rw (c.up-up.ensures, c.down-down.ensures, h.0.0.2) (timing_next c.loop-i.invariant.2 h.0.0.0 h.0.1 h.1 h.0.0.1 c.in_ok-v.ensures))

pub returns : goal.returns
returns c =
    let t = c.loop-i.invariant.2 in
    let k = t.kinds in
    let x = t.values in
    sym (timing_ends t (⊎_elim (λ w. ⊎_elim (λ v. v.1.0.0) (λ v. omega arith) w.1) (λ w. omega arith) c.in-None.ensures.steps))
