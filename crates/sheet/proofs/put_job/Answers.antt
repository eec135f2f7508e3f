-- `sheet::put_job` meets its contract. Assumes nothing.
use mathlib.Core.Path.{sym}
use native.Mathlib.Omega.{arith}
use Rattle.sheet.proofs.JobAnswered.{refused_outcome, job_taken}
use Rattle.sheet.proofs.Listings.{puts_results, puts_as}
use Rattle.sheet.proofs.put_job.Goals as goal

pub returns-in-Err : goal.returns-in-Err
returns-in-Err c =
    let g = c.args in
    puts_as (sym (refused_outcome g.given.ground g.given.frame g.weights.now g.heights.now _ _ c.job-answer.ensures _ c.in-Err.is)) c.put_refused.ensures

pub slice_bounds-forces-end : goal.slice_bounds-forces-end
slice_bounds-forces-end c =
    let g = c.args in
    omega (arith, (job_taken g.given.ground g.given.frame g.weights.now g.heights.now _ _ c.job-answer.ensures _ c.in-Ok.is).few)

pub slice_bounds-put_results-end : goal.slice_bounds-put_results-end
slice_bounds-put_results-end c =
    let g = c.args in
    sym (job_taken g.given.ground g.given.frame g.weights.now g.heights.now _ _ c.job-answer.ensures _ c.in-Ok.is).forces

pub slice_bounds-shears-end : goal.slice_bounds-shears-end
slice_bounds-shears-end c =
    let g = c.args in
    omega (arith, (job_taken g.given.ground g.given.frame g.weights.now g.heights.now _ _ c.job-answer.ensures _ c.in-Ok.is).few)

pub slice_bounds-put_results-end-in-Ok : goal.slice_bounds-put_results-end-in-Ok
slice_bounds-put_results-end-in-Ok c =
    let g = c.args in
    sym (job_taken g.given.ground g.given.frame g.weights.now g.heights.now _ _ c.job-answer.ensures _ c.in-Ok.is).shears

pub slice_bounds-overturnings-end : goal.slice_bounds-overturnings-end
slice_bounds-overturnings-end c =
    let g = c.args in
    omega (arith, (job_taken g.given.ground g.given.frame g.weights.now g.heights.now _ _ c.job-answer.ensures _ c.in-Ok.is).few)

pub slice_bounds-put_results-end-in-Ok-2 : goal.slice_bounds-put_results-end-in-Ok-2
slice_bounds-put_results-end-in-Ok-2 c =
    let g = c.args in
    sym (job_taken g.given.ground g.given.frame g.weights.now g.heights.now _ _ c.job-answer.ensures _ c.in-Ok.is).overturnings

pub put_results-requires : goal.put_results-requires
put_results-requires c =
    let g = c.args in
    ((job_taken g.given.ground g.given.frame g.weights.now g.heights.now _ _ c.job-answer.ensures _ c.in-Ok.is).levelled, c.requires)

pub returns-in-Ok : goal.returns-in-Ok
returns-in-Ok c =
    let g = c.args in
    puts_results _ (job_taken g.given.ground g.given.frame g.weights.now g.heights.now _ _ c.job-answer.ensures _ c.in-Ok.is).outcome c.put_results.ensures
