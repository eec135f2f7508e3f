-- `district_call::district` meets its contract. Assumes nothing.
use Rattle.limits.proofs.Exit.{handed_on}
use Rattle.district_call.proofs.Districts.{refused_answers}
use Rattle.district_call.proofs.district.Goals as goal

pub returns-in_err-judged : goal.returns-in_err-judged
returns-in_err-judged c =
    let a = c.args in
    refused_answers a.jobs.now a.weights.now a.heights.now a.rows.now _ _ (handed_on _ _ c.from_residual.ensures.1) c.in_err-judged.ensures
