-- `job::figures::total_weight` meets its contract: what the chain adds up is the sum of the weights. Assumes nothing.
use mathlib.Core.Path.{◌≡◌, refl, ap, ◌∙◌}
use mathlib.Core.List.{List, [], ◌∷◌}
use Prim.Native.Nat.{ℕ, ◌+◌}
use native.Mathlib.Omega.{arith}
use Rattle.std.specs.List.{sum_by}
use Rattle.std.proofs.lemmas.Iterator.{YieldsList-from_slice}
use Rattle.std.proofs.lemmas.Iterator.Consumers.{sum_from_yields_List, fits_from_yields_list}
use Rattle.std.proofs.lemmas.List.Sums.{sum_by-cons}
use Rattle.whole.specs.Cells.{sum}
use Rattle.job.proofs.figures.total_weight.Goals as goal

same : (ws : List ℕ) → sum_by (λ w. w) ws ≡ sum ws
unfolding sum
same [] = refl
same (w ∷ ws) = sum_by-cons (λ w. w) w ws ∙ ap (λ (n : ℕ). w + n) (same ws)

pub sum-requires-clause-fits : goal.sum-requires-clause-fits
sum-requires-clause-fits c =
    let ws = c.args.weights.now in
    fits_from_yields_list c.iter.result _ (YieldsList-from_slice ws cc) (omega (arith, c.requires, same ws))

pub returns : goal.returns
returns c =
    let ws = c.args.weights.now in
    sum_from_yields_List c.iter.result c.sum.result c.sum.ensures.ran (YieldsList-from_slice ws cc) ∙ same ws
