-- `storeys::weight_height::weight_height` meets its contract: what the chain adds up is the sum level by level, and no product is above it.
-- Assumes nothing.
use mathlib.Core.Path.{◌≡◌, refl, ap, ◌∙◌}
use mathlib.Core.List.{List, [], ◌∷◌}
use Prim.Native.Nat.{ℕ, ◌+◌, ◌*◌, ◌≤◌, ◌<◌}
use native.Mathlib.Omega.{arith}
use lib.ListN.{length, get_or}
use Rattle.std.specs.List.{sum_by, zip}
use Rattle.std.proofs.Common.{rules, tests}
use Rattle.std.proofs.lemmas.Iterator.{YieldsList-from_slice, YieldsList-from_zip, YieldsList-from_map}
use Rattle.std.proofs.lemmas.Iterator.Adapters.{serves_from_places}
use Rattle.std.proofs.lemmas.Iterator.Consumers.{YieldsList-at, sum_by_from_yields_List, fits_by_from_yields_list}
use Rattle.std.proofs.lemmas.List.Sums.{sum_by-cons, get_or-le-sum_by}
use Rattle.storeys.specs.Storeys.{weight_height}
use Rattle.storeys.proofs.weight_height.weight_height.Goals as goal

abbrev product : ℕ × ℕ → ℕ
product p = p.0 * p.1

added : (ws hs : List ℕ) → sum_by product (zip ws hs) ≡ weight_height ws hs
unfolding weight_height
added [] hs = refl
added (w ∷ ws) [] = refl
added (w ∷ ws) (h ∷ hs) = sum_by-cons product (w, h) (zip ws hs) ∙ ap (λ (n : ℕ). w * h + n) (added ws hs)

product_most : (ws hs : List ℕ) (k : ℕ) (p : ℕ × ℕ) → k < length (zip ws hs) → p ≡ get_or (zip ws hs) k p → product p ≤ weight_height ws hs
product_most ws hs k p l e =
    omega (arith, ap product e, get_or-le-sum_by product (zip ws hs) k p l, added ws hs)

pub sum-requires-clause-can : goal.sum-requires-clause-can
sum-requires-clause-can c =
    let ws = c.args.weights.now in
    let hs = c.args.heights.now in (
      (tt, tt),
      serves_from_places (YieldsList-from_zip (YieldsList-from_slice ws cc) (YieldsList-from_slice hs cc)) (λ x q k. search rules)
          (λ x k l e _ _ _ _ _ _ _. omega (arith, product_most ws hs k (x.0.now, x.1.now) l e)),
    )

pub sum-requires-clause-fits : goal.sum-requires-clause-fits
sum-requires-clause-fits c =
    let ws = c.args.weights.now in
    let hs = c.args.heights.now in
    fits_by_from_yields_list product (zip ws hs) c.map.result _ (YieldsList-from_map _ product (YieldsList-at c.map.ensures.source (YieldsList-from_zip (YieldsList-from_slice ws cc) (YieldsList-from_slice hs cc))) c.map.ensures.closure (λ x r q k. search (rules, tests))) (omega (arith, added ws hs))

pub returns : goal.returns
returns c =
    let ws = c.args.weights.now in
    let hs = c.args.heights.now in
    sum_by_from_yields_List product (zip ws hs) c.map.result c.sum.result c.sum.ensures.ran (YieldsList-from_map _ product (YieldsList-at c.map.ensures.source (YieldsList-from_zip (YieldsList-from_slice ws cc) (YieldsList-from_slice hs cc))) c.map.ensures.closure (λ x r q k. search (rules, tests))) ∙ added ws hs
