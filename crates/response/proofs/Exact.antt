-- The exact factor is the mean of 1, the root and the capacity, of no sign; how the exact stages move with the root, and the mean with the capacity.
-- Assumes nothing.
use mathlib.Core.Path.{◌≡◌}
use Prim.Native.Nat.{ℕ, ◌*◌, ◌≤◌, ◌<◌}
use native.Mathlib.Nat.{mul-le-mul_left, mul-le-mul_right, le_of_mul-le-mul_right}
use native.Mathlib.Omega.{arith}
use lib.IntN.{pos}
use Rattle.whole.specs.declared.Fraction.{Fraction}
use Rattle.whole.specs.Fraction.{Same, AtMost, times}
use Rattle.whole.specs.Signed.{natural}
use Rattle.whole.proofs.Order.{at_most_trans, same_at_most}
use Rattle.whole.proofs.SignedSame.{unsigned_same, stands_natural}
use Rattle.site.specs.declared.lines.Lines.{Lines}
use Rattle.response.specs.Factor.{factor, exact_factor}
use Rattle.response.specs.Ratio.{bent, exact_ratio, exact_modified, exact_blended}
use Rattle.response.specs.Reach.{Meeting}
use Rattle.response.proofs.Bent.{bent_rises, bent_scale}
use Rattle.response.proofs.Branches.{factor_positive, mean_positive}
use Rattle.response.proofs.Mean.{Weights, total, mean, weights, factor_stands}
use Rattle.response.proofs.Most.{mean_least}

-- a larger root makes a larger mean (a sum that stands in both divisors is one variable: `omega` does not multiply it out)
pub mean_rises : (w : Weights) (r r' c : Fraction) → AtMost r r' → AtMost (mean w r c) (mean w r' c)
mean_rises w r r' c h =
    shared _ _ (total w) r.den r'.den c.den (omega (arith, mul-le-mul_right (w.root * c.den) h))
  where
    shared : (n n' t p p' d : ℕ) → n * p' ≤ n' * p → n * (t * (p' * d)) ≤ n' * (t * (p * d))
    shared n n' t p p' d k = omega (arith, mul-le-mul_right (t * d) k)

-- and so does a larger capacity
pub mean_rises_with_capacity : (w : Weights) (r c c' : Fraction) → AtMost c c' → AtMost (mean w r c) (mean w r c')
mean_rises_with_capacity w r c c' h =
    shared _ _ (total w) r.den c.den c'.den (omega (arith, mul-le-mul_right (w.cap * r.den) h))
  where
    shared : (n n' t p d d' : ℕ) → n * d' ≤ n' * d → n * (t * (p * d')) ≤ n' * (t * (p * d))
    shared n n' t p d d' k = omega (arith, mul-le-mul_right (t * p) k)

module _ (A B T : ℕ) (c : Fraction) (pa : 0 < A) (pb : 0 < B) (pc : 0 < c.den) where
  module _ (r : Fraction) (pr : 0 < r.den) where
    pub exact_factor_positive : 0 < (exact_factor A B T c r).den
    exact_factor_positive = factor_positive A B T r c pa pb pr pc

    pub exact_factor_is : Same (exact_factor A B T c r) (mean (weights A B T) r c)
    exact_factor_is =
        unsigned_same (factor A B T c r) (mean (weights A B T) r c) exact_factor_positive (mean_positive A B T r c pb pr pc)
        (factor_stands A B T r c)

    -- the sign that `exact_factor` leaves out is never a minus
    pub factor_natural : (factor A B T c r).num ≡ pos (natural (factor A B T c r).num)
    factor_natural =
        stands_natural (factor A B T c r) (mean (weights A B T) r c) exact_factor_positive (mean_positive A B T r c pb pr pc)
        (factor_stands A B T r c)

    pub exact_factor_least : r.den ≤ r.num → c.den ≤ c.num → (exact_factor A B T c r).den ≤ (exact_factor A B T c r).num
    exact_factor_least h k =
        let m = mean (weights A B T) r c in
        let x = exact_factor A B T c r in
        le_of_mul-le-mul_right {k = m.den}
        (omega (arith, exact_factor_is, mul-le-mul_left x.den (mean_least (weights A B T) r c h k)))
        (mean_positive A B T r c pb pr pc)

  pub exact_factor_rises : (r r' : Fraction) → 0 < r.den → 0 < r'.den → AtMost r r'
      → AtMost (exact_factor A B T c r) (exact_factor A B T c r')
  exact_factor_rises r r' pr pr' h =
      let x = exact_factor A B T c r in
      let x' = exact_factor A B T c r' in
      let m = mean (weights A B T) r c in
      let m' = mean (weights A B T) r' c in
      at_most_trans x m x' (mean_positive A B T r c pb pr pc) (same_at_most x m (exact_factor_is r pr)).0
      (at_most_trans m m' x' (mean_positive A B T r' c pb pr' pc) (mean_rises (weights A B T) r r' c h)
      (same_at_most x' m' (exact_factor_is r' pr')).1)

-- ---- m and p
-- p is the factor times m of the spectrum over the factor
pub blended_is_modified : (l : Lines) (Sa F : Fraction) → Same (exact_blended l Sa F) (times F (exact_modified l (exact_ratio Sa F)))
blended_is_modified l Sa F = omega arith

module _ (l : Lines) (m : Meeting l) where
  pub exact_modified_rises : (q q' : Fraction) → AtMost q q' → AtMost (exact_modified l q) (exact_modified l q')
  exact_modified_rises q q' h =
      let c : bent l (q'.den * q.num) (q'.den * q.den) ≤ bent l (q.den * q'.num) (q.den * q'.den) =
      bent_rises l m _ _ _ _ (omega arith) (omega arith) in
      omega (arith, c, bent_scale l m q'.den q.num q.den, bent_scale l m q.den q'.num q'.den)

  pub exact_blended_rises : (Sa F F' : Fraction) → AtMost F F' → AtMost (exact_blended l Sa F) (exact_blended l Sa F')
  exact_blended_rises Sa F F' h =
      let b = bent l (Sa.num * F.den) (Sa.den * F.num) in
      let b' = bent l (Sa.num * F'.den) (Sa.den * F'.num) in
      let c : bent l (F'.den * (Sa.num * F.den)) (F'.den * (Sa.den * F.num))
      ≤ bent l (F.den * (Sa.num * F'.den)) (F.den * (Sa.den * F'.num)) =
      bent_rises l m _ _ _ _ (omega arith) (omega (arith, mul-le-mul_right Sa.den h)) in
      let g : F'.den * b ≤ F.den * b' =
      omega (
        arith,
        c,
        bent_scale l m F'.den (Sa.num * F.den) (Sa.den * F.num),
        bent_scale l m F.den (Sa.num * F'.den) (Sa.den * F'.num),
      ) in
      omega (arith, mul-le-mul_right (1000 * Sa.den) g)
