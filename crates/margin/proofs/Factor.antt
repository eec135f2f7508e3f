-- The printed factors beside the exact one: the lower factor is at most it at every high fraction, the upper factor at least it
-- at every low one, and each is off by less than two s-ths at the other fractions: one by the root, one by the rounding.
-- Assumes nothing.
use mathlib.Core.Path.{◌≡◌, sym, subst}
use Prim.Native.Nat.{ℕ, ◌+◌, ◌*◌, ◌≤◌, ◌<◌}
use native.Mathlib.Nat.{mul-le-mul_right, mul-lt-mul_of_pos_right, lt_of_mul-lt-mul_left}
use native.Mathlib.Omega.{arith}
use Rattle.whole.specs.declared.Fraction.{Fraction}
use Rattle.whole.specs.Fraction.{over, AtMost, Same, up_in, down_in}
use Rattle.whole.specs.Root.{LowerRoot, UpperRoot, lower_root, upper_root}
use Rattle.whole.proofs.Order.{at_most_trans, same_at_most}
use Rattle.whole.proofs.Root.{lower_root_is, upper_root_is}
use Rattle.whole.proofs.Rounding.{up_law, down_law}
use Rattle.site.specs.declared.hazard.Hazard.{Hazard}
use Rattle.response.specs.Factor.{exact_factor}
use Rattle.response.specs.Reach.{FineUnit}
use Rattle.response.proofs.Branches.{mean_positive, lower_is_mean, upper_is_mean}
use Rattle.response.proofs.Exact.{mean_rises, exact_factor_positive, exact_factor_is, exact_factor_least}
use Rattle.response.proofs.Mean.{Weights, total, mean, weights}
use Rattle.response.proofs.Reached.{small}
use Rattle.base_shear.specs.Ready.{Ready}
use Rattle.margin.specs.Roots.{High, Low}
use Rattle.margin.proofs.Offsets.{Over, Short, over_same, short_same}
use Rattle.margin.proofs.Root.{lower_below_high, low_below_upper, low_near_lower, upper_near_high}
use Rattle.base_shear.specs.Shears.{lower_at, upper_at}

-- ---- a mean at the root k/s, rounded to f, beside the mean at the root r
module _ (s k f : ℕ) (w : Weights) (r c : Fraction) (pr : 0 < r.den) where
  mean_short : s * (mean w (over k s) c).num < (mean w (over k s) c).den * f + (mean w (over k s) c).den
      → s * r.num < (k + 1) * r.den
      → Short s f (mean w r c) 2
  mean_short h l =
      let l' : s * r.num ≤ (k + 1) * r.den = omega arith in
      let h' : w.one * (s * c.den) + w.root * (k * c.den) + w.cap * (c.num * s) < total w * c.den * f + total w * c.den =
      lt_of_mul-lt-mul_left s (omega (arith, h)) in
      omega (arith, mul-lt-mul_of_pos_right h' pr, mul-le-mul_right (w.root * c.den) l')

  mean_over : (mean w (over k s) c).den * f < s * (mean w (over k s) c).num + (mean w (over k s) c).den
      → k * r.den < s * r.num + r.den
      → Over s f (mean w r c) 2
  mean_over h l =
      let l' : k * r.den ≤ s * r.num + r.den = omega arith in
      let h' : total w * c.den * f < w.one * (s * c.den) + w.root * (k * c.den) + w.cap * (c.num * s) + total w * c.den =
      lt_of_mul-lt-mul_left s (omega (arith, h)) in
      omega (arith, mul-lt-mul_of_pos_right h' pr, mul-le-mul_right (w.root * c.den) l')

-- ---- the factors of a hazard
abbrev pub factor_at : Hazard → ℕ → Fraction → Fraction
factor_at h T r = exact_factor h.a h.b T h.capacity r

abbrev mean_at : Hazard → ℕ → Fraction → Fraction
mean_at h T r = mean (weights h.a h.b T) r h.capacity

module _ (s : ℕ) (h : Hazard) (T : ℕ) (u : FineUnit s) (y : Ready s h T) where
  positive : (r : Fraction) → 0 < r.den → 0 < (mean_at h T r).den
  positive r p = mean_positive h.a h.b T r h.capacity y.shape.b_positive p y.ductile.cap_positive

  lower_is : lower_at s h T ≡ down_in s (mean_at h T (over (lower_root s h.square) s))
  lower_is =
      lower_is_mean s h.a h.b T h.capacity h.square u.positive y.shape.a_positive y.shape.b_positive
      y.ductile.cap_positive

  upper_is : upper_at s h T ≡ up_in s (mean_at h T (over (upper_root s h.square) s))
  upper_is =
      upper_is_mean s h.a h.b T h.capacity h.square u.positive y.shape.a_positive y.shape.b_positive
      y.ductile.cap_positive

  lower_root_lem : LowerRoot s h.square (lower_root s h.square)
  lower_root_lem = lower_root_is s h.square (small s h.capacity h.square u y.ductile)

  upper_root_lem : UpperRoot s h.square (upper_root s h.square)
  upper_root_lem = upper_root_is s h.square (small s h.capacity h.square u y.ductile)

  module _ (r : Fraction) (pr : 0 < r.den) where
    pub factor_positive : 0 < (factor_at h T r).den
    factor_positive =
        exact_factor_positive h.a h.b T h.capacity y.shape.a_positive y.shape.b_positive
        y.ductile.cap_positive r pr

    factor_is : Same (factor_at h T r) (mean_at h T r)
    factor_is =
        exact_factor_is h.a h.b T h.capacity y.shape.a_positive y.shape.b_positive
        y.ductile.cap_positive r pr

    pub factor_least : AtMost (over 1 1) r → (factor_at h T r).den ≤ (factor_at h T r).num
    factor_least one =
        exact_factor_least h.a h.b T h.capacity y.shape.a_positive y.shape.b_positive
        y.ductile.cap_positive r pr (omega (arith, one)) y.ductile.cap_one

  module _ (r : Fraction) where
    pub lower_below : High h.square r → AtMost (over (lower_at s h T) s) (factor_at h T r)
    lower_below hi =
        let k = lower_root s h.square in
        let m = mean_at h T (over k s) in
        let law = down_law (s * m.num) m.den (positive (over k s) u.positive) in
        let rounded : AtMost (over (down_in s m) s) m = omega (arith, law.0) in
        let grown : AtMost m (mean_at h T r) =
        mean_rises (weights h.a h.b T) (over k s) r h.capacity
        (lower_below_high s h.square k r y.ductile.square_positive lower_root_lem hi) in
        subst (λ (f : ℕ). AtMost (over f s) (factor_at h T r)) (sym lower_is)
        (at_most_trans (over (down_in s m) s) m (factor_at h T r) (positive (over k s) u.positive) rounded
        (at_most_trans m (mean_at h T r) (factor_at h T r) (positive r hi.sound) grown
        (same_at_most (factor_at h T r) (mean_at h T r) (factor_is r hi.sound)).1))

    pub upper_above : Low h.square r → AtMost (factor_at h T r) (over (upper_at s h T) s)
    upper_above lo =
        let k = upper_root s h.square in
        let m = mean_at h T (over k s) in
        let law = up_law (s * m.num) m.den (positive (over k s) u.positive) in
        let rounded : AtMost m (over (up_in s m) s) = omega (arith, law.0) in
        let grown : AtMost (mean_at h T r) m =
        mean_rises (weights h.a h.b T) r (over k s) h.capacity
        (low_below_upper s h.square k r y.ductile.square_positive upper_root_lem lo) in
        subst (λ (f : ℕ). AtMost (factor_at h T r) (over f s)) (sym upper_is)
        (at_most_trans (factor_at h T r) m (over (up_in s m) s) (positive (over k s) u.positive)
        (at_most_trans (factor_at h T r) (mean_at h T r) m (positive r lo.sound)
        (same_at_most (factor_at h T r) (mean_at h T r) (factor_is r lo.sound)).0 grown)
        rounded)

    pub lower_short : Low h.square r → Short s (lower_at s h T) (factor_at h T r) 2
    lower_short lo =
        let k = lower_root s h.square in
        let m = mean_at h T (over k s) in
        let f = down_in s m in
        let law = down_law (s * m.num) m.den (positive (over k s) u.positive) in
        subst (λ (f : ℕ). Short s f (factor_at h T r) 2) (sym lower_is)
        (short_same s f 2 (factor_at h T r) (mean_at h T r) (factor_positive r lo.sound) (factor_is r lo.sound)
        (mean_short s k f (weights h.a h.b T) r h.capacity lo.sound law.1
        (low_near_lower s h.square k r lower_root_lem lo)))

    pub upper_over : High h.square r → Over s (upper_at s h T) (factor_at h T r) 2
    upper_over hi =
        let k = upper_root s h.square in
        let m = mean_at h T (over k s) in
        let f = up_in s m in
        let law = up_law (s * m.num) m.den (positive (over k s) u.positive) in
        subst (λ (f : ℕ). Over s f (factor_at h T r) 2) (sym upper_is)
        (over_same s f 2 (factor_at h T r) (mean_at h T r) (factor_positive r hi.sound) (factor_is r hi.sound)
        (mean_over s k f (weights h.a h.b T) r h.capacity hi.sound law.1
        (upper_near_high s h.square k r upper_root_lem hi)))
