-- The printed q, m and p beside the exact ones, in s-ths: at least them where the spectrum and the factor are on their right
-- side; q above an exact ratio z by less than 2·z + 2, m by less than six, p by less than three.
-- Assumes nothing.
use Prim.Native.Nat.{ℕ, ◌+◌, ◌*◌, ◌≤◌, ◌<◌}
use native.Mathlib.Nat.{mul-le-mul_left, mul-le-mul_right, mul-pos, mul-lt-mul_of_pos_left, mul-lt-mul_of_pos_right, le_of_mul-le-mul_right, lt_of_mul-lt-mul_right}
use native.Mathlib.Omega.{arith}
use Rattle.whole.specs.declared.Fraction.{Fraction}
use Rattle.whole.specs.Fraction.{over, AtMost}
use Rattle.whole.proofs.Rounding.{up_law}
use Rattle.site.specs.declared.lines.Lines.{Lines}
use Rattle.response.specs.Ratio.{bent, ratio, modified, blended, exact_ratio, exact_modified, exact_blended}
use Rattle.response.specs.Reach.{Meeting}
use Rattle.response.proofs.Bent.{bent_rises, bent_near, bent_near_factor, bent_spread, bent_scale}
use Rattle.margin.proofs.Offsets.{Over, Short}

-- ---- q
module _ (s S f : ℕ) (x y : Fraction) where
  pub ratio_above : 0 < s → 0 < f → AtMost x (over S s) → AtMost (over f s) y → AtMost (exact_ratio x y) (over (ratio s S f) s)
  unfolding ratio
  ratio_above p pf hx hy =
      le_of_mul-le-mul_right {k = s}
      (omega (
        arith,
        mul-le-mul_right (s * y.den) hx,
        mul-le-mul_right (ratio s S f * x.den) hy,
        mul-le-mul_right (x.den * y.den) (up_law (s * S) f pf).0,
      ))
      p

  -- with z the exact ratio: 2·z by the factor, one by the spectrum, one by the quotient
  pub ratio_over : 0 < x.den → 0 < y.den → 0 < f → s ≤ f → y.den ≤ y.num → Over s S x 1 → Short s f y 2
      → ratio s S f * (exact_ratio x y).den < s * (exact_ratio x y).num + 2 * ((exact_ratio x y).num + (exact_ratio x y).den)
  unfolding ratio
  ratio_over px py pf hf hy bx by =
      let pn : 0 < y.num = omega arith in
      let bx' : S * x.den ≤ s * x.num + 1 * x.den = omega arith in
      let by' : s * y.num ≤ (f + 2) * y.den = omega arith in
      lt_of_mul-lt-mul_right f
      (omega (
        arith,
        mul-lt-mul_of_pos_right (up_law (s * S) f pf).1 (mul-pos px pn),
        mul-le-mul_right (s * y.num) bx',
        mul-le-mul_right (s * x.num) by',
        mul-le-mul_right (2 * x.num * y.den) hf,
        mul-le-mul_right (x.den * y.num) hf,
      ))

module _ (l : Lines) (m : Meeting l) (s : ℕ) where
  -- ---- m
  pub modified_above : (q : ℕ) (z : Fraction) → AtMost z (over q s) → AtMost (exact_modified l z) (over (modified s l q) s)
  unfolding modified
  modified_above q z h =
      let c : bent l (s * z.num) (s * z.den) ≤ bent l (z.den * q) (z.den * s) =
      bent_rises l m _ _ _ _ (omega arith) (omega arith) in
      omega (
        arith,
        c,
        bent_scale l m s z.num z.den,
        bent_scale l m z.den q s,
        mul-le-mul_left z.den (up_law (bent l q s) 1000 (omega arith)).0,
      )

  pub modified_over : (q : ℕ) (z : Fraction) → 0 < z.den → z.num ≤ 2 * z.den
      → q * z.den < s * z.num + 2 * (z.num + z.den)
      → Over s (modified s l q) (exact_modified l z) 6
  unfolding modified
  modified_over q z p most h =
      let c : bent l (z.den * q) (z.den * s) ≤ bent l (s * z.num + 2 * (z.num + z.den)) (s * z.den) =
      bent_rises l m _ _ _ _ (omega arith) (omega arith) in
      omega (
        arith,
        c,
        bent_spread l m s z.num z.den most,
        bent_scale l m s z.num z.den,
        bent_scale l m z.den q s,
        mul-lt-mul_of_pos_left (up_law (bent l q s) 1000 (omega arith)).1 p,
      )

  -- ---- p
  pub blended_above : (S f : ℕ) (x y : Fraction) → AtMost x (over S s) → AtMost y (over f s)
      → AtMost (exact_blended l x y) (over (blended l S f) s)
  unfolding blended
  blended_above S f x y hx hy =
      let d = x.den * y.den in
      let c : bent l (s * (x.num * y.den)) (s * (x.den * y.num)) ≤ bent l (d * S) (d * f) =
      bent_rises l m _ _ _ _
      (omega (arith, mul-le-mul_right y.den hx))
      (omega (arith, mul-le-mul_right x.den hy)) in
      omega (
        arith,
        c,
        bent_scale l m s (x.num * y.den) (x.den * y.num),
        bent_scale l m d S f,
        mul-le-mul_left d (up_law (bent l S f) 1000 (omega arith)).0,
      )

  pub blended_over : (S f : ℕ) (x y : Fraction) → 0 < x.den → 0 < y.den → Over s S x 1 → Over s f y 2
      → Over s (blended l S f) (exact_blended l x y) 3
  unfolding blended
  blended_over S f x y px py hx hy =
      let d = x.den * y.den in
      let X = s * (x.num * y.den) in
      let Y = s * (x.den * y.num) in
      let hx' : S * x.den ≤ s * x.num + 1 * x.den = omega arith in
      let hy' : f * y.den ≤ s * y.num + 2 * y.den = omega arith in
      let c : bent l (d * S) (d * f) ≤ bent l (X + d) (Y + 2 * d) =
      bent_rises l m _ _ _ _
      (omega (arith, mul-le-mul_right y.den hx'))
      (omega (arith, mul-le-mul_right x.den hy')) in
      omega (
        arith,
        c,
        bent_near l m X (Y + 2 * d) d,
        bent_near_factor l m X Y (2 * d),
        bent_scale l m s (x.num * y.den) (x.den * y.num),
        bent_scale l m d S f,
        mul-lt-mul_of_pos_left (up_law (bent l S f) 1000 (omega arith)).1 (mul-pos px py),
      )
