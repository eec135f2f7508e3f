-- `whole::roots::largest` meets its contract. The invariant: the root is at least lo and below lo + width, which is at most top. The measure is
-- width. Assumes nothing.
use mathlib.Core.Path.{◌≡◌, sym, ap, ◌∙◌, subst}
use Prim.Native.Nat.{ℕ, zero, suc, ◌+◌, ◌-◌, ◌*◌, ◌/◌, ◌^◌, ◌≤◌, ◌<◌}
use native.Mathlib.Nat.{pow-suc, mul-zero, pow-le-pow_left, le-mul_of_pos_right, mul-le-mul_left, not-suc-le-zero}
use native.Mathlib.Omega.{arith}
use Rattle.whole.proofs.Extreme.{largest_at}
use Rattle.whole.proofs.Root.{powers_rise}
use Rattle.whole.proofs.roots.largest.Invariants.{Within}
use Rattle.whole.proofs.roots.largest.Goals as goal
use Rattle.whole.proofs.roots.largest.Goals.{then-m-power, else-m-power}

zero_pow : (p : ℕ) → 0 < p → 0 ^ p ≡ 0
zero_pow zero h = absurd (not-suc-le-zero h)
zero_pow (suc q) h = pow-suc 0 q ∙ mul-zero (0 ^ q)

-- the root is in the upper part, or in the lower
module _ (m p n top lo width : ℕ) (wide : 1 < width) (inv : Within m p n top lo width) where
  upper_part : m * (lo + width / 2) ^ p ≤ n → Within m p n top (lo + width / 2) (width - width / 2)
  upper_part h =
      let e : lo + width ≡ lo + width / 2 + (width - width / 2) = omega arith in
      (omega arith, omega (arith, inv.1), h, subst (λ (z : ℕ). n < m * z ^ p) e inv.3)

  lower_part : n < m * (lo + width / 2) ^ p → Within m p n top lo (width - width / 2)
  lower_part h =
      let l : lo + width / 2 ≤ lo + (width - width / 2) = omega arith in
      (omega arith, omega (arith, inv.1), inv.2, omega (arith, h, powers_rise m p _ _ l))

-- what the power and the term of a number up to top are bounded by
module _ (m p top k : ℕ) (hm : 0 < m) (le : k ≤ top) (fits : m * top ^ p < 2 ^ 64) where
  term_fits : m * k ^ p < 2 ^ 64
  term_fits = omega (arith, mul-le-mul_left m (pow-le-pow_left le p))

  power_fits : k ^ p < 2 ^ 64
  power_fits = omega (arith, term_fits, le-mul_of_pos_right (k ^ p) hm)

pub loop-width-init : goal.loop-width-init
loop-width-init c =
    let z = zero_pow c.args.p c.requires.1 in
    let e : c.args.m * 0 ^ c.args.p ≡ 0 = rw (z, mul-zero) in
    (c.requires.2, omega arith, omega arith, subst (λ (t : ℕ). c.args.n < c.args.m * t ^ c.args.p) (omega arith) c.requires.4)

pub power-requires : goal.power-requires
power-requires c =
    let a = c.args in
    let l = c.loop-width in
    (omega (arith, c.loop-width-test.true), power_fits a.m a.p a.top (l.lo + l.width / 2) c.requires.0 (omega (arith, l.invariant.1)) c.requires.3)

pub overflow_mul-m : goal.overflow_mul-m
overflow_mul-m c =
    let a = c.args in
    let l = c.loop-width in
    omega (arith, ap (λ (x : ℕ). a.m * x) c.power.ensures, term_fits a.m a.p a.top (l.lo + l.width / 2) c.requires.0 (omega (arith, l.invariant.1)) c.requires.3)

pub loop-width-preserved : goal.loop-width-preserved
loop-width-preserved c =
    let a = c.args in
    let l = c.loop-width in
    let t = c.loop-width-test.true in
    let e = ap (λ (x : ℕ). a.m * x) c.power.ensures in
    let P : ℕ → Type 0 = λ (z : ℕ). Within a.m a.p a.n a.top z (l.width - l.width / 2) in
    elim c.if-m-power.branch [
      | then-m-power w ↦ subst P (sym w.lo-is) (upper_part a.m a.p a.n a.top l.lo l.width t l.invariant (omega (arith, e, w.if-m-power.true)))
      | else-m-power w ↦ subst P (sym w.lo-is) (lower_part a.m a.p a.n a.top l.lo l.width t l.invariant (omega (arith, e, w.if-m-power.false)))
    ]

pub returns : goal.returns
returns c =
    let a = c.args in
    let l = c.loop-width in
    let e : l.width ≡ 1 = omega (arith, l.invariant.0, c.loop-width-test.false) in
    largest_at (λ k. a.m * k ^ a.p) (powers_rise a.m a.p) a.n l.lo l.invariant.2
    (subst (λ (w : ℕ). a.n < a.m * (l.lo + w) ^ a.p) e l.invariant.3)
