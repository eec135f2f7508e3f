-- The approximate period is the largest whole t with 1000·t⁴ ≤ c⁴·h³; the period in use is 1 ms to `period_most`.
-- Assumes nothing.
use mathlib.Core.Path.{◌≡◌, refl}
use Prim.Native.Nat.{ℕ, zero, suc, ◌*◌, ◌/◌, ◌^◌, ◌≤◌, min}
use native.Mathlib.Nat.{mul-le-mul, pow-le-pow_left, lt_of_le_of_lt, le_trans, le_of_suc-le-suc}
use native.Mathlib.Omega.{arith}
use lib.Dec.{eqb, lit<, lit≤}
use borrow.Author.Tests.{eqb-false}
use Rattle.whole.specs.Extreme.{Largest}
use Rattle.whole.specs.Rounding.{down}
use Rattle.whole.proofs.Choice.{by_test}
use Rattle.whole.proofs.Extreme.{largest_below}
use Rattle.whole.proofs.Root.{powers_rise}
use Rattle.whole.proofs.Search.{largest_is}
use Rattle.limits.specs.declared.kind.Kind.{Kind}
use Rattle.limits.specs.declared.kind.Kind.TheVariants.{Steel, Concrete, Braced, Other}
use Rattle.response.specs.Period.{coefficient, approximate, in_use, period_of, period_most}

pub coefficient_most : (k : Kind) → coefficient k ≤ 85
coefficient_most Steel = omega arith
coefficient_most Concrete = omega arith
coefficient_most Braced = omega arith
coefficient_most Other = omega arith

pub coefficient_least : (k : Kind) → 50 ≤ coefficient k
coefficient_least Steel = omega arith
coefficient_least Concrete = omega arith
coefficient_least Braced = omega arith
coefficient_least Other = omega arith

-- h to 2,000 dm
pub radicand_most : (k : Kind) (h : ℕ) → h ≤ 2000 → coefficient k ^ 4 * h ^ 3 ≤ 417_605_000_000_000_000
radicand_most k h l = mul-le-mul (pow-le-pow_left (coefficient_most k) 4) (pow-le-pow_left l 3)

pub approximate_is : (k : Kind) (h : ℕ) → h ≤ 2000
    → Largest (λ (t : ℕ). 1000 * t ^ 4 ≤ coefficient k ^ 4 * h ^ 3) (approximate k h)
unfolding approximate
approximate_is k h l =
    largest_is (λ t. 1000 * t ^ 4) (powers_rise 1000 4) (coefficient k ^ 4 * h ^ 3) (omega arith)
    (lt_of_le_of_lt (radicand_most k h l) (lit< tt))

-- the shortest is that of kind 4 at 1 dm, the longest that of kind 1 at 2,000 dm
pub approximate_bounds : (k : Kind) (h : ℕ) → 1 ≤ h → h ≤ 2000 → (8 ≤ approximate k h) × (approximate k h ≤ 4520)
approximate_bounds k h lo hi =
    let l = approximate_is k h hi in
    let shortest : 1000 * 8 ^ 4 ≤ 50 ^ 4 * 1 ^ 3 = lit≤ tt in
    let least : 1000 * 8 ^ 4 ≤ coefficient k ^ 4 * h ^ 3 =
    le_trans shortest (mul-le-mul (pow-le-pow_left (coefficient_least k) 4) (pow-le-pow_left lo 3)) in (
      l.largest 8 least,
      le_of_suc-le-suc (largest_below (λ t. 1000 * t ^ 4) (powers_rise 1000 4) (coefficient k ^ 4 * h ^ 3) (approximate k h) 4521
          (lt_of_le_of_lt (radicand_most k h hi) (lit< tt)) l),
    )

-- so T is at least 1 ms, where a calculated period is none or at least 1, and at most 1.4 times the longest
in_use_bounds : (calculated t : ℕ) → 8 ≤ t → t ≤ 4520 → (1 ≤ in_use calculated t) × (in_use calculated t ≤ period_most)
unfolding in_use down
in_use_bounds calculated t lo hi =
    by_test (λ (T : ℕ). (1 ≤ T) × (T ≤ period_most)) (eqb calculated 0) t (min calculated (14 * t / 10))
    (λ _. (omega arith, omega arith))
    (λ e.
    let ne : calculated ≡ 0 → ⊥ = eqb-false calculated 0 e in
    let some : 1 ≤ calculated = positive calculated ne in
    (omega arith, omega arith))
  where
    positive : (n : ℕ) → (n ≡ 0 → ⊥) → 1 ≤ n
    positive zero h = absurd (h refl)
    positive (suc n) h = omega arith

pub period_bounds : (k : Kind) (calculated h : ℕ) → 1 ≤ h → h ≤ 2000
    → (1 ≤ period_of k calculated h) × (period_of k calculated h ≤ period_most)
period_bounds k calculated h lo hi =
    let b = approximate_bounds k h lo hi in
    in_use_bounds calculated (approximate k h) b.0 b.1
