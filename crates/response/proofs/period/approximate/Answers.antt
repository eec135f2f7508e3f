-- `response::period::approximate` meets its contract. Assumes nothing.
use mathlib.Core.Path.{◌≡◌, ap, ap₂, subst, ◌∙◌}
use Prim.Native.Nat.{ℕ, ◌*◌, ◌^◌, ◌≤◌}
use native.Mathlib.Nat.{pow-le-pow_left}
use native.Mathlib.Omega.{arith}
use Rattle.response.specs.Period.{coefficient}
use Rattle.response.proofs.Periods.{radicand_most, approximate_is}
use Rattle.whole.proofs.Extreme.{largest_unique}
use Rattle.whole.specs.Extreme.{Largest}
use Rattle.response.proofs.period.approximate.Goals as goal

-- the product of the two powers, as they were worked out
product : (p q k h : ℕ) → (n : ℕ) → p ≡ n ^ 4 → n ≡ k → q ≡ h ^ 3 → p * q ≡ k ^ 4 * h ^ 3
product p q k h n ep en eq = ap₂ (λ (x y : ℕ). x * y) (ep ∙ ap (λ (x : ℕ). x ^ 4) en) eq

pub power-requires-2 : goal.power-requires-2
power-requires-2 c = (c.requires.0, omega (arith, pow-le-pow_left c.requires.1 3))

pub overflow_mul-power : goal.overflow_mul-power
overflow_mul-power c =
    let a = c.args in
    omega (
      arith,
      product c.power.result c.power-2.result (coefficient a.kind) a.h _ c.power.ensures c.coefficient.ensures c.power-2.ensures,
      radicand_most a.kind a.h c.requires.1,
    )

pub largest-requires : goal.largest-requires
largest-requires c =
    let a = c.args in
    omega (
      arith,
      product c.power.result c.power-2.result (coefficient a.kind) a.h _ c.power.ensures c.coefficient.ensures c.power-2.ensures,
      radicand_most a.kind a.h c.requires.1,
    )

pub returns : goal.returns
returns c =
    let a = c.args in
    let e = product c.power.result c.power-2.result (coefficient a.kind) a.h _ c.power.ensures c.coefficient.ensures c.power-2.ensures in
    largest_unique (subst (λ (n : ℕ). Largest (λ (t : ℕ). 1000 * t ^ 4 ≤ n) c.largest.result) e c.largest.ensures)
    (approximate_is a.kind a.h c.requires.1)
