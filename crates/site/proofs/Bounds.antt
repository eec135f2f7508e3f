-- What A and B come to: 0.5 g to 1.5 g, and 0.3 g to 1.54 g. Up to the last column of Table 2 the coefficients are at most 1.2
-- and 1.8; from it on they are those of the last column.
-- Assumes nothing.
use Prim.Native.Nat.{ℕ, ◌*◌, ◌≤◌, ◌<◌}
use native.Mathlib.Nat.{mul-le-mul}
use native.Mathlib.Omega.{arith}
use lib.Dec.{T}
use Rattle.whole.proofs.Choice.{by_leb}
use Rattle.whole.proofs.Table.{valued, last_of, table_within, beyond_most}
use Rattle.limits.specs.declared.class.Class.{Class}
use Rattle.limits.specs.declared.class.Class.TheVariants.{Hard, Normal, Soft}
use Rattle.site.specs.Coefficients.{factored, fa, fv, acceleration_a, acceleration_b}
use Rattle.site.specs.Table2.{columns_a, columns_v}
use Rattle.site.proofs.Whole.{a_fits, v_fits}

a_valued : (c : Class) → T (valued 10000 12000 (columns_a c))
unfolding valued
a_valued Hard = tt
a_valued Normal = tt
a_valued Soft = tt

v_valued : (c : Class) → T (valued 10000 18000 (columns_v c))
unfolding valued
v_valued Hard = tt
v_valued Normal = tt
v_valued Soft = tt

fa_beyond : (c : Class) (S : ℕ) → 9000 < S → fa c S ≤ 10000
unfolding last_of
fa_beyond Hard S h = beyond_most _ _ S 10000 (a_fits Hard) h (omega arith)
fa_beyond Normal S h = beyond_most _ _ S 10000 (a_fits Normal) h (omega arith)
fa_beyond Soft S h = beyond_most _ _ S 10000 (a_fits Soft) h (omega arith)

fv_beyond : (c : Class) (S : ℕ) → 5000 < S → fv c S ≤ 14000
unfolding last_of
fv_beyond Hard S h = beyond_most _ _ S 14000 (v_fits Hard) h (omega arith)
fv_beyond Normal S h = beyond_most _ _ S 14000 (v_fits Normal) h (omega arith)
fv_beyond Soft S h = beyond_most _ _ S 14000 (v_fits Soft) h (omega arith)

pub a_bounds : (c : Class) (S : ℕ) → 5000 ≤ S → S ≤ 15000 → (50_000_000 ≤ acceleration_a c S) × (acceleration_a c S ≤ 150_000_000)
a_bounds c S lo hi =
    let k = table_within 10000 12000 (columns_a c) S (a_valued c) in (
      mul-le-mul k.0 lo,
      by_leb (λ (n : ℕ). acceleration_a c S ≤ 150_000_000) S 9000 0 0
          (λ near. let n : fa c S * S ≤ 12000 * 9000 = mul-le-mul k.1 near in omega arith)
          (λ far. mul-le-mul (fa_beyond c S far) hi),
    )

pub b_bounds : (c : Class) (S : ℕ) → 3000 ≤ S → S ≤ 11000 → (30_000_000 ≤ acceleration_b c S) × (acceleration_b c S ≤ 154_000_000)
b_bounds c S lo hi =
    let k = table_within 10000 18000 (columns_v c) S (v_valued c) in (
      mul-le-mul k.0 lo,
      by_leb (λ (n : ℕ). acceleration_b c S ≤ 154_000_000) S 5000 0 0
          (λ near. let n : fv c S * S ≤ 18000 * 5000 = mul-le-mul k.1 near in omega arith)
          (λ far. mul-le-mul (fv_beyond c S far) hi),
    )

-- a mapped value times its factor
pub s_s_bounds : (m n : ℕ) → 50 ≤ m → m ≤ 100 → 100 ≤ n → n ≤ 150 → (5000 ≤ factored m n) × (factored m n ≤ 15000)
s_s_bounds m n a b c d = (mul-le-mul a c, mul-le-mul b d)

pub s_1_bounds : (m n : ℕ) → 30 ≤ m → m ≤ 55 → 100 ≤ n → n ≤ 200 → (3000 ≤ factored m n) × (factored m n ≤ 11000)
s_1_bounds m n a b c d = (mul-le-mul a c, mul-le-mul b d)
