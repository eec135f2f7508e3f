-- What the reach of the leaves gives their proofs: where the roots lie, and which products fit.
-- Assumes nothing.
use mathlib.Core.Path.{◌≡◌, refl, sym, ap, subst}
use Prim.Native.Nat.{ℕ, ◌-◌, ◌*◌, ◌/◌, ◌^◌, ◌≤◌, ◌<◌}
use native.Mathlib.Nat.{le_trans, mul-le-mul, mul-le-mul_left, mul-le-mul_right, le_of_mul-le-mul_right, div-le_self}
use native.Mathlib.Omega.{arith}
use lib.IntN.{ℤ}
use Rattle.whole.specs.declared.Fraction.{Fraction}
use Rattle.whole.specs.Fraction.{over}
use Rattle.whole.specs.Root.{lower_root, upper_root}
use Rattle.whole.proofs.Root.{radicand, unit_most, lower_most}
use Rattle.response.specs.Reach.{FineUnit, Shape, Ductile}
use Rattle.response.specs.Side.{Rounds, Between}
use Rattle.response.specs.Unit.{unit}
use Rattle.response.proofs.Spectra.{left_positive}

pub unit_fine : FineUnit unit
unit_fine = record { positive = omega arith; most = omega arith; divides = refl }

-- ---- a unit: d of 10⁻⁸ g in one s-th
module _ (s : ℕ) (u : FineUnit s) where
  pub parts_positive : 0 < 100_000_000 / s
  parts_positive = left_positive (100_000_000 / s) s 100_000_000 u.divides (omega arith)

  pub parts_most : 100_000_000 / s ≤ 100_000_000
  parts_most = div-le_self 100_000_000 s

-- ---- a capacity n/d and a square m/e
pub ductile_of : (s n d m e : ℕ)
    → (0 < d) × (d ≤ 1000) × (d ≤ n) × (n ≤ 6 * d) × (0 < e) × (e ≤ 1000) × (e ≤ m) × (m ≤ 11 * e)
    → 3 * s / d * d ≡ 3 * s → upper_root s (over m e) * d ≤ s * n → Ductile s (over n d) (over m e)
ductile_of s n d m e h t r =
    record {
      cap_positive = h.0;
      cap_small = h.1;
      cap_one = h.2;
      cap_most = h.3;
      thirds = t;
      square_positive = h.4;
      square_small = h.5;
      square_one = h.6;
      square_most = h.7;
      root_most = r;
    }

-- ---- T·A
pub ta_most : (a b t : ℕ) → Shape a b t → t * a ≤ 101_800_000_000_000
ta_most a b t h = mul-le-mul h.t_most h.a_most

-- ---- what the code of the factor needs of a root k
pub record Rooted (s : ℕ) (c : Fraction) (k : ℕ) : Type 0 where
  pub least : s ≤ k
  pub most : k ≤ 60_000_000
  pub thirds : 3 * k ≤ 3 * s / c.den * c.num

-- ---- capacity and roots
module _ (s : ℕ) (c ρ : Fraction) (u : FineUnit s) (d : Ductile s c ρ) where
  pub small : ρ.num * (s * s) < 2 ^ 64 * ρ.den
  small =
      let p = d.square_positive in
      omega (arith, radicand s ρ.num ρ.den u.most d.square_most)

  pub root_least : s ≤ lower_root s ρ
  root_least = unit_most s ρ small d.square_one

  pub roots_ordered : lower_root s ρ ≤ upper_root s ρ
  roots_ordered = lower_most s ρ small d.square_positive

  -- the capacity in thirds of the unit is whole
  pub thirds_exact : 3 * s / c.den * c.num * c.den ≡ 3 * (s * c.num)
  thirds_exact = omega (arith, ap (λ (z : ℕ). z * c.num) d.thirds)

  thirds_most : 3 * s / c.den * c.num ≤ 18 * s
  thirds_most =
      le_of_mul-le-mul_right {k = c.den} (omega (arith, thirds_exact, mul-le-mul_left s d.cap_most)) d.cap_positive

  -- what a root rises by, times how far T is past 0.6·T0
  module _ (a b t k : ℕ) (h : Shape a b t) (lo : s ≤ k) (below : t * a < 1000 * b) where
    rise_small : 3 * s / c.den * c.num - 3 * k ≤ 150_000_000
    rise_small = omega (arith, thirds_most, u.most)

    pub rise_fits : (3 * s / c.den * c.num - 3 * k) * (t * a - 600 * b) ≤ 12_000_000_000_000_000_000
    rise_fits =
        let way : t * a - 600 * b ≤ 80_000_000_000 = omega (arith, h.b_most) in
        mul-le-mul rise_small way

    -- and over 0.4·T0, rounded to a side
    pub risen_most : {q o : ℕ → ℕ → ℕ} {z : ℤ → ℕ → ℤ} → Rounds q o z
        → q ((3 * s / c.den * c.num - 3 * k) * (t * a - 600 * b)) (1200 * b) ≤ 150_000_000
    risen_most rounds =
        let way : t * a - 600 * b ≤ 1200 * b = omega arith in
        rounds.most _ (1200 * b) 150_000_000 (omega (arith, h.b_positive)) (omega (arith, mul-le-mul rise_small way))

  -- the root to a side
  module _ {root : ℕ → Fraction → ℕ} (between : Between root) where
    least : s ≤ root s ρ
    least = le_trans root_least (between.between s ρ small d.square_positive).0

    below : root s ρ * c.den ≤ s * c.num
    below = le_trans (mul-le-mul_right c.den (between.between s ρ small d.square_positive).1) d.root_most

    most : root s ρ ≤ 60_000_000
    most = le_of_mul-le-mul_right {k = c.den} (omega (arith, mul-le-mul u.most d.cap_most, below)) d.cap_positive

    thirds : 3 * root s ρ ≤ 3 * s / c.den * c.num
    thirds = le_of_mul-le-mul_right {k = c.den} (omega (arith, thirds_exact, below)) d.cap_positive

    pub rooted : (k : ℕ) → k ≡ root s ρ → Rooted s c k
    rooted k e = subst (Rooted s c) (sym e) (record { least = least; most = most; thirds = thirds })
