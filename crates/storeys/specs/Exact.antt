-- The storey shears of the exact figure of demand 3: no rounding, V a fraction in N.
--   exact_roof_force T v             F_t, the same part of V as printed: 0 up to 700 ms, above that the smaller of 0.07·(T in s)·V and V/4
--   rest t                           1 − t of a part t
--   exact_shear_under T ws hs v x    the shear under level x: F_t + (V − F_t)·P_x/P, which is V·(t + (1 − t)·P_x/P) with t the roof part
-- ℕ's subtraction stops at 0; the roof part is at most one (`roof_at_most_one`, proofs/Roof.antt).
use Rattle.std.specs.Prelude.{List, ℕ, ◌-◌, drop}
use Rattle.whole.specs.declared.Fraction.{Fraction}
use Rattle.whole.specs.Fraction.{over, plus, times}
use Rattle.storeys.specs.Storeys.{roof_part, weight_height}

abbrev pub exact_roof_force : ℕ → Fraction → Fraction
exact_roof_force T v = times (roof_part T) v

abbrev pub rest : Fraction → Fraction
rest t = over (t.den - t.num) t.den

abbrev pub exact_shear_under : ℕ → List ℕ → List ℕ → Fraction → ℕ → Fraction
exact_shear_under T ws hs v x =
    plus (exact_roof_force T v)
    (times (times (rest (roof_part T)) v) (over (weight_height (drop x ws) (drop x hs)) (weight_height ws hs)))
