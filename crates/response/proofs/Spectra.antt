-- The spectrum in each of its four branches, as the code works it out; d is what a unit holds of 10⁻⁸ g.
-- Assumes nothing.
use mathlib.Core.Path.{◌≡◌, ap, ap₂, ◌∙◌}
use Prim.Native.Nat.{ℕ, zero, suc, ◌+◌, ◌*◌, ◌/◌, ◌%◌, ◌≤◌, ◌<◌}
use native.Mathlib.Nat.{mul-pos, zero-mul, div-add-mod', div-le_of_le-mul, mod-lt, mul-le-mul_right}
use native.Mathlib.Omega.{arith}
use Rattle.whole.specs.declared.Fraction.{Fraction}
use Rattle.whole.specs.Rounding.{up}
use Rattle.whole.proofs.Choice.{by_leb}
use Rattle.whole.proofs.Rounding.{up_same, up_up, up_whole, up_is}
use Rattle.response.specs.Spectrum.{exact_spectrum, rounded, spectrum}

-- the quotient by B taken in parts: 3·T·A is q·B and r more
pub in_parts : (a b ta d : ℕ) → 0 < b → 0 < d
    → up ((400 + 3 * ta / b) * a + up (3 * ta % b * a) b) (1000 * d) ≡ up (a * (400 * b + 3 * ta)) (1000 * d * b)
in_parts a b ta d pb pd =
    let q = 3 * ta / b in
    let r = 3 * ta % b in
    let e : q * b + r ≡ 3 * ta = div-add-mod' (3 * ta) b in
    let n : b * ((400 + q) * a) + r * a ≡ a * (400 * b + 3 * ta) = omega (arith, ap (λ (z : ℕ). a * z) e) in
    ap (λ (z : ℕ). up z (1000 * d)) (up_whole ((400 + q) * a) (r * a) b pb)
    ∙ up_up (b * ((400 + q) * a) + r * a) b (1000 * d) pb (omega arith)
    ∙ ap₂ up n (omega arith)

module _ (s A B T d : ℕ) (pb : 0 < B) (pd : 0 < d) (e : d * s ≡ 100_000_000) where
  -- T ≤ 0.2·T0
  pub first_branch : T * A ≤ 200 * B → spectrum s A B T ≡ up (A * (400 * B + 3 * (T * A))) (1000 * d * B)
  unfolding spectrum exact_spectrum
  first_branch h =
      let N = A * (4 * (1 * (1000 * B)) + 3 * T * A * 10) in
      let F = A * (400 * B + 3 * (T * A)) in
      let ten : N ≡ 10 * F = omega arith in
      by_leb (λ (z : Fraction). rounded s z ≡ up F (1000 * d * B)) (T * (10 * A)) (2 * (1000 * B) * 1) _ _
      (λ _.
      up_same (s * N) (100_000_000 * (10 * (1 * (1000 * B)))) F (1000 * d * B) (omega arith)
      (mul-pos (omega arith) pb)
      (tens s d B N F ten e))
      (λ k. absurd (omega arith))
    where
      tens : (s d B N F : ℕ) → N ≡ 10 * F → d * s ≡ 100_000_000
          → s * N * (1000 * d * B) ≡ F * (100_000_000 * (10 * (1 * (1000 * B))))
      tens s d B N F n e =
          let a : s * N * (1000 * d * B) ≡ s * (10 * F) * (1000 * d * B) = ap (λ (z : ℕ). s * z * (1000 * d * B)) n in
          omega (arith, a, ap (λ (z : ℕ). 10000 * (F * B) * z) e)

  -- T ≤ T0
  pub second_branch : 200 * B < T * A → T * A ≤ 1000 * B → spectrum s A B T ≡ up A d
  unfolding spectrum exact_spectrum
  second_branch h l =
      by_leb (λ (z : Fraction). rounded s z ≡ up A d) (T * (10 * A)) (2 * (1000 * B) * 1) _ _ (λ k. absurd (omega arith))
      (λ _.
      by_leb (λ (z : Fraction). rounded s z ≡ up A d) (T * A) (1000 * B * 1) _ _
      (λ _. up_same (s * A) 100_000_000 A d (omega arith) pd (omega (arith, ap (λ (z : ℕ). A * z) e)))
      (λ k. absurd (omega arith)))

  -- T ≤ 2.5·T0
  pub third_branch : 1000 * B < T * A → T * A ≤ 2500 * B → 0 < T → spectrum s A B T ≡ up (1000 * B) (d * T)
  unfolding spectrum exact_spectrum
  third_branch h l pt =
      by_leb (λ (z : Fraction). rounded s z ≡ up (1000 * B) (d * T)) (T * (10 * A)) (2 * (1000 * B) * 1) _ _
      (λ k. absurd (omega arith))
      (λ _.
      by_leb (λ (z : Fraction). rounded s z ≡ up (1000 * B) (d * T)) (T * A) (1000 * B * 1) _ _ (λ k. absurd (omega arith))
      (λ _.
      by_leb (λ (z : Fraction). rounded s z ≡ up (1000 * B) (d * T)) (T * (10 * A)) (25 * (1000 * B) * 1) _ _
      (λ _.
      up_same (s * (B * 1000)) (100_000_000 * T) (1000 * B) (d * T) (omega arith) (mul-pos pd pt)
      (omega (arith, ap (λ (z : ℕ). 1000 * (B * T) * z) e)))
      (λ k. absurd (omega arith))))

  -- beyond
  pub fourth_branch : 2500 * B < T * A → spectrum s A B T ≡ up (4 * A) (10 * d)
  unfolding spectrum exact_spectrum
  fourth_branch h =
      by_leb (λ (z : Fraction). rounded s z ≡ up (4 * A) (10 * d)) (T * (10 * A)) (2 * (1000 * B) * 1) _ _
      (λ k. absurd (omega arith))
      (λ _.
      by_leb (λ (z : Fraction). rounded s z ≡ up (4 * A) (10 * d)) (T * A) (1000 * B * 1) _ _ (λ k. absurd (omega arith))
      (λ _.
      by_leb (λ (z : Fraction). rounded s z ≡ up (4 * A) (10 * d)) (T * (10 * A)) (25 * (1000 * B) * 1) _ _
      (λ k. absurd (omega arith))
      (λ _.
      up_same (s * (4 * A)) (10 * 100_000_000) (4 * A) (10 * d) (omega arith) (omega arith)
      (omega (arith, ap (λ (z : ℕ). 40 * A * z) e)))))

-- ---- what fits
pub left_positive : (d s n : ℕ) → d * s ≡ n → 0 < n → 0 < d
left_positive zero s n e p = absurd (omega (arith, zero-mul s))
left_positive (suc d) s n e p = omega arith

pub quotient_most : (b ta : ℕ) → ta ≤ 200 * b → 3 * ta / b ≤ 600
quotient_most b ta h = div-le_of_le-mul b (omega arith)

pub rest_most : (u a b : ℕ) → 0 < b → up (u % b * a) b ≤ a
rest_most u a b p =
    let l : u % b ≤ b = omega (arith, mod-lt u p) in
    (up_is (u % b * a) b p).smallest a (omega (arith, mul-le-mul_right a l))
