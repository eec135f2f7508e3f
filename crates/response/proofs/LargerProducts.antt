-- Two grounds at one T, the second of no smaller A and B: what their factors and spectra come to as products of whole numbers. α is the root, β the capacity
-- and γ one, over a common divisor; p/u is the spectrum of the second; e is what the factor of the first does not exceed.
-- Assumes nothing.
use mathlib.Core.Path.{◌≡◌, ap}
use Prim.Native.Nat.{ℕ, ◌+◌, ◌*◌, ◌≤◌, ◌<◌}
use native.Mathlib.Nat.{le_dest, mul-le-mul, mul-le-mul_left, mul-le-mul_right, le_of_mul-le-mul_right}
use native.Mathlib.Omega.{arith}

-- T up to 0.2 of the second corner, which times A' is y + t
pub far_below : (e A A' α γ y t p u : ℕ) → 3 ≤ e → A ≤ A' → α ≤ e * γ → A' * (2 * y + 5 * t) * u ≤ p * (5 * (y + t) * 100_000_000)
    → (β : ℕ) → (10 * y * γ + 10 * t * α + 0 * β) * A * (1 * u) ≤ e * p * ((10 * y + 10 * t + 0) * γ * 100_000_000)
far_below e A A' α γ y t p u three la ra low β =
    let M = y + e * t in
    let one : 10 * y * γ + 10 * t * α ≤ 10 * (M * γ) = omega (arith, mul-le-mul_left (10 * t) ra) in
    let two : 5 * M ≤ e * (2 * y + 5 * t) = omega (arith, mul-le-mul_right y three) in
    omega (
      arith,
      mul-le-mul_right u (mul-le-mul one la),
      mul-le-mul_right (γ * A' * u) two,
      mul-le-mul_right (e * γ) low,
    )

-- up to T0 of it, by what is to be shown of the factor and A alone
pub flat : (e A A' N D p u : ℕ) → N * A ≤ e * A' * D → A' * u ≤ p * 100_000_000 → N * A * (1 * u) ≤ e * p * (D * 100_000_000)
flat e A A' N D p u k low = omega (arith, mul-le-mul_right u k, mul-le-mul_right (e * D) low)

-- the factor between 0.6·T0 and T0 without its divisor: y is T0 − T and z is T − 0.6·T0, both times A; all times the other A
on_line : (B C t k α β P Q y z : ℕ) → y + t ≡ 1000 * B → z + 600 * B ≡ t → t * C ≡ k → 3 * β + P ≡ 5 * α → α + Q ≡ β
    → (y * α + z * β) * C ≡ 200 * (B * C * P) + k * Q
on_line B C t k α β P Q y z ey ez ek eP eQ =
    omega (
      arith,
      ap (λ (v : ℕ). v * (α * C)) ey,
      ap (λ (v : ℕ). v * (β * C)) ez,
      ap (λ (v : ℕ). v * α) ek,
      ap (λ (v : ℕ). v * β) ek,
      ap (λ (v : ℕ). B * C * v) eP,
      ap (λ (v : ℕ). k * v) eQ,
    )

module _ (A B A' B' T α β : ℕ) (la : A ≤ A') (lb : B ≤ B') (least : 3 * β ≤ 5 * α) (cap : α ≤ β) (y' z' : ℕ) (ey' : y' + T * A' ≡ 1000 * B')
    (ez' : z' + 600 * B' ≡ T * A') where
  -- T from 0.6 of both corners on
  pub rising_twice : (y z : ℕ) → y + T * A ≡ 1000 * B → z + 600 * B ≡ T * A
      → (y' * α + z' * β) * A * B ≤ (y * α + z * β) * A' * B'
  rising_twice y z ey ez =
      let (P, eP) = le_dest least in
      let (Q, eQ) = le_dest cap in
      let k = T * A * A' in
      let n' = on_line B' A (T * A') k α β P Q y' z' ey' ez' (omega arith) eP eQ in
      let n = on_line B A' (T * A) k α β P Q y z ey ez (omega arith) eP eQ in
      together ((y' * α + z' * β) * A) ((y * α + z * β) * A') k P Q n' n
    where
      together : (m' m k P Q : ℕ) → m' ≡ 200 * (B' * A * P) + k * Q → m ≡ 200 * (B * A' * P) + k * Q → m' * B ≤ m * B'
      together m' m k P Q e' e =
          omega (
            arith,
            ap (λ (v : ℕ). v * B) e',
            ap (λ (v : ℕ). v * B') e,
            mul-le-mul_right (B * B' * P) la,
            mul-le-mul_right (k * Q) lb,
          )

  -- up to 0.6 of the first
  pub rising_once : T * A ≤ 600 * B → (y' * α + z' * β) * A ≤ 400 * B' * α * A'
  rising_once h =
      let (P, eP) = le_dest least in
      let (Q, eQ) = le_dest cap in
      let t : T * A ≤ 600 * B' = omega arith in
      let k = T * A * A' in
      let n' = on_line B' A (T * A') k α β P Q y' z' ey' ez' (omega arith) eP eQ in
      together ((y' * α + z' * β) * A) k P Q n' (mul-le-mul_right A' t) eP eQ
    where
      together : (m' k P Q : ℕ) → m' ≡ 200 * (B' * A * P) + k * Q → k ≤ 600 * B' * A' → 3 * β + P ≡ 5 * α → α + Q ≡ β → m' ≤ 400 * B' * α * A'
      together m' k P Q e' small eP eQ =
          omega (
            arith,
            e',
            mul-le-mul_right (B' * P) la,
            mul-le-mul_right Q small,
            ap (λ (v : ℕ). B' * A' * v) eP,
            ap (λ (v : ℕ). B' * A' * v) eQ,
          )

-- T0 of the second and beyond, by what is to be shown of the factor
pub far_past : (e A B' T α β γ p u : ℕ) → 0 < T → T * A * β ≤ 1000 * e * B' * γ → 1000 * B' * u ≤ p * (T * 100_000_000)
    → (0 * γ + 0 * α + 1 * β) * A * (1 * u) ≤ e * p * ((0 + 0 + 1) * γ * 100_000_000)
far_past e A B' T α β γ p u pt k low =
    le_of_mul-le-mul_right {k = T} (omega (arith, mul-le-mul_right u k, mul-le-mul_right (e * γ) low)) pt
