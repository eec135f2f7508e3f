-- The reduction factor as a mean of 1, the root and the capacity by three whole weights: no difference of fractions, right also
-- for a root above the capacity, and one form for its four branches.
--   Weights, total, mean w r c    the mean of 1, r and c
--   weights A B T                 what each weighs at T: the capacity alone from T0; down to 0.6·T0 the root by T0 − T and the
--                                 capacity by T − 0.6·T0; the root alone down to 0.2·T0; below that 1 by 0.2·T0 − T and the
--                                 root by T (all times 10·A)
-- Assumes nothing.
use mathlib.Core.Path.{◌≡◌, refl, ap, ap₂, subst₂, subst₃, ◌∙◌}
use mathlib.Core.Bool.{Bool, true, false}
use Prim.Native.Nat.{ℕ, ◌+◌, ◌-◌, ◌*◌}
use native.Mathlib.Omega.{arith}
use lib.IntN.{ℤ, pos, ◌+ℤ◌, ◌*ℤ◌}
use borrow.Author.Tests.{leb-true, leb-false}
use Rattle.whole.specs.declared.Fraction.{Fraction}
use Rattle.whole.specs.Choice.{pick}
use Rattle.whole.specs.Fraction.{over, at_most}
use Rattle.whole.specs.Signed.{Signed, signed, ◌⊕◌, ◌⊖◌, ◌⊗◌}
use Rattle.whole.proofs.Difference.{◌⊝◌, from_zero, plus_difference, times_whole, times_difference}
use Rattle.whole.proofs.SignedSame.{Stands}
use Rattle.response.specs.Corner.{corner, part, ms}
use Rattle.response.specs.Factor.{one, factor}

pub record Weights : Type 0 where
  pub one : ℕ
  pub root : ℕ
  pub cap : ℕ

abbrev pub total : Weights → ℕ
total w = w.one + w.root + w.cap

abbrev pub mean : Weights → Fraction → Fraction → Fraction
mean w r c =
    over (w.one * (r.den * c.den) + w.root * (r.num * c.den) + w.cap * (c.num * r.den))
    (total w * (r.den * c.den))

unfoldable pub weights : ℕ → ℕ → ℕ → Weights
weights A B T =
    pick (at_most (corner A B) (ms T)) (record { one = 0; root = 0; cap = 1 })
    (pick (at_most (part 6 10 A B) (ms T))
    (record { one = 0; root = 10 * (1000 * B - T * A); cap = 10 * (T * A - 600 * B) })
    (pick (at_most (part 2 10 A B) (ms T)) (record { one = 0; root = 1; cap = 0 })
    (record { one = 10 * (200 * B - T * A); root = 10 * (T * A); cap = 0 })))

-- two choices by one test
by_both : {S : Type 0} {U : Type 0} (P : S → U → Type 0) (t : Bool) (a b : S) (a' b' : U)
    → (t ≡ true → P a a') → (t ≡ false → P b b') → P (pick t a b) (pick t a' b')
by_both P t a b a' b' f g = go t refl
  where
    go : (u : Bool) → t ≡ u → P (pick u a b) (pick u a' b')
    go true e = f e
    go false e = g e

-- (t − H)/G, of t and H over E and G over E, as `x` and `y` are
abbrev slope : ℕ → ℕ → ℕ → ℕ → Signed
slope t H E G = record { num = (t ⊝ H) *ℤ pos E; den = 1 * E * G }

-- a difference P − Q of e·N over a divisor that is e·M is N over M
cross : (P Q e N M D : ℕ) → P ≡ Q + e * N → e * M ≡ D → P * M ≡ Q * M + N * D
cross P Q e N M D p m =
    let spread : (Q + e * N) * M ≡ Q * M + N * (e * M) = omega arith in
    ap (λ (z : ℕ). z * M) p ∙ spread ∙ ap (λ (z : ℕ). Q * M + N * z) m

-- r + (c − r)·(t − H)/G with t = H + X and G = X + Y
between_stands : (r c : Fraction) (H E X Y : ℕ)
    → Stands (signed r ⊕ (signed c ⊖ signed r) ⊗ slope (H + X) H E (X + Y)) (mean (record { one = 0; root = Y; cap = X }) r c)
between_stands r c H E X Y =
    let p = r.num in
    let q = r.den in
    let n = c.num in
    let d = c.den in
    let t = H + X in
    let D = d * q * (1 * E * (X + Y)) in
    let u = n * q * (t * E) + p * d * (H * E) in
    let v = n * q * (H * E) + p * d * (t * E) in
    let inner : (n * q ⊝ p * d) *ℤ ((t ⊝ H) *ℤ pos E) ≡ u ⊝ v =
    ap (λ (z : ℤ). (n * q ⊝ p * d) *ℤ z) (times_whole t H E) ∙ times_difference (n * q) (p * d) (t * E) (H * E) in
    let outer : (n * q ⊝ p * d) *ℤ ((t ⊝ H) *ℤ pos E) *ℤ pos q ≡ u * q ⊝ v * q =
    ap (λ (z : ℤ). z *ℤ pos q) inner ∙ times_whole u v q in
    record {
      plus = p * D + u * q;
      minus = 0 + v * q;
      num = ap₂ (λ (a b : ℤ). a +ℤ b) (from_zero (p * D)) outer ∙ plus_difference (p * D) 0 (u * q) (v * q);
      same =
          cross (p * D + u * q) (0 + v * q) (q * E) (0 * (q * d) + Y * (p * d) + X * (n * q)) ((0 + Y + X) * (q * d)) (q * D)
          (omega arith) (omega arith);
    }

-- r + (r − 1)·(t − H)/H with H = t + Y
below_stands : (r c : Fraction) (E X Y : ℕ)
    → Stands (signed r ⊕ (signed r ⊖ one) ⊗ slope X (X + Y) E (X + Y)) (mean (record { one = Y; root = X; cap = 0 }) r c)
below_stands r c E X Y =
    let p = r.num in
    let q = r.den in
    let H = X + Y in
    let D = q * 1 * (1 * E * H) in
    let u = p * 1 * (X * E) + 1 * q * (H * E) in
    let v = p * 1 * (H * E) + 1 * q * (X * E) in
    let inner : (p * 1 ⊝ 1 * q) *ℤ ((X ⊝ H) *ℤ pos E) ≡ u ⊝ v =
    ap (λ (z : ℤ). (p * 1 ⊝ 1 * q) *ℤ z) (times_whole X H E) ∙ times_difference (p * 1) (1 * q) (X * E) (H * E) in
    let outer : (p * 1 ⊝ 1 * q) *ℤ ((X ⊝ H) *ℤ pos E) *ℤ pos q ≡ u * q ⊝ v * q =
    ap (λ (z : ℤ). z *ℤ pos q) inner ∙ times_whole u v q in
    record {
      plus = p * D + u * q;
      minus = 0 + v * q;
      num = ap₂ (λ (a b : ℤ). a +ℤ b) (from_zero (p * D)) outer ∙ plus_difference (p * D) 0 (u * q) (v * q);
      same = omega arith;
    }

alone_root : (r c : Fraction) → Stands (signed r) (mean (record { one = 0; root = 1; cap = 0 }) r c)
alone_root r c = record { plus = r.num; minus = 0; num = from_zero r.num; same = omega arith }

alone_capacity : (r c : Fraction) → Stands (signed c) (mean (record { one = 0; root = 0; cap = 1 }) r c)
alone_capacity r c = record { plus = c.num; minus = 0; num = from_zero c.num; same = omega arith }

-- the factor of 01's four branches is the mean
pub factor_stands : (A B T : ℕ) (r c : Fraction) → Stands (factor A B T c r) (mean (weights A B T) r c)
unfolding factor weights
factor_stands A B T r c =
    by_both (λ (z : Signed) (w : Weights). Stands z (mean w r c)) (at_most (corner A B) (ms T)) _ _ _ _
    (λ _. alone_capacity r c)
    (λ past.
    by_both (λ (z : Signed) (w : Weights). Stands z (mean w r c)) (at_most (part 6 10 A B) (ms T)) _ _ _ _
    (λ from.
    let H = 6 * (1000 * B) * 1 in
    let X = 10 * (T * A - 600 * B) in
    let Y = 10 * (1000 * B - T * A) in
    let lo = leb-true H (T * (10 * A)) from in
    let hi = leb-false (1000 * B * 1) (T * A) past in
    let et : H + X ≡ T * (10 * A) = omega arith in
    let eg : X + Y ≡ 4 * (1000 * B) = omega arith in
    subst₂
    (λ (t G : ℕ).
    Stands (signed r ⊕ (signed c ⊖ signed r) ⊗ slope t H (10 * A) G) (mean (record { one = 0; root = Y; cap = X }) r c))
    et eg
    (between_stands r c H (10 * A) X Y))
    (λ _.
    by_both (λ (z : Signed) (w : Weights). Stands z (mean w r c)) (at_most (part 2 10 A B) (ms T)) _ _ _ _
    (λ _. alone_root r c)
    (λ below.
    let X = 10 * (T * A) in
    let Y = 10 * (200 * B - T * A) in
    let lo = leb-false (2 * (1000 * B) * 1) (T * (10 * A)) below in
    let et : X ≡ T * (10 * A) = omega arith in
    let eh : X + Y ≡ 2 * (1000 * B) * 1 = omega arith in
    let eg : X + Y ≡ 2 * (1000 * B) = omega arith in
    subst₃
    (λ (t H G : ℕ).
    Stands (signed r ⊕ (signed r ⊖ one) ⊗ slope t H (10 * A) G) (mean (record { one = Y; root = X; cap = 0 }) r c))
    et eh eg
    (below_stands r c (10 * A) X Y))))
