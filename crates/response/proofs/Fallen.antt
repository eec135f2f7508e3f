-- What the root falls by below 0.2·T0, as the machine hands it on: a product that is not above 0, its quotient rounded to a side,
-- and what is left of the root.
-- Assumes nothing.
use mathlib.Core.Path.{◌≡◌, sym, ap, ap₂, subst, ◌∙◌}
use Prim.Native.Nat.{ℕ, ◌-◌, ◌*◌, ◌^◌, ◌≤◌, ◌<◌}
use native.Mathlib.Nat.{mul-le-mul}
use native.Mathlib.Omega.{arith}
use lib.IntN.{ℤ, pos, ◌+ℤ◌, ◌-ℤ◌, ◌*ℤ◌}
use lib.Signed.{mag}
use mir.Syntax.{w64}
use mir.Val.{SFits, to_z, of_z}
use Rattle.whole.proofs.Difference.{fall}
use Rattle.whole.proofs.Floor.{back, neg_fits}
use Rattle.response.specs.Side.{Rounds}

-- a number with a sign, read from its bits
abbrev pub read : ℤ → ℤ
read y = to_z w64 (of_z w64 y)

module _ {q o : ℕ → ℕ → ℕ} {z : ℤ → ℕ → ℤ} (rounds : Rounds q o z)
    (s root ta h : ℕ) (p : (s ≤ root) × (root ≤ 60_000_000) × (ta ≤ h) × (0 < h) × (h ≤ 40_000_000_000))
    (x y : ℤ) (fx : mag x < 2 ^ 63) (fy : mag y < 2 ^ 63) (ex : x ≡ pos root -ℤ pos s) (ey : y ≡ pos ta -ℤ pos h) where
  product : read x *ℤ read y ≡ (pos root -ℤ pos s) *ℤ (pos ta -ℤ pos h)
  product = ap₂ (λ (v w : ℤ). v *ℤ w) (back x fx ∙ ex) (back y fy ∙ ey)

  pub product_fits : SFits w64 (read x *ℤ read y)
  product_fits =
      subst (λ (v : ℤ). SFits w64 v) (sym (product ∙ fall root s ta h p.0 p.2))
      (neg_fits ((root - s) * (h - ta))
      (omega (arith, mul-le-mul {n₁ = root - s} {m₁ = h - ta} {n₂ = 60_000_000} {m₂ = 40_000_000_000} (omega arith) (omega arith))))

  -- v is the product, and w its quotient
  pub left : (v w : ℤ) → mag v < 2 ^ 63 → mag w < 2 ^ 63 → v ≡ read x *ℤ read y → w ≡ z (read v) h
      → pos root +ℤ read w ≡ pos (root - o ((root - s) * (h - ta)) h)
  left v w fv fw ev ew =
      let n = (root - s) * (h - ta) in
      let most : n ≤ h * root = omega (arith, mul-le-mul {n₁ = root - s} {m₁ = h - ta} {n₂ = root} {m₂ = h} (omega arith) (omega arith)) in
      ap (λ (u : ℤ). pos root +ℤ u) (back w fw ∙ ew ∙ ap (λ (u : ℤ). z u h) (back v fv ∙ ev ∙ product ∙ fall root s ta h p.0 p.2))
      ∙ rounds.off root n h p.3 (rounds.other_most n h root p.3 most)
