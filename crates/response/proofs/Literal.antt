-- The modified ratio in ten-millionths: document 01's thresholds, 300,000 and 800,000 millionths, and its 144,000, 'scaled alike' by document 02;
-- and p of V* in 01's own numbers, which have no unit.
-- Assumes nothing.
use mathlib.Core.Path.{◌≡◌, refl, sym, ap₂, ◌∙◌}
use Prim.Native.Nat.{ℕ, ◌+◌, ◌*◌, ◌≤◌, ◌<◌}
use native.Mathlib.Omega.{arith}
use Rattle.whole.specs.Rounding.{up}
use Rattle.whole.proofs.Choice.{by_leb}
use Rattle.whole.proofs.Rounding.{up_at, up_scale}
use Rattle.site.specs.Lines.{lines}
use Rattle.response.specs.Unit.{unit}
use Rattle.response.specs.Ratio.{bent, modified, blended}

-- 'Up to 300,000: q.', scaled
pub modified_first : (q : ℕ) → q ≤ 3_000_000 → modified unit lines q ≡ q
unfolding modified bent
modified_first q h =
    by_leb (λ (z : ℕ). up z 1000 ≡ q) (1000 * q) (300 * unit) _ _
    (λ _. sym (up_at (1000 * q) 1000 q (omega arith) (omega arith) (omega arith)))
    (λ k. absurd (omega arith))

-- 'Up to 800,000: 0.52·q + 144,000, up.', scaled
pub modified_second : (q : ℕ) → 3_000_000 < q → q ≤ 8_000_000 → modified unit lines q ≡ up (52 * q + 144_000_000) 100
unfolding modified bent
modified_second q h k =
    by_leb (λ (z : ℕ). up z 1000 ≡ up (52 * q + 144_000_000) 100) (1000 * q) (300 * unit) _ _
    (λ a. absurd (omega arith))
    (λ a.
    by_leb (λ (z : ℕ). up z 1000 ≡ up (52 * q + 144_000_000) 100) (1000 * q) (800 * unit) _ _
    (λ b. ap₂ up (omega arith) refl ∙ up_scale 10 (52 * q + 144_000_000) 100 (omega arith) (omega arith))
    (λ b. absurd (omega arith)))

-- 'Above: 0.7·q, up.'
pub modified_last : (q : ℕ) → 8_000_000 < q → modified unit lines q ≡ up (7 * q) 10
unfolding modified bent
modified_last q h =
    by_leb (λ (z : ℕ). up z 1000 ≡ up (7 * q) 10) (1000 * q) (300 * unit) _ _
    (λ a. absurd (omega arith))
    (λ a.
    by_leb (λ (z : ℕ). up z 1000 ≡ up (7 * q) 10) (1000 * q) (800 * unit) _ _
    (λ b. absurd (omega arith))
    (λ b. ap₂ up (omega arith) refl ∙ up_scale 100 (7 * q) 10 (omega arith) (omega arith)))

-- 'p = Sa if 10·Sa ≤ 3·F; 0.52·Sa + 0.144·F, up, if 10·Sa ≤ 8·F; else 0.7·Sa, up.'
pub blended_first : (Sa F : ℕ) → 10 * Sa ≤ 3 * F → blended lines Sa F ≡ Sa
unfolding blended bent
blended_first Sa F h =
    by_leb (λ (z : ℕ). up z 1000 ≡ Sa) (1000 * Sa) (300 * F) _ _
    (λ _. sym (up_at (1000 * Sa) 1000 Sa (omega arith) (omega arith) (omega arith)))
    (λ k. absurd (omega arith))

pub blended_second : (Sa F : ℕ) → 3 * F < 10 * Sa → 10 * Sa ≤ 8 * F → blended lines Sa F ≡ up (520 * Sa + 144 * F) 1000
unfolding blended bent
blended_second Sa F h k =
    by_leb (λ (z : ℕ). up z 1000 ≡ up (520 * Sa + 144 * F) 1000) (1000 * Sa) (300 * F) _ _ (λ a. absurd (omega arith))
    (λ a. by_leb (λ (z : ℕ). up z 1000 ≡ up (520 * Sa + 144 * F) 1000) (1000 * Sa) (800 * F) _ _ (λ b. refl) (λ b. absurd (omega arith)))

pub blended_last : (Sa F : ℕ) → 8 * F < 10 * Sa → blended lines Sa F ≡ up (7 * Sa) 10
unfolding blended bent
blended_last Sa F h =
    by_leb (λ (z : ℕ). up z 1000 ≡ up (7 * Sa) 10) (1000 * Sa) (300 * F) _ _ (λ a. absurd (omega arith))
    (λ a.
    by_leb (λ (z : ℕ). up z 1000 ≡ up (7 * Sa) 10) (1000 * Sa) (800 * F) _ _ (λ b. absurd (omega arith))
    (λ b. ap₂ up (omega arith) refl ∙ up_scale 100 (7 * Sa) 10 (omega arith) (omega arith)))
