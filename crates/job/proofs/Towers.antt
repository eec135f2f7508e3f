-- Towers on one podium. With the same ground and frame and the same period in use, V_D of the towers' total weights together is at most the sum of their
-- V_D, and that sum is at most one newton more for each tower after the first. For at one T V_D is one share of W, rounded up once (`reached_share`),
-- and two shares rounded up are at most one newton more than their sum's (`share_of_sum`). The premises are that the calls were answered with
-- figures, and T.
-- Assumes nothing.
use Rattle.std.specs.Prelude.{Ok}
use mathlib.Core.Path.{◌≡◌, refl, sym, ap, subst, ◌∙◌}
use mathlib.Core.List.{List, [], ◌∷◌}
use Prim.Native.Nat.{ℕ, ◌+◌, ◌≤◌}
use native.Mathlib.Omega.{arith}
use lib.ListN.{length}
use Rattle.whole.specs.declared.Fraction.{Fraction}
use Rattle.whole.proofs.Shares.{share_of_sum}
use Rattle.limits.specs.declared.frame.FrameValues.{FrameValues}
use Rattle.limits.specs.declared.ground.GroundValues.{GroundValues}
use Rattle.limits.specs.declared.judging.Given.{Given}
use Rattle.limits.specs.Allowed.{AllowedShearCall}
use Rattle.limits.specs.Judging.{judged_shear_call}
use Rattle.limits.specs.Outcome.{accepted}
use Rattle.limits.proofs.AcceptedCalls.{shear_call_allowed, one_given}
use Rattle.response.specs.Unit.{unit}
use Rattle.base_shear.specs.declared.Figures.{Figures}
use Rattle.base_shear.specs.Share.{base_share, share_of}
use Rattle.base_shear.specs.Shears.{base, figures_at}
use Rattle.base_shear.proofs.Share.{reached_share, reached_share_positive}
use Rattle.job.specs.ShearCall.{given_hazards, building_figures, Sheared}
use Rattle.job.specs.Towers.{Tower, Called, CalledAt, weight_of, base_of}
use Rattle.job.proofs.GivenReached.{given_reached}
use Rattle.job.proofs.Sheared.{taken_accepted}

module _ (G : GroundValues) (f : FrameValues) where
  -- ---- what is known of any other answered call once ground and frame were judged to be g in one of them
  module _ (W h : ℕ) (g : Given) (judged : judged_shear_call G f W h ≡ accepted g) where
    abbrev share : ℕ → Fraction
    share T = base_share unit (given_hazards g) g.frame T

    abbrev all : AllowedShearCall g W h
    all = shear_call_allowed G f W h g judged

    called_share : (t : Tower) → Called G f t → t.figures.vd ≡ share_of (share t.figures.t) t.weight
    unfolding figures_at
    called_share t c =
        let a = taken_accepted G f t.weight t.height t.figures c in
        let same : a.given ≡ g = one_given G f t.weight t.height W h a.given g a.judged judged in
        let n : t.figures ≡ building_figures g t.weight t.height =
        a.figures ∙ ap (λ (x : Given). building_figures x t.weight t.height) same in
        subst (λ (m : Figures). m.vd ≡ base unit (given_hazards g) g.frame t.weight m.t) (sym n) refl
        ∙ reached_share (given_hazards g) g.frame (given_reached g W h all) all.frame t.figures.t t.weight

    called_share_at : (T : ℕ) (t : Tower) → Called G f t → t.figures.t ≡ T → t.figures.vd ≡ share_of (share T) t.weight
    called_share_at T t c e = called_share t c ∙ ap (λ (x : ℕ). share_of (share x) t.weight) e

    share_of_all : (T : ℕ) (t : Tower) (ts : List Tower) → CalledAt G f T (t ∷ ts)
        → (share_of (share T) (weight_of (t ∷ ts)) ≤ base_of (t ∷ ts)) × (base_of (t ∷ ts) ≤ share_of (share T) (weight_of (t ∷ ts)) + length ts)
    share_of_all T t [] c =
        let v = called_share_at T t c.0 c.1 in
        let w : share_of (share T) (t.weight + 0) ≡ share_of (share T) t.weight = ap (λ (x : ℕ). share_of (share T) x) (omega arith) in
        (omega (arith, v, w), omega (arith, v, w))
    share_of_all T t (u ∷ us) c =
        let v = called_share_at T t c.0 c.1 in
        let rest = share_of_all T u us c.2 in
        let positive = reached_share_positive (given_hazards g) g.frame (given_reached g W h all) all.frame T in
        let both = share_of_sum (share T) t.weight (weight_of (u ∷ us)) positive in
        (omega (arith, v, rest.0, both.0), omega (arith, v, rest.1, both.1))

  -- ---- any number of towers
  pub towers : (t : Tower) (ts : List Tower) (h : ℕ) (n : Figures) → Sheared G f (weight_of (t ∷ ts)) h (Ok n) → CalledAt G f n.t (t ∷ ts)
      → (n.vd ≤ base_of (t ∷ ts)) × (base_of (t ∷ ts) ≤ n.vd + length ts)
  towers t ts h n c each =
      let W = weight_of (t ∷ ts) in
      let a = taken_accepted G f W h n c in
      let v = called_share W h a.given a.judged (record { weight = W; height = h; figures = n }) c in
      let both = share_of_all W h a.given a.judged n.t t ts each in
      (omega (arith, v, both.0), omega (arith, v, both.1))

  -- ---- two towers
  pub two_towers : (W₁ W₂ h₁ h₂ h : ℕ) (n₁ n₂ n : Figures)
      → Sheared G f W₁ h₁ (Ok n₁) → Sheared G f W₂ h₂ (Ok n₂) → Sheared G f (W₁ + W₂) h (Ok n)
      → n₁.t ≡ n.t → n₂.t ≡ n.t
      → (n.vd ≤ n₁.vd + n₂.vd) × (n₁.vd + n₂.vd ≤ n.vd + 1)
  two_towers W₁ W₂ h₁ h₂ h n₁ n₂ n c₁ c₂ c e₁ e₂ =
      let one : Tower = record { weight = W₁; height = h₁; figures = n₁ } in
      let other : Tower = record { weight = W₂; height = h₂; figures = n₂ } in
      let sum : W₁ + W₂ ≡ weight_of (one ∷ other ∷ []) = omega arith in
      let both = towers one (other ∷ []) h n (subst (λ (x : ℕ). Sheared G f x h (Ok n)) sum c) (c₁, e₁, (c₂, e₂, tt)) in
      (omega (arith, both.0), omega (arith, both.1))
