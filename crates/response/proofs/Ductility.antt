-- How the stages after the spectrum move with the ductility: a larger capacity and a larger square make no smaller factor, lower or upper; a larger factor
-- makes no larger q and no smaller p. p comes to the spectrum itself where the factor is at least Sa/0.3.
-- Assumes nothing.
use mathlib.Core.Path.{◌≡◌, ap, ◌∙◌}
use Prim.Native.Nat.{ℕ, ◌*◌, ◌≤◌, ◌<◌}
use native.Mathlib.Nat.{le_refl, le_trans, mul-le-mul_right}
use native.Mathlib.Omega.{arith}
use Rattle.whole.specs.declared.Fraction.{Fraction}
use Rattle.whole.specs.Fraction.{over, AtMost, up_in}
use Rattle.whole.specs.Root.{lower_root, upper_root}
use Rattle.whole.specs.Rounding.{up}
use Rattle.whole.proofs.Order.{at_most_trans}
use Rattle.whole.proofs.Root.{lower_root_rises, upper_root_rises}
use Rattle.whole.proofs.Rounding.{up_law, up_exact, up_mono, down_most}
use Rattle.whole.proofs.Shares.{share_rises, share_down_rises}
use Rattle.site.specs.declared.lines.Lines.{Lines}
use Rattle.response.specs.Factor.{lower_factor, upper_factor}
use Rattle.response.specs.Ratio.{bent, ratio, blended}
use Rattle.response.specs.Reach.{FineUnit, Shape, Ductile, Meeting}
use Rattle.response.proofs.Bent.{bent_rises, bent_first}
use Rattle.response.proofs.Branches.{mean_positive, lower_is_mean, upper_is_mean}
use Rattle.response.proofs.Exact.{mean_rises, mean_rises_with_capacity}
use Rattle.response.proofs.Mean.{mean, weights}
use Rattle.response.proofs.Reached.{small, roots_ordered}

-- ---- the factors, of two capacities and squares
module _ (s A B T : ℕ) (c ρ c' ρ' : Fraction) (u : FineUnit s) (sh : Shape A B T) (d : Ductile s c ρ) (d' : Ductile s c' ρ')
    (hc : AtMost c c') (hρ : AtMost ρ ρ') where
  abbrev first : ℕ → Fraction
  first k = mean (weights A B T) (over k s) c

  abbrev second : ℕ → Fraction
  second k = mean (weights A B T) (over k s) c'

  first_positive : (k : ℕ) → 0 < (first k).den
  first_positive k = mean_positive A B T (over k s) c sh.b_positive u.positive d.cap_positive

  second_positive : (k : ℕ) → 0 < (second k).den
  second_positive k = mean_positive A B T (over k s) c' sh.b_positive u.positive d'.cap_positive

  means_rise : (k k' : ℕ) → k ≤ k' → AtMost (first k) (second k')
  means_rise k k' h =
      at_most_trans (first k) (first k') (second k') (first_positive k')
      (mean_rises (weights A B T) (over k s) (over k' s) c (mul-le-mul_right s h))
      (mean_rises_with_capacity (weights A B T) (over k' s) c c' hc)

  pub lower_factor_rises : lower_factor s A B T c ρ ≤ lower_factor s A B T c' ρ'
  lower_factor_rises =
      let k = lower_root s ρ in
      let k' = lower_root s ρ' in
      rw (
        lower_is_mean s A B T c ρ u.positive sh.a_positive sh.b_positive d.cap_positive,
        lower_is_mean s A B T c' ρ' u.positive sh.a_positive sh.b_positive d'.cap_positive,
      )
      (share_down_rises (first k) (second k') s (first_positive k) (second_positive k')
      (means_rise k k' (lower_root_rises s ρ ρ' (small s c ρ u d) (small s c' ρ' u d') hρ d.square_positive)))

  pub upper_factor_rises : upper_factor s A B T c ρ ≤ upper_factor s A B T c' ρ'
  upper_factor_rises =
      let k = upper_root s ρ in
      let k' = upper_root s ρ' in
      rw (
        upper_is_mean s A B T c ρ u.positive sh.a_positive sh.b_positive d.cap_positive,
        upper_is_mean s A B T c' ρ' u.positive sh.a_positive sh.b_positive d'.cap_positive,
      )
      (share_rises (first k) (second k') s (first_positive k) (second_positive k')
      (means_rise k k' (upper_root_rises s ρ ρ' (small s c ρ u d) (small s c' ρ' u d') hρ d'.square_positive)))

-- ---- the lower factor is at most the upper one
pub lower_below_upper : (s A B T : ℕ) (c ρ : Fraction) → FineUnit s → Shape A B T → Ductile s c ρ
    → lower_factor s A B T c ρ ≤ upper_factor s A B T c ρ
lower_below_upper s A B T c ρ u sh d =
    let k = over (lower_root s ρ) s in
    let k' = over (upper_root s ρ) s in
    let m = mean (weights A B T) k c in
    let m' = mean (weights A B T) k' c in
    let p = mean_positive A B T k c sh.b_positive u.positive d.cap_positive in
    let below : AtMost m m' = mean_rises (weights A B T) k k' c (mul-le-mul_right s (roots_ordered s c ρ u d)) in
    rw (
      lower_is_mean s A B T c ρ u.positive sh.a_positive sh.b_positive d.cap_positive,
      upper_is_mean s A B T c ρ u.positive sh.a_positive sh.b_positive d.cap_positive,
    )
    (le_trans (down_most (s * m.num) m.den (up_in s m) p (up_law (s * m.num) m.den p).0) (share_rises m m' s p p below))

-- ---- q and p
pub ratio_falls : (s Sa F F' : ℕ) → 0 < F → F ≤ F' → ratio s Sa F' ≤ ratio s Sa F
unfolding ratio
ratio_falls s Sa F F' p h = up_mono (s * Sa) F' (s * Sa) F p h (le_refl (s * Sa))

pub blended_rises : (l : Lines) → Meeting l → (Sa F F' : ℕ) → F ≤ F' → blended l Sa F ≤ blended l Sa F'
unfolding blended
blended_rises l m Sa F F' h =
    up_mono (bent l Sa F) 1000 (bent l Sa F') 1000 (omega arith) (omega arith) (bent_rises l m Sa F Sa F' (le_refl Sa) h)

-- p is the spectrum where the factor is at least the spectrum over the end of the first line
pub blended_full : (l : Lines) (Sa F : ℕ) → 1000 * Sa ≤ l.first * F → blended l Sa F ≡ Sa
unfolding blended
blended_full l Sa F h = ap (λ (z : ℕ). up z 1000) (bent_first l Sa F h) ∙ up_exact Sa 1000 (omega arith)
