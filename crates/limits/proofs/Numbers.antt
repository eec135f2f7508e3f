-- Which numbers refusals have: 1 to 4 of levels and of a building, 5 to 7 of a site, 18 of a zone, 8 to 12 of a frame, 19 and 20 of what is handed in.
-- So of a ground and a frame after any first judgment of numbers 1 to 4, of the distribution, of a row of a district and of a district: 22 at 0.
-- Assumes nothing.
use mathlib.Core.Path.{◌≡◌, refl}
use mathlib.Core.List.{List}
use mathlib.Core.Logic.{inl, inr, ⊎_elim}
use Prim.Native.Nat.{ℕ, ◌≤◌}
use native.Mathlib.Omega.{arith}
use Rattle.limits.specs.declared.frame.FrameValues.{FrameValues}
use Rattle.limits.specs.declared.ground.GroundValues.{GroundValues}
use Rattle.limits.specs.declared.ground.GroundValues.TheVariants.{Site, Basin}
use Rattle.limits.specs.declared.site.SiteValues.{SiteValues}
use Rattle.limits.specs.Applies.{count, lists, buffer, weight, height, rising, LevelsApply, of_count, of_lengths, of_weights, of_heights}
use Rattle.limits.specs.Applies.{SiteApplies, ss_design, s1_design, ss_mce, s1_mce, na_design, nv_design, na_mce, nv_mce, class, zone}
use Rattle.limits.specs.Applies.{FrameApplies, r, i, alpha, kind, period, BuildingApplies, total, top}
use Rattle.limits.specs.Applies.{HandedApplies, base_shear, handed_period, GivenApplies, of_first, of_ground, of_frame}
use Rattle.limits.specs.Applies.{DistributionApplies, of_levels, of_handed}
use Rattle.limits.specs.Applies.{outside, of_stretch, of_own_levels, RowApplies, DistrictApplies, jobs_many, store_lists, row_buffer}
use Rattle.limits.specs.Order.{InOrder}
use Rattle.limits.proofs.Ascending.{OfBasin, OfDistribution}
use Rattle.limits.proofs.InOrder.{in_order}

-- ---- of each part
pub numbered_levels : {ws hs : List ℕ} {room n p : ℕ} → LevelsApply ws hs room n p → (1 ≤ n) × (n ≤ 4)
numbered_levels (of_count (count o)) = omega arith
numbered_levels (of_lengths (lists o)) = omega arith
numbered_levels (of_lengths (buffer o)) = omega arith
numbered_levels (of_weights (weight x l o)) = omega arith
numbered_levels (of_heights (height x l o)) = omega arith
numbered_levels (of_heights (rising x l o)) = omega arith

pub numbered_building : {W h n p : ℕ} → BuildingApplies W h n p → (1 ≤ n) × (n ≤ 4)
numbered_building (total o) = omega arith
numbered_building (top o) = omega arith

pub numbered_site : {s : SiteValues} {n p : ℕ} → SiteApplies s n p → (5 ≤ n) × (n ≤ 7)
numbered_site (ss_design o) = omega arith
numbered_site (s1_design o) = omega arith
numbered_site (ss_mce o) = omega arith
numbered_site (s1_mce o) = omega arith
numbered_site (na_design o) = omega arith
numbered_site (nv_design o) = omega arith
numbered_site (na_mce o) = omega arith
numbered_site (nv_mce o) = omega arith
numbered_site (class o) = omega arith

pub numbered_frame : {f : FrameValues} {n p : ℕ} → FrameApplies f n p → (8 ≤ n) × (n ≤ 12)
numbered_frame (r o) = omega arith
numbered_frame (i o) = omega arith
numbered_frame (alpha o) = omega arith
numbered_frame (kind o) = omega arith
numbered_frame (period z o) = omega arith

numbered_handed : {v t n p : ℕ} → HandedApplies v t n p → (19 ≤ n) × (n ≤ 20)
numbered_handed (base_shear o) = omega arith
numbered_handed (handed_period o) = omega arith

-- ---- of a ground and a frame after a first judgment of numbers 1 to 4
module _ (F : ℕ → ℕ → Type 0) (low : (n p : ℕ) → F n p → (1 ≤ n) × (n ≤ 4)) (f : FrameValues) where
  pub numbered : {s : SiteValues} {n p : ℕ} → GivenApplies F (Site s) f n p → (1 ≤ n) × (n ≤ 12)
  numbered {n = n} {p = p} (of_first a) = let h = low n p a in omega arith
  numbered (of_ground a) = let h = numbered_site a in omega arith
  numbered (of_frame a) = let h = numbered_frame a in omega arith

  pub numbered_basin : {z n p : ℕ} → GivenApplies F (Basin z) f n p → OfBasin n
  numbered_basin {n = n} {p = p} (of_first a) = inl (low n p a)
  numbered_basin (of_ground (zone o)) = inr (inl refl)
  numbered_basin (of_frame a) = inr (inr (numbered_frame a))

  pub at_most_18 : (G : GroundValues) {n p : ℕ} → GivenApplies F G f n p → (1 ≤ n) × (n ≤ 18)
  at_most_18 (Site s) a = let h = numbered a in omega arith
  at_most_18 (Basin z) {n = n} a =
      ⊎_elim (λ h. let k : (1 ≤ n) × (n ≤ 18) = omega arith in k)
      (λ h. ⊎_elim (λ e. let k : (1 ≤ n) × (n ≤ 18) = omega arith in k) (λ l. let k : (1 ≤ n) × (n ≤ 18) = omega arith in k) h)
      (numbered_basin a)

  -- 17, of a sheet, is none of them
  pub never_17 : (G : GroundValues) {n p : ℕ} → GivenApplies F G f n p → n ≡ 17 → ⊥
  never_17 (Site s) a e = let h = numbered a in omega arith
  never_17 (Basin z) a e = ⊎_elim (λ h. omega arith) (λ h. ⊎_elim (λ k. omega arith) (λ k. omega arith) h) (numbered_basin a)

  -- every number that applies stands in the order
  pub applies_in_order : (G : GroundValues) {n p : ℕ} → GivenApplies F G f n p → InOrder n
  applies_in_order G {n = n} a = in_order n (let h = at_most_18 G a in omega arith)

-- ---- of the distribution
pub numbered_distribution : {v t : ℕ} {ws hs : List ℕ} {room n p : ℕ} → DistributionApplies v t ws hs room n p → OfDistribution n
numbered_distribution (of_levels a) = inl (numbered_levels a)
numbered_distribution (of_handed a) = inr (numbered_handed a)

pub distribution_in_order : {v t : ℕ} {ws hs : List ℕ} {room n p : ℕ} → DistributionApplies v t ws hs room n p → InOrder n
distribution_in_order {n = n} a = ⊎_elim (λ k. in_order n (omega arith)) (λ k. in_order n (omega arith)) (numbered_distribution a)

-- ---- of a row of a district, and of a whole district
pub numbered_row : {G : GroundValues} {f : FrameValues} {start count : ℕ} {ws hs : List ℕ} {n p : ℕ} → RowApplies G f start count ws hs n p
    → (1 ≤ n) × (n ≤ 21)
numbered_row (of_first (of_stretch (outside o))) = omega arith
numbered_row (of_first (of_own_levels l a)) = let h = numbered_levels a in omega arith
numbered_row {G = Site s} (of_ground a) = let h = numbered_site a in omega arith
numbered_row {G = Basin z} (of_ground (zone o)) = omega arith
numbered_row (of_frame a) = let h = numbered_frame a in omega arith

pub row_in_order : {G : GroundValues} {f : FrameValues} {start count : ℕ} {ws hs : List ℕ} {n p : ℕ} → RowApplies G f start count ws hs n p → InOrder n
row_in_order {n = n} a = in_order n (let h = numbered_row a in omega arith)

pub district_is_22 : {jobs weights heights rows n p : ℕ} → DistrictApplies jobs weights heights rows n p → (n ≡ 22) × (p ≡ 0)
district_is_22 (jobs_many o) = (refl, refl)
district_is_22 (store_lists o) = (refl, refl)
district_is_22 (row_buffer o) = (refl, refl)
