-- Which refusals name a place: of a job 3 to 6 do, the others have place 0; of the shear call 5 and 6 do, and no other number; of the distribution 3 and
-- 4, as 5 and 6 are none of its numbers; of a row of a district 3 to 6, as of a job. Where both hazard levels have one pair of near-fault factors, 6 applies at place 1 or 2 wherever it applies.
-- Assumes nothing.
use mathlib.Core.Path.{◌≡◌, refl, subst}
use mathlib.Core.List.{List}
use mathlib.Core.Logic.{◌⊎◌, inl, inr}
use Prim.Native.Nat.{ℕ, ◌+◌, ◌≤◌, ◌<◌}
use native.Mathlib.Omega.{arith}
use Rattle.limits.specs.declared.frame.FrameValues.{FrameValues}
use Rattle.limits.specs.declared.ground.GroundValues.{GroundValues}
use Rattle.limits.specs.declared.ground.GroundValues.TheVariants.{Site, Basin}
use Rattle.limits.specs.declared.site.SiteValues.{SiteValues}
use Rattle.limits.specs.Applies.{OutOf, count, lists, buffer, weight, height, rising, LevelsApply, of_count, of_lengths, of_weights, of_heights}
use Rattle.limits.specs.Applies.{SiteApplies, ss_design, s1_design, ss_mce, s1_mce, na_design, nv_design, na_mce, nv_mce, class, zone}
use Rattle.limits.specs.Applies.{GroundApplies, FrameApplies, r, i, alpha, kind, period, BuildingApplies, total, top}
use Rattle.limits.specs.Applies.{base_shear, handed_period, of_first, of_ground, of_frame}
use Rattle.limits.specs.Applies.{JobApplies, ShearCallApplies, DistributionApplies, of_levels, of_handed}
use Rattle.limits.specs.Applies.{outside, of_stretch, of_own_levels, RowApplies}
use Rattle.limits.proofs.Numbers.{numbered_levels, numbered_site, numbered_frame}

-- the numbers from lo to hi name a place, the others have place 0
abbrev pub NamedIn : ℕ → ℕ → ℕ → ℕ → Type 0
NamedIn lo hi n p = ((lo ≤ n) × (n ≤ hi) × (1 ≤ p)) ⊎ (((n < lo) ⊎ (hi < n)) × (p ≡ 0))

-- ---- of each part
named_levels : {ws hs : List ℕ} {room n p : ℕ} → LevelsApply ws hs room n p → NamedIn 3 6 n p
named_levels (of_count (count o)) = inr (inl (omega arith), refl)
named_levels (of_lengths (lists o)) = inr (inl (omega arith), refl)
named_levels (of_lengths (buffer o)) = inr (inl (omega arith), refl)
named_levels (of_weights (weight x l o)) = inl (omega arith)
named_levels (of_heights (height x l o)) = inl (omega arith)
named_levels (of_heights (rising x l o)) = inl (omega arith)

named_building : {W h n p : ℕ} → BuildingApplies W h n p → NamedIn 5 6 n p
named_building (total o) = inr (inl (omega arith), refl)
named_building (top o) = inr (inl (omega arith), refl)

named_site : {s : SiteValues} {n p : ℕ} → SiteApplies s n p → NamedIn 5 6 n p
named_site (ss_design o) = inl (omega arith)
named_site (s1_design o) = inl (omega arith)
named_site (ss_mce o) = inl (omega arith)
named_site (s1_mce o) = inl (omega arith)
named_site (na_design o) = inl (omega arith)
named_site (nv_design o) = inl (omega arith)
named_site (na_mce o) = inl (omega arith)
named_site (nv_mce o) = inl (omega arith)
named_site (class o) = inr (inr (omega arith), refl)

named_ground : (G : GroundValues) {n p : ℕ} → GroundApplies G n p → NamedIn 5 6 n p
named_ground (Site s) a = named_site a
named_ground (Basin z) (zone o) = inr (inr (omega arith), refl)

named_frame : {f : FrameValues} {n p : ℕ} → FrameApplies f n p → NamedIn 5 6 n p
named_frame (r o) = inr (inr (omega arith), refl)
named_frame (i o) = inr (inr (omega arith), refl)
named_frame (alpha o) = inr (inr (omega arith), refl)
named_frame (kind o) = inr (inr (omega arith), refl)
named_frame (period z o) = inr (inr (omega arith), refl)

-- a number of 5 and above is named from 3 on where it is from 5 on
from_three : (n p : ℕ) → 5 ≤ n → NamedIn 5 6 n p → NamedIn 3 6 n p
from_three n p l (inl h) = inl (omega arith)
from_three n p l (inr (inl h, e)) = absurd (let z : ⊥ = omega arith in z)
from_three n p l (inr (inr h, e)) = inr (inr h, e)

five_ground : (G : GroundValues) (n p : ℕ) → GroundApplies G n p → 5 ≤ n
five_ground (Site s) n p a = (numbered_site a).0
five_ground (Basin z) n p (zone o) = omega arith

-- ---- of each call
pub named_job : {G : GroundValues} {f : FrameValues} {ws hs : List ℕ} {room n p : ℕ} → JobApplies G f ws hs room n p → NamedIn 3 6 n p
named_job (of_first a) = named_levels a
named_job {G = G} (of_ground a) = from_three _ _ (five_ground G _ _ a) (named_ground G a)
named_job (of_frame a) = from_three _ _ (let h = numbered_frame a in omega arith) (named_frame a)

pub named_call : {G : GroundValues} {f : FrameValues} {W h n p : ℕ} → ShearCallApplies G f W h n p → NamedIn 5 6 n p
named_call (of_first a) = named_building a
named_call {G = G} (of_ground a) = named_ground G a
named_call (of_frame a) = named_frame a

pub named_distribution : {v t : ℕ} {ws hs : List ℕ} {room n p : ℕ} → DistributionApplies v t ws hs room n p → NamedIn 3 6 n p
named_distribution (of_levels a) = named_levels a
named_distribution (of_handed (base_shear o)) = inr (inr (omega arith), refl)
named_distribution (of_handed (handed_period o)) = inr (inr (omega arith), refl)

pub named_row : {G : GroundValues} {f : FrameValues} {start count : ℕ} {ws hs : List ℕ} {n p : ℕ} → RowApplies G f start count ws hs n p
    → NamedIn 3 6 n p
named_row (of_first (of_stretch (outside o))) = inr (inr (omega arith), refl)
named_row (of_first (of_own_levels l a)) = named_levels a
named_row {G = G} (of_ground a) = from_three _ _ (five_ground G _ _ a) (named_ground G a)
named_row (of_frame a) = from_three _ _ (let h = numbered_frame a in omega arith) (named_frame a)

-- ---- where both hazard levels have one pair of near-fault factors
module _ (s : SiteValues) (na-same : s.nam ≡ s.nad) (nv-same : s.nvm ≡ s.nvd) where
  site_pair : {n p : ℕ} → n ≡ 6 → SiteApplies s n p → (i : ℕ) × ((i ≤ 1) × SiteApplies s 6 (1 + i))
  site_pair e (ss_design o) = absurd (let z : ⊥ = omega arith in z)
  site_pair e (s1_design o) = absurd (let z : ⊥ = omega arith in z)
  site_pair e (ss_mce o) = absurd (let z : ⊥ = omega arith in z)
  site_pair e (s1_mce o) = absurd (let z : ⊥ = omega arith in z)
  site_pair e (na_design o) = (0, (omega arith, na_design o))
  site_pair e (nv_design o) = (1, (omega arith, nv_design o))
  site_pair e (na_mce o) = (0, (omega arith, na_design (subst (OutOf 100 150) na-same o)))
  site_pair e (nv_mce o) = (1, (omega arith, nv_design (subst (OutOf 100 200) nv-same o)))
  site_pair e (class o) = absurd (let z : ⊥ = omega arith in z)

  pub one_pair_place : {f : FrameValues} {ws hs : List ℕ} {room p : ℕ} → JobApplies (Site s) f ws hs room 6 p
      → (i : ℕ) × ((i ≤ 1) × JobApplies (Site s) f ws hs room 6 (1 + i))
  one_pair_place (of_first a) = absurd (let h = numbered_levels a in let z : ⊥ = omega arith in z)
  one_pair_place (of_ground a) = let t = site_pair refl a in (t.0, (t.1.0, of_ground t.1.1))
  one_pair_place (of_frame a) = absurd (let h = numbered_frame a in let z : ⊥ = omega arith in z)
