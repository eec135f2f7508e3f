-- A job, a shear call and a distribution are given the first refusal that applies, in the order in which they are judged (`order`), and so 'the lowest
-- number that applies .., at its lowest place': on a site the first number is the lowest; in the Basin it is, but for 18, which is given before 8 to 12; of
-- the distribution it is. Where both hazard levels have one pair of near-fault factors, 6 is at place 1 or 2.
-- Assumes nothing.
use mathlib.Core.Path.{◌≡◌}
use mathlib.Core.List.{List}
use mathlib.Core.Logic.{◌⊎◌}
use Prim.Native.Nat.{ℕ, ◌≤◌}
use native.Mathlib.Omega.{arith}
use Rattle.limits.specs.declared.frame.FrameValues.{FrameValues}
use Rattle.limits.specs.declared.ground.GroundValues.{GroundValues}
use Rattle.limits.specs.declared.ground.GroundValues.TheVariants.{Site, Basin}
use Rattle.limits.specs.declared.site.SiteValues.{SiteValues}
use Rattle.limits.specs.Applies.{OutOf, na_design, LevelsApply, BuildingApplies, HandedApplies, GivenApplies, of_ground}
use Rattle.limits.specs.Applies.{JobApplies, ShearCallApplies, DistributionApplies, of_levels, of_handed}
use Rattle.limits.specs.Building.{judged_building}
use Rattle.limits.specs.FirstRefusal.{FirstRefusal}
use Rattle.limits.specs.Handed.{judged_handed}
use Rattle.limits.specs.Judging.{judged_job, judged_shear_call, judged_distribution}
use Rattle.limits.specs.Levels.{judged_levels}
use Rattle.limits.specs.Outcome.{Outcome, refused}
use Rattle.limits.proofs.Ascending.{lowest_first, lowest_or_zone, lowest_handed}
use Rattle.limits.proofs.BuildingStage.{building_up_to, building_stops, building_told}
use Rattle.limits.proofs.First.{first_refusal}
use Rattle.limits.proofs.GivenStage.{given_first}
use Rattle.limits.proofs.HandedStage.{handed_later, handed_up_to, handed_stops, handed_told}
use Rattle.limits.proofs.LevelsStage.{levels_up_to, levels_stop}
use Rattle.limits.proofs.Numbers.{numbered, numbered_basin, numbered_distribution}
use Rattle.limits.proofs.Places.{one_pair_place}
use Rattle.limits.proofs.Precedence.{Stops, UpTo, both_up_to, up_to_more, up_to_yields, first_stops, later_stops}
use Rattle.limits.proofs.Refusing.{levels_told}
use Rattle.limits.proofs.Told.{Told, then_told, told_as}

-- ---- each call
pub job_first : (G : GroundValues) (f : FrameValues) (ws hs : List ℕ) (room : ℕ)
    → FirstRefusal (JobApplies G f ws hs room) (judged_job G f ws hs room)
unfolding judged_job
job_first G f ws hs room =
    given_first (LevelsApply ws hs room) (judged_levels ws hs room) (levels_up_to ws hs room) (levels_stop ws hs room) (levels_told ws hs room) G f

pub shear_call_first : (G : GroundValues) (f : FrameValues) (W h : ℕ) → FirstRefusal (ShearCallApplies G f W h) (judged_shear_call G f W h)
unfolding judged_shear_call
shear_call_first G f W h =
    given_first (BuildingApplies W h) (judged_building W h) (building_up_to W h) (building_stops W h) (building_told W h) G f

module _ (v t : ℕ) (ws hs : List ℕ) (room : ℕ) where
  abbrev A : ℕ → ℕ → Type 0
  A = DistributionApplies v t ws hs room

  pub distribution_up_to : UpTo 20 (judged_distribution v t ws hs room)
  unfolding judged_distribution
  distribution_up_to =
      both_up_to 20 (judged_levels ws hs room) (judged_handed v t)
      (up_to_more 4 20 (judged_levels ws hs room) (levels_up_to ws hs room) (omega arith)) (handed_up_to v t)

  pub distribution_stops : (n q : ℕ) → A n q → Stops n q (judged_distribution v t ws hs room)
  unfolding judged_distribution
  distribution_stops n q (of_levels a) = first_stops n q (judged_levels ws hs room) (judged_handed v t) (levels_stop ws hs room n q a)
  distribution_stops n q (of_handed a) =
      later_stops n q (judged_levels ws hs room) (judged_handed v t)
      (up_to_yields 4 n q (judged_levels ws hs room) (levels_up_to ws hs room) (handed_later v t n q a))
      (λ _. handed_stops v t n q a)

  pub distribution_told : Told A (judged_distribution v t ws hs room)
  unfolding judged_distribution
  distribution_told =
      then_told A (judged_levels ws hs room) (judged_handed v t)
      (told_as (LevelsApply ws hs room) A (λ n p. of_levels) (judged_levels ws hs room) (levels_told ws hs room))
      (λ _. told_as (HandedApplies v t) A (λ n p. of_handed) (judged_handed v t) (handed_told v t))

  pub distribution_first : FirstRefusal A (judged_distribution v t ws hs room)
  distribution_first = first_refusal A (judged_distribution v t ws hs room) distribution_stops distribution_told

-- ---- which number that is, of any outcome that gives the first refusal: of a ground and a frame after a first judgment of numbers 1 to 4
module _
    (F : ℕ → ℕ → Type 0) (low : (n p : ℕ) → F n p → (1 ≤ n) × (n ≤ 4)) (f : FrameValues)
    {X : Type 0} (o : Outcome X) (n p m q : ℕ) (e : o ≡ refused n p)
  where
    pub lowest_number : (s : SiteValues) → FirstRefusal (GivenApplies F (Site s) f) o → GivenApplies F (Site s) f m q → n ≤ m
    lowest_number s h a =
        let given = numbered F low f (h.refused_applies n p e) in
        let other = numbered F low f a in
        lowest_first n m (omega arith) (omega arith) (h.first_number n p m q e a)

    pub lowest_in_basin : (z : ℕ) → FirstRefusal (GivenApplies F (Basin z) f) o → GivenApplies F (Basin z) f m q
        → (n ≤ m) ⊎ ((n ≡ 18) × (8 ≤ m))
    lowest_in_basin z h a =
        lowest_or_zone n m (h.first_number n p m q e a) (numbered_basin F low f (h.refused_applies n p e)) (numbered_basin F low f a)

-- and of the distribution
pub lowest_distributed : (v t : ℕ) (ws hs : List ℕ) (room : ℕ) {X : Type 0} (o : Outcome X) (n p m q : ℕ) → o ≡ refused n p
    → FirstRefusal (DistributionApplies v t ws hs room) o → DistributionApplies v t ws hs room m q → n ≤ m
lowest_distributed v t ws hs room o n p m q e h a =
    lowest_handed n m (h.first_number n p m q e a) (numbered_distribution (h.refused_applies n p e)) (numbered_distribution a)

-- ---- on a site with one pair of near-fault factors for both hazard levels, 6 is given at place 1 or 2; where N_A is out of its range, at 1
module _ (s : SiteValues) (f : FrameValues) (ws hs : List ℕ) (room p : ℕ) (e : judged_job (Site s) f ws hs room ≡ refused 6 p) where
  pub one_pair_lowest : s.nam ≡ s.nad → s.nvm ≡ s.nvd → (1 ≤ p) × (p ≤ 2)
  one_pair_lowest a b =
      let h = job_first (Site s) f ws hs room in
      let q = one_pair_place s a b (h.refused_applies 6 p e) in
      let l = h.lowest_place 6 p q.0 e q.1.1 in
      (l.0, omega (arith, l.1, q.1.0))

  pub na_lowest : OutOf 100 150 s.nad → p ≡ 1
  na_lowest o = let l = (job_first (Site s) f ws hs room).lowest_place 6 p 0 e (of_ground (na_design o)) in omega arith
