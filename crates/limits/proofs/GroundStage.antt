-- The ground of a job, numbers 5 to 7 of a site or 18 of a zone: where one of them applies, the judgment of the ground is that refusal or
-- one that comes no later.
-- Assumes nothing.
use mathlib.Core.Path.{refl}
use mathlib.Core.List.{[], ◌∷◌}
use mathlib.Core.Logic.{inr, inl}
use Prim.Native.Nat.{ℕ}
use native.Mathlib.Omega.{arith}
use lib.Dec.{eqb}
use borrow.Author.Tests.{ne_eqb}
use Rattle.whole.proofs.Choice.{by_test}
use Rattle.limits.specs.declared.ground.GroundValues.{GroundValues}
use Rattle.limits.specs.declared.ground.GroundValues.TheVariants.{Site, Basin}
use Rattle.limits.specs.Applies.{NotListed, zone, GroundApplies}
use Rattle.limits.specs.Ground.{judged_ground}
use Rattle.limits.specs.Order.{Before}
use Rattle.limits.specs.Site.{judged_site}
use Rattle.limits.specs.Zone.{judged_zone}
use Rattle.limits.proofs.Precedence.{Stops, UpTo, bound_up_to, bound_stops}
use Rattle.limits.proofs.SiteStage.{site_up_to, site_stops, site_later}

module _ (z : ℕ) where
  zone_up_to : UpTo 7 (judged_zone z)
  unfolding judged_zone
  zone_up_to =
      by_test (UpTo 7) (eqb z 1) _ _ (λ _. tt)
      (λ _. by_test (UpTo 7) (eqb z 2) _ _ (λ _. tt)
      (λ _. by_test (UpTo 7) (eqb z 3) _ _ (λ _. tt)
      (λ _. by_test (UpTo 7) (eqb z 4) _ _ (λ _. tt) (λ _. omega arith))))

  zone_stops : NotListed (1 ∷ 2 ∷ 3 ∷ 4 ∷ []) z → Stops 18 0 (judged_zone z)
  unfolding judged_zone
  zone_stops o =
      rw (ne_eqb z 1 o.0, ne_eqb z 2 o.1.0, ne_eqb z 3 o.1.1.0, ne_eqb z 4 o.1.1.1.0) (inr (refl, inl refl))

pub ground_up_to : (G : GroundValues) → UpTo 7 (judged_ground G)
ground_up_to (Site s) = bound_up_to 7 (judged_site s) _ (site_up_to s) (λ _. tt)
ground_up_to (Basin z) = bound_up_to 7 (judged_zone z) _ (zone_up_to z) (λ _. tt)

-- where one applies, and which numbers they are
pub ground_stops : (G : GroundValues) (n q : ℕ) → GroundApplies G n q → Stops n q (judged_ground G)
ground_stops (Site s) n q a = bound_stops n q (judged_site s) _ (site_stops s n q a)
ground_stops (Basin z) n q (zone o) = bound_stops 18 0 (judged_zone z) _ (zone_stops z o)

pub ground_later : (G : GroundValues) (n q : ℕ) → GroundApplies G n q → Before 4 n
ground_later (Site s) n q a = site_later s n q a
ground_later (Basin z) n q (zone o) = omega arith
