-- The answer of torsion: what it says of the judgment; that no second outcome meets its contract; that it gives the first refusal, which has the lowest
-- number that applies; and where it is taken, how the factor lies to the exact one.
-- Assumes nothing.
use mathlib.Core.Path.{◌≡◌, refl, sym, ap, subst, ◌∙◌}
use mathlib.Core.Logic.{◌⊎◌}
use Prim.Native.Nat.{ℕ, ◌≤◌}
use Rattle.std.specs.Prelude.{Ok, Err}
use Rattle.whole.specs.Fraction.{over, AtMost, Less, plus}
use Rattle.limits.specs.declared.refusal.Refusal.{Refusal}
use Rattle.limits.specs.DriftAllowed.{AllowedFloor}
use Rattle.limits.specs.DriftApplies.{FloorApplies}
use Rattle.limits.specs.FirstRefusal.{FirstRefusal}
use Rattle.limits.specs.Floor.{judged_floor}
use Rattle.limits.specs.Outcome.{Outcome, Answer, accepted, refused, Done, outcome, ◌>>◌}
use Rattle.limits.proofs.AcceptedDrift.{floor_allowed}
use Rattle.limits.proofs.DriftNumbers.{numbered_floor, lowest_of_drift}
use Rattle.limits.proofs.FloorStage as judged
use Rattle.limits.proofs.First.{first_then_value}
use Rattle.limits.proofs.Passed.{one_value, then_passed}
use Rattle.limits.proofs.Unique.{one_answer}
use Rattle.drift.specs.Torsion.{amplification, torsion_factor, torsion_of, TorsionAnswers}
use Rattle.drift.proofs.Factor.{factor_most, factor_least, factor_covers, factor_near}

module _ (l a : ℕ) where
  -- ---- no second outcome
  pub one_torsion : (r s : Answer ℕ) → TorsionAnswers l a r → TorsionAnswers l a s → r ≡ s
  one_torsion r s p q = one_answer p q

  -- ---- once the judgment has answered
  pub refused_torsion : {r : Refusal} → judged_floor l a ≡ refused r.number r.place → TorsionAnswers l a (Err r)
  unfolding torsion_of
  refused_torsion e = sym (ap (λ (o : Outcome Done). o >> accepted (torsion_factor l a)) e)

  pub taken_torsion : {k : ℕ} → judged_floor l a ≡ accepted tt → k ≡ torsion_factor l a → TorsionAnswers l a (Ok k)
  unfolding torsion_of
  taken_torsion e f = ap accepted f ∙ sym (ap (λ (o : Outcome Done). o >> accepted (torsion_factor l a)) e)

  -- ---- the first refusal
  pub torsion_first : (r : Answer ℕ) → TorsionAnswers l a r → FirstRefusal (FloorApplies l a) (outcome r)
  unfolding torsion_of
  torsion_first r e =
      subst (FirstRefusal (FloorApplies l a)) (sym e)
      (first_then_value (FloorApplies l a) (judged_floor l a) (torsion_factor l a) (judged.floor_first l a))

  -- ---- where it is taken
  module _ (k : ℕ) (e : TorsionAnswers l a (Ok k)) where
    both : (judged_floor l a ≡ accepted tt) × (accepted (torsion_factor l a) ≡ accepted k)
    unfolding torsion_of
    both = then_passed (judged_floor l a) (accepted (torsion_factor l a)) (sym e)

    pub taken_allowed : AllowedFloor l a
    taken_allowed = floor_allowed l a both.0

    pub factor_is : k ≡ torsion_factor l a
    factor_is = sym (one_value both.1)

    pub taken_most : k ≤ 3_000
    taken_most = rw factor_is (factor_most l a)

    pub taken_least : 695 ≤ k
    taken_least = rw factor_is (factor_least l a taken_allowed.average.0 taken_allowed.average.1)

    -- never below the exact factor, or 3.0, which is enough
    pub taken_covers : AtMost (amplification l a) (over k 1_000) ⊎ (k ≡ 3_000)
    taken_covers = rw factor_is (factor_covers l a taken_allowed.average.0)

    -- and less than a thousandth above it
    pub taken_near : Less (over k 1_000) (plus (amplification l a) (over 1 1_000))
    taken_near = rw factor_is (factor_near l a taken_allowed.average.0)

-- ---- the first refusal is the lowest number that applies
pub lowest_torsion : (l a : ℕ) (r : Refusal) → TorsionAnswers l a (Err r) → (k q : ℕ) → FloorApplies l a k q → r.number ≤ k
lowest_torsion l a r e k q w =
    lowest_of_drift (FloorApplies l a) (λ n p. numbered_floor) (outcome (Err r)) r.number r.place k q refl
    (torsion_first l a (Err r) e) w
