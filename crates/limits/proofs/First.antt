-- What makes an outcome o the first refusal, whatever A says when one applies: each refusal that applies stops o no later than at itself, and each
-- that o gives applies. What only makes something of the value that o gives, gives the same refusals.
-- Assumes nothing.
use mathlib.Core.Path.{◌≡◌, refl, sym, subst}
use Prim.Native.Nat.{ℕ, ◌+◌}
use Rattle.limits.specs.FirstRefusal.{FirstRefusal}
use Rattle.limits.specs.Outcome.{Outcome, accepted, refused, Done, ◌>>=◌, ◌>>◌}
use Rattle.limits.proofs.Passed.{never, one_refusal}
use Rattle.limits.proofs.Precedence.{Stops, stopped_number, stopped_place}
use Rattle.limits.proofs.Told.{Told, given_applies, accepted_unless}

pub first_refusal : {X : Type 0} (A : ℕ → ℕ → Type 0) (o : Outcome X) → ((n q : ℕ) → A n q → Stops n q o) → Told A o → FirstRefusal A o
first_refusal A o stops told =
    record {
      refused_applies = given_applies A o told;
      first_number = λ n p m q e a. stopped_number m q n p (subst (Stops m q) e (stops m q a));
      lowest_place = λ n p i e a. stopped_place n i p (subst (Stops n (1 + i)) e (stops n (1 + i) a));
      accepted_unless_refused = accepted_unless A o told;
      accepted_none = λ x n p e a. subst (Stops n p) e (stops n p a);
    }

pub first_of_value : {X Y : Type 0} (A : ℕ → ℕ → Type 0) (o : Outcome X) (f : X → Y) → FirstRefusal A o
    → FirstRefusal A (o >>= λ x. accepted (f x))
first_of_value A (accepted x) f h =
    record {
      refused_applies = λ n p e. absurd (never (sym e));
      first_number = λ n p m q e a. absurd (never (sym e));
      lowest_place = λ n p i e a. absurd (never (sym e));
      accepted_unless_refused = λ none. (f x, refl);
      accepted_none = λ y n p e a. h.accepted_none x n p refl a;
    }
first_of_value A (refused k l) f h =
    record {
      refused_applies = λ n p e. h.refused_applies n p (same e);
      first_number = λ n p m q e a. h.first_number n p m q (same e) a;
      lowest_place = λ n p i e a. h.lowest_place n p i (same e) a;
      accepted_unless_refused = λ none. absurd (none k l (h.refused_applies k l refl));
      accepted_none = λ y n p e a. absurd (never e);
    }
  where
    same : {Y X : Type 0} {n p : ℕ} → ◌≡◌ {A = Outcome Y} (refused k l) (refused n p) → ◌≡◌ {A = Outcome X} (refused k l) (refused n p)
    same e = let r = one_refusal e in rw (r.0, r.1)

pub first_then_value : {Y : Type 0} (A : ℕ → ℕ → Type 0) (o : Outcome Done) (y : Y) → FirstRefusal A o → FirstRefusal A (o >> accepted y)
first_then_value A o y h = subst (FirstRefusal A) (sym (as_value o)) (first_of_value A o (λ _. y) h)
  where
    as_value : (q : Outcome Done) → (q >> accepted y) ≡ (q >>= λ _. accepted y)
    as_value (accepted u) = refl
    as_value (refused n p) = refl
