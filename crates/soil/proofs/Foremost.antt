-- A log is given the first refusal that applies, in the order in which they are judged (`order`), and so 'the lowest number that applies .., at its
-- lowest place, but 14 at a layer of thickness 0 if there is one'.
-- Assumes nothing.
use mathlib.Core.Path.{◌≡◌, refl, sym, subst}
use mathlib.Core.Bool.{not}
use mathlib.Core.List.{List, [], ◌∷◌}
use mathlib.Core.Logic.{inl, inr, ⊎_elim}
use Prim.Native.Nat.{ℕ, zero, suc, ◌+◌, ◌≤◌, ◌<◌}
use native.Mathlib.Omega.{arith}
use lib.Dec.{eqb}
use lib.ListN.{length, get_or}
use borrow.Author.Tests.{eqb-true, ne_eqb, eq-eqb}
use Rattle.whole.specs.Cells.{sum}
use Rattle.whole.proofs.Choice.{by_test}
use Rattle.limits.specs.declared.class.Class.{Class}
use Rattle.limits.specs.FirstRefusal.{FirstRefusal}
use Rattle.limits.specs.Lengths.{same_length}
use Rattle.limits.specs.Order.{InOrder, Before}
use Rattle.limits.specs.Outcome.{Outcome, accepted, refused, require, ◌>>=◌, ◌>>◌, Answer, outcome}
use Rattle.limits.specs.Ranges.{within}
use Rattle.soil.specs.declared.class.ClassLimits.{ClassLimits}
use Rattle.soil.specs.Applies.{Allowed, measured, cohesive, cohesionless, soft_clay, Applies, lists, layers, thickness, depth, layer}
use Rattle.soil.specs.Class.{table3}
use Rattle.soil.specs.Log.{counted, thick, deep, judged_log, site_class, Answers}
use Rattle.soil.specs.Times.{judged_times, times}
use Rattle.soil.specs.Velocity.{measured as measured_at, by_rule, velocity, velocities}
use Rattle.limits.proofs.Passed.{require_passed}
use Rattle.soil.proofs.Refusing.{class_told}
use Rattle.soil.proofs.Sound.{log_sound}
use Rattle.limits.proofs.Ascending.{lowest_first}
use Rattle.limits.proofs.First.{first_refusal}
use Rattle.limits.proofs.InOrder.{in_order}
use Rattle.limits.proofs.Precedence.{Ahead, Stops, Yields, first_stops, later_stops, bound_stops, value_stops, both_yield, require_yields, require_stops, within_yields, within_stops}

-- ---- layers, one by one
module _ (n q : ℕ) where
  thick_yields : (p : ℕ) (es : List ℕ) → ((p : ℕ) → Ahead n q 14 p) → Yields n q (thick p es)
  unfolding thick
  thick_yields p [] a = tt
  thick_yields p (e ∷ es) a =
      both_yield n q (require (not (eqb e 0)) 14 p) (thick (p + 1) es)
      (require_yields n q (not (eqb e 0)) 14 p (a p)) (thick_yields (p + 1) es a)

  velocity_yields : (k x p : ℕ) → Ahead n q 15 p → Yields n q (velocity k x p)
  unfolding velocity measured_at by_rule
  velocity_yields k x p a =
      by_test (Yields n q) (eqb k 1) _ _ (λ _. both_yield n q (within 500 30_000 x 15 p) _ (within_yields n q 500 30_000 x 15 p a) tt)
      (λ _. by_test (Yields n q) (eqb k 2) _ _ (λ _. both_yield n q (within 2 25 x 15 p) _ (within_yields n q 2 25 x 15 p a) tt)
      (λ _. by_test (Yields n q) (eqb k 3) _ _ (λ _. both_yield n q (within 1 50 x 15 p) _ (within_yields n q 1 50 x 15 p a) tt)
      (λ _. by_test (Yields n q) (eqb k 4) _ _ (λ _. both_yield n q (within 1 400 x 15 p) _ (within_yields n q 1 400 x 15 p a) tt)
      (λ _. a))))

  velocity_stops : (k x p : ℕ) → (Allowed k x → ⊥) → Ahead n q 15 p → Stops n q (velocity k x p)
  unfolding velocity measured_at by_rule
  velocity_stops k x p w a =
      by_test (Stops n q) (eqb k 1) _ _
      (λ e. first_stops n q (within 500 30_000 x 15 p) _
      (within_stops n q 500 30_000 x 15 p (λ r. w (measured (eqb-true k 1 e) r.0 r.1)) a))
      (λ _. by_test (Stops n q) (eqb k 2) _ _
      (λ e. first_stops n q (within 2 25 x 15 p) _
      (within_stops n q 2 25 x 15 p (λ r. w (cohesive (eqb-true k 2 e) r.0 r.1)) a))
      (λ _. by_test (Stops n q) (eqb k 3) _ _
      (λ e. first_stops n q (within 1 50 x 15 p) _
      (within_stops n q 1 50 x 15 p (λ r. w (cohesionless (eqb-true k 3 e) r.0 r.1)) a))
      (λ _. by_test (Stops n q) (eqb k 4) _ _
      (λ e. first_stops n q (within 1 400 x 15 p) _
      (within_stops n q 1 400 x 15 p (λ r. w (soft_clay (eqb-true k 4 e) r.0 r.1)) a))
      (λ _. a))))

thick_stops : (q p : ℕ) (es : List ℕ) (j : ℕ) → 1 ≤ p → q ≡ p + j → j < length es → get_or es j 0 ≡ 0 → Stops 14 q (thick p es)
unfolding thick
thick_stops q p [] j h e l z = absurd (omega arith)
thick_stops q p (d ∷ es) zero h e l z =
    first_stops 14 q (require (not (eqb d 0)) 14 p) (thick (p + 1) es)
    (require_stops 14 q (not (eqb d 0)) 14 p (rw (eq-eqb d 0 z)) (inr (refl, inr (h, omega arith))))
thick_stops q p (d ∷ es) (suc j) h e l z =
    later_stops 14 q (require (not (eqb d 0)) 14 p) (thick (p + 1) es)
    (require_yields 14 q (not (eqb d 0)) 14 p (inr (refl, inr (h, omega arith))))
    (λ _. thick_stops q (p + 1) es j (omega arith) (omega arith) (omega arith) z)

velocities_stops : (q p : ℕ) (ls ys : List ℕ) (j : ℕ) → 1 ≤ p → q ≡ p + j → j < length ls → length ys ≡ length ls
    → (Allowed (get_or ls j 0) (get_or ys j 0) → ⊥) → Stops 15 q (velocities p ls ys)
unfolding velocities
velocities_stops q p [] ys j h e l s w = absurd (omega arith)
velocities_stops q p (k ∷ ls) [] j h e l s w = absurd (omega arith)
velocities_stops q p (k ∷ ls) (x ∷ ys) zero h e l s w =
    bound_stops 15 q (velocity k x p) _ (velocity_stops 15 q k x p w (inr (refl, inr (h, omega arith))))
velocities_stops q p (k ∷ ls) (x ∷ ys) (suc j) h e l s w =
    value_stops 15 q (velocity k x p) _ (velocity_yields 15 q k x p (inr (refl, inr (h, omega arith))))
    (λ v. bound_stops 15 q (velocities (p + 1) ls ys) _
    (velocities_stops q (p + 1) ls ys j (omega arith) (omega arith) (omega arith) (omega arith) w))

-- ---- all stages
module _ (ds ks xs : List ℕ) where
  two : (n q : ℕ) → Before 2 n → (r : ℕ) → Yields n q (same_length (length ds) r)
  two n q h r = require_yields n q (eqb r (length ds)) 2 0 (inl h)

  log_yields : (q : ℕ) → Yields 15 q (judged_log ds (length ks) (length xs))
  unfolding judged_log deep
  log_yields q =
      both_yield 15 q (same_length (length ds) (length ks)) _ (two 15 q (omega arith) (length ks))
      (both_yield 15 q (same_length (length ds) (length xs)) _ (two 15 q (omega arith) (length xs))
      (both_yield 15 q (counted (length ds)) _ (within_yields 15 q 1 40 (length ds) 13 0 (inl (omega arith)))
      (both_yield 15 q (thick 1 ds) _ (thick_yields 15 q 1 ds (λ _. inl (omega arith)))
      (require_yields 15 q (eqb (sum ds) 3_000) 14 0 (inl (omega arith))))))

  -- after 2 and 13
  counted_stops : (q : ℕ) → Stops 14 q (thick 1 ds >> deep ds) → Stops 14 q (judged_log ds (length ks) (length xs))
  unfolding judged_log
  counted_stops q s =
      later_stops 14 q (same_length (length ds) (length ks)) _ (two 14 q (omega arith) (length ks))
      (λ _. later_stops 14 q (same_length (length ds) (length xs)) _ (two 14 q (omega arith) (length xs))
      (λ _. later_stops 14 q (counted (length ds)) _ (within_yields 14 q 1 40 (length ds) 13 0 (inl (omega arith))) (λ _. s)))

  stops : (l : ClassLimits) (n q : ℕ) → Applies ds ks xs n q → Stops n q (site_class l ds ks xs)
  unfolding site_class judged_log deep judged_times
  stops l n q (lists f) =
      first_stops 2 0 (judged_log ds (length ks) (length xs)) _
      (later_stops 2 0 (same_length (length ds) (length ks)) _ (require_yields 2 0 (eqb (length ks) (length ds)) 2 0 (inr (refl, inl refl)))
      (λ e. first_stops 2 0 (same_length (length ds) (length xs)) _
      (require_stops 2 0 (eqb (length xs) (length ds)) 2 0
      (ne_eqb _ _ (λ h. f (eqb-true _ _ (require_passed _ 2 0 e), h))) (inr (refl, inl refl)))))
  stops l n q (layers o) =
      first_stops 13 0 (judged_log ds (length ks) (length xs)) _
      (later_stops 13 0 (same_length (length ds) (length ks)) _ (two 13 0 (omega arith) (length ks))
      (λ _. later_stops 13 0 (same_length (length ds) (length xs)) _ (two 13 0 (omega arith) (length xs))
      (λ _. first_stops 13 0 (counted (length ds)) _
      (within_stops 13 0 1 40 (length ds) 13 0 (λ r. ⊎_elim (λ e. omega arith) (λ e. omega arith) o) (inr (refl, inl refl))))))
  stops l n q (thickness i h z) =
      first_stops 14 (1 + i) (judged_log ds (length ks) (length xs)) _
      (counted_stops (1 + i) (first_stops 14 (1 + i) (thick 1 ds) (deep ds) (thick_stops (1 + i) 1 ds i (omega arith) refl h z)))
  stops l n q (depth f) =
      first_stops 14 0 (judged_log ds (length ks) (length xs)) _
      (counted_stops 0
      (later_stops 14 0 (thick 1 ds) (deep ds) (thick_yields 14 0 1 ds (λ _. inr (refl, inl refl)))
      (λ _. require_stops 14 0 (eqb (sum ds) 3_000) 14 0 (ne_eqb _ _ f) (inr (refl, inl refl)))))
  stops l n q (layer i h w) =
      later_stops 15 (1 + i) (judged_log ds (length ks) (length xs)) _ (log_yields (1 + i))
      (λ e. let s = log_sound ds (length ks) (length xs) e in
      bound_stops 15 (1 + i) (velocities 1 ks xs >>= λ vs. accepted (times ds vs)) _
      (bound_stops 15 (1 + i) (velocities 1 ks xs) _
      (velocities_stops (1 + i) 1 ks xs i (omega arith) refl (omega arith) (omega arith) w)))

numbered : {ds ks xs : List ℕ} {n p : ℕ} → Applies ds ks xs n p → (1 ≤ n) × (n ≤ 15)
numbered (lists o) = omega arith
numbered (layers o) = omega arith
numbered (thickness i h z) = omega arith
numbered (depth o) = omega arith
numbered (layer i h w) = omega arith

-- every number that applies stands in the order
pub applies_in_order : (ds ks xs : List ℕ) (n p : ℕ) → Applies ds ks xs n p → InOrder n
applies_in_order ds ks xs n p a = in_order n (let h = numbered a in omega arith)

-- ---- of a log, by any class limits
pub class_first : (l : ClassLimits) (ds ks xs : List ℕ) → FirstRefusal (Applies ds ks xs) (site_class l ds ks xs)
class_first l ds ks xs = first_refusal (Applies ds ks xs) (site_class l ds ks xs) (stops ds ks xs l) (class_told ds ks xs l)

-- ---- of an answer of `site_class`
pub log_first : (ds ks xs : List ℕ) (a : Answer Class) → Answers ds ks xs a → FirstRefusal (Applies ds ks xs) (outcome a)
log_first ds ks xs a e = subst (FirstRefusal (Applies ds ks xs)) (sym e) (class_first table3 ds ks xs)

-- ---- of any outcome that gives the first refusal of a log, by any class limits or an answer: the first number is the lowest
pub lowest_number : (ds ks xs : List ℕ) {X : Type 0} (o : Outcome X) (n p m q : ℕ) → o ≡ refused n p → FirstRefusal (Applies ds ks xs) o
    → Applies ds ks xs m q → n ≤ m
lowest_number ds ks xs o n p m q e h w =
    lowest_first n m (numbered (h.refused_applies n p e)) (numbered w) (h.first_number n p m q e w)
