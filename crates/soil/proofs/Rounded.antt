-- What rounding the times does to the class of a log whose velocities are vs: hard is above 270 m/s and soft below 180 m/s,
-- from 180 to 270 m/s is normal, and whatever is faster, or slower, by 40 ns is hard, or soft.
-- Assumes nothing.
use mathlib.Core.Path.{◌≡◌, ap, ◌∙◌}
use mathlib.Core.Bool.{not}
use mathlib.Core.List.{List, [], ◌∷◌}
use Prim.Native.Nat.{ℕ, ◌*◌, ◌<◌}
use native.Mathlib.Nat.{mul-pos}
use native.Mathlib.Omega.{arith}
use lib.Dec.{eqb}
use lib.ListN.{length}
use borrow.Author.Tests.{eqb-false, not-true}
use Rattle.whole.specs.Cells.{sum}
use Rattle.whole.specs.Fraction.{over, plus, AtMost, Less}
use Rattle.limits.specs.declared.class.Class.TheVariants.{Hard, Normal, Soft}
use Rattle.limits.specs.Outcome.{accepted, require}
use Rattle.soil.specs.Class.{table3}
use Rattle.soil.specs.Exact.{slowness, average, exact_time, time_at}
use Rattle.soil.specs.Log.{thick, judged_log, site_class}
use Rattle.soil.specs.Velocity.{velocities}
use Rattle.soil.proofs.Average.{hard_is_faster, soft_is_slower, between_is_normal, faster_is_hard, slower_is_soft}
use Rattle.limits.proofs.Passed.{then_passed, require_passed}
use Rattle.soil.proofs.Slowness.{slowness_sound}
use Rattle.soil.proofs.Sound.{Sound, log_sound, class_given, class_judged}
use Rattle.soil.proofs.Speeds.{Positive, velocities_positive, velocities_length}

-- the average stands for a number, where no layer has thickness 0
average_sound : (ds vs : List ℕ) → Positive vs → 0 < length ds → length vs ≡ length ds → thick 1 ds ≡ accepted tt
    → 0 < (average ds vs).den
unfolding slowness thick
average_sound [] vs p h e t = absurd (omega arith)
average_sound (d ∷ ds) [] p h e t = absurd (omega arith)
average_sound (d ∷ ds) (v ∷ vs) p h e t =
    let thin = eqb-false d 0 (not-true (eqb d 0) (require_passed _ 14 1 (then_passed (require (not (eqb d 0)) 14 1) _ t).0)) in
    let pos : 0 < d = omega arith in
    omega (arith, mul-pos pos (slowness_sound ds vs p.1))

module _ (ds ks xs vs : List ℕ) (given : velocities 1 ks xs ≡ accepted vs) where
  positive : Positive vs
  positive = velocities_positive 1 ks xs vs given

  module _ (s : Sound ds (length ks) (length xs)) where
    same : length vs ≡ length ds
    same = velocities_length 1 ks xs vs (omega arith) given ∙ s.kinds

    number : 0 < (average ds vs).den
    number = average_sound ds vs positive (omega arith) same s.thick

    depth : sum ds * (slowness ds vs).den ≡ 3_000 * (slowness ds vs).den
    depth = ap (λ (z : ℕ). z * (slowness ds vs).den) s.depth

  pub hard_averages_above_270 : site_class table3 ds ks xs ≡ accepted Hard
      → (0 < (average ds vs).den) × Less (over 2_700 1) (average ds vs)
  hard_averages_above_270 e =
      let c = class_judged table3 ds ks xs vs given e in
      let s = log_sound ds (length ks) (length xs) c.0 in
      (number s, omega (arith, depth s, hard_is_faster ds vs positive table3 c.1))

  pub soft_averages_below_180 : site_class table3 ds ks xs ≡ accepted Soft
      → (0 < (average ds vs).den) × Less (average ds vs) (over 1_800 1)
  soft_averages_below_180 e =
      let c = class_judged table3 ds ks xs vs given e in
      let s = log_sound ds (length ks) (length xs) c.0 in
      (number s, omega (arith, depth s, soft_is_slower ds vs positive table3 c.1))

  module _ (judged : judged_log ds (length ks) (length xs) ≡ accepted tt) where
    sound : Sound ds (length ks) (length xs)
    sound = log_sound ds (length ks) (length xs) judged

    pub from_180_to_270_is_normal : AtMost (over 1_800 1) (average ds vs) → AtMost (average ds vs) (over 2_700 1)
        → site_class table3 ds ks xs ≡ accepted Normal
    from_180_to_270_is_normal lo hi =
        class_given table3 ds ks xs vs given judged
        ∙ ap accepted
        (between_is_normal ds vs positive table3 (omega (arith, depth sound)) (omega (arith, depth sound)))

    pub faster_by_40_ns_is_hard : AtMost (plus (exact_time ds vs) (over 40 1)) (time_at table3.hard)
        → site_class table3 ds ks xs ≡ accepted Hard
    faster_by_40_ns_is_hard h =
        class_given table3 ds ks xs vs given judged
        ∙ ap accepted
        (faster_is_hard ds vs positive table3 40 (omega (arith, sound.some)) sound.few (omega arith) h)

    pub slower_by_40_ns_is_soft : AtMost (plus (time_at table3.soft) (over 40 1)) (exact_time ds vs)
        → site_class table3 ds ks xs ≡ accepted Soft
    slower_by_40_ns_is_soft h =
        class_given table3 ds ks xs vs given judged
        ∙ ap accepted
        (slower_is_soft ds vs positive table3 40 (omega (arith, sound.some)) sound.few (omega arith) (omega arith) h)
