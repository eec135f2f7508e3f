-- What is known of a log that passes: before its kinds and values are looked at, and of its times.
-- Assumes nothing.
use mathlib.Core.Path.{◌≡◌, sym, subst, ◌∙◌}
use mathlib.Core.List.{List}
use Prim.Native.Nat.{ℕ, ◌*◌, ◌^◌, ◌≤◌, ◌<◌}
use native.Mathlib.Omega.{arith}
use lib.ListN.{length}
use borrow.Author.Tests.{eqb-true}
use Rattle.whole.specs.Cells.{sum}
use Rattle.whole.specs.Rounding.{up, down}
use Rattle.limits.specs.Lengths.{same_length}
use Rattle.limits.specs.Outcome.{accepted}
use Rattle.limits.specs.declared.class.Class.{Class}
use Rattle.soil.specs.declared.class.ClassLimits.{ClassLimits}
use Rattle.soil.specs.declared.times.Times.{Times}
use Rattle.soil.specs.Class.{table3, class_of}
use Rattle.soil.specs.Log.{counted, thick, deep, judged_log, site_class}
use Rattle.soil.specs.Times.{Matched, ns_at_unit, times, judged_times}
use Rattle.soil.specs.Velocity.{velocities}
use Rattle.soil.proofs.Adding.{up_most, down_most, added_most}
use Rattle.limits.proofs.Passed.{one_value, then_passed, bind_passed, require_passed, within_passed}
use Rattle.soil.proofs.Speeds.{velocities_positive}

pub record Sound (ds : List ℕ) (k x : ℕ) : Type 0 where
  pub kinds : k ≡ length ds
  pub values : x ≡ length ds
  pub some : 1 ≤ length ds
  pub few : length ds ≤ 40
  pub thick : thick 1 ds ≡ accepted tt
  pub depth : sum ds ≡ 3_000

pub log_sound : (ds : List ℕ) (k x : ℕ) → judged_log ds k x ≡ accepted tt → Sound ds k x
unfolding judged_log deep
log_sound ds k x e =
    let a = then_passed (same_length (length ds) k) _ e in
    let b = then_passed (same_length (length ds) x) _ a.1 in
    let c = then_passed (counted (length ds)) _ b.1 in
    let t = then_passed (thick 1 ds) (deep ds) c.1 in
    let n = within_passed 1 40 (length ds) 13 0 c.0 in
    record {
      kinds = eqb-true k (length ds) (require_passed _ 2 0 a.0);
      values = eqb-true x (length ds) (require_passed _ 2 0 b.0);
      some = n.0;
      few = n.1;
      thick = t.0;
      depth = eqb-true (sum ds) 3_000 (require_passed _ 14 0 t.1);
    }

-- its kinds and values can be looked at
pub log_matched : (ds ks xs : List ℕ) → accepted tt ≡ judged_log ds (length ks) (length xs) → Matched ds ks xs
log_matched ds ks xs e =
    let s = log_sound ds (length ks) (length xs) (sym e) in
    record { kinds = s.kinds; values = s.values; depth = omega arith }

-- no time is more than its ns at 1 dm/s
pub times_most : (ds ks xs : List ℕ) (t : Times) → judged_times ds ks xs ≡ accepted t
    → (t.up ≤ ns_at_unit (sum ds)) × (t.down ≤ ns_at_unit (sum ds))
unfolding judged_times
times_most ds ks xs t e =
    let a = bind_passed (velocities 1 ks xs) _ e in
    let p = velocities_positive 1 ks xs a.0 a.1 in
    subst (λ (t : Times). (t.up ≤ ns_at_unit (sum ds)) × (t.down ≤ ns_at_unit (sum ds))) (one_value a.2)
    (added_most up up_most ds a.0 p, added_most down down_most ds a.0 p)

-- so the class limits times the sums of a log fit
pub limits_fit : (ds ks xs : List ℕ) (t : Times) → Matched ds ks xs → accepted t ≡ judged_times ds ks xs
    → (table3.hard * t.up < 2 ^ 64) × (table3.soft * t.down < 2 ^ 64)
limits_fit ds ks xs t m e = let b = times_most ds ks xs t (sym e) in (omega arith, omega arith)

-- ---- the class of a log with velocities vs
module _ (l : ClassLimits) (ds ks xs vs : List ℕ) (given : velocities 1 ks xs ≡ accepted vs) where
  pub class_given : judged_log ds (length ks) (length xs) ≡ accepted tt
      → site_class l ds ks xs ≡ accepted (class_of l (times ds vs))
  unfolding site_class judged_times
  class_given j = simp (j, given)

  pub class_judged : {c : Class} → site_class l ds ks xs ≡ accepted c
      → (judged_log ds (length ks) (length xs) ≡ accepted tt) × (class_of l (times ds vs) ≡ c)
  unfolding site_class
  class_judged e =
      let j = (then_passed (judged_log ds (length ks) (length xs)) _ e).0 in
      (j, one_value (sym (class_given j) ∙ e))
