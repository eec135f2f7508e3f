-- What rounding the times can do to a class, over any class limits above 0 (the soft one not above the hard one, where a theorem
-- asks for it): the class is the one of the exact time, but that hard or soft may come out normal where the exact time is within
-- one ns a layer of its limit.
-- Assumes nothing.
use mathlib.Core.Path.{◌≡◌}
use mathlib.Core.List.{List}
use Prim.Native.Nat.{ℕ, ◌≤◌, ◌<◌}
use native.Mathlib.Nat.{mul-le-mul_left, mul-le-mul_right, mul-lt-mul_of_pos_left, mul-lt-mul_of_pos_right, le_of_mul-le-mul_right, lt_of_mul-lt-mul_right}
use native.Mathlib.Omega.{arith}
use lib.ListN.{length}
use Rattle.whole.specs.Fraction.{over, plus, AtMost, Less}
use Rattle.whole.specs.Rounding.{up, down}
use Rattle.limits.specs.declared.class.Class.TheVariants.{Hard, Normal, Soft}
use Rattle.soil.specs.declared.class.ClassLimits.{ClassLimits}
use Rattle.soil.specs.Class.{class_of}
use Rattle.soil.specs.Exact.{slowness, exact_time, time_at}
use Rattle.soil.specs.Times.{added, times}
use Rattle.soil.proofs.Classes.{hard_where, soft_where, normal_where, hard_shows, soft_shows}
use Rattle.soil.proofs.Slowness.{slowness_sound, up_above, up_close, down_below, down_close}
use Rattle.soil.proofs.Speeds.{Positive}

module _ (ds vs : List ℕ) (p : Positive vs) where
  down_up : added down ds vs ≤ added up ds vs
  down_up =
      le_of_mul-le-mul_right {k = (slowness ds vs).den} (omega (arith, down_below ds vs p, up_above ds vs p))
      (slowness_sound ds vs p)

  module _ (l : ClassLimits) where
    pub hard_is_faster : class_of l (times ds vs) ≡ Hard → Less (exact_time ds vs) (time_at l.hard)
    hard_is_faster e =
        omega (
          arith,
          mul-le-mul_left l.hard (up_above ds vs p),
          mul-lt-mul_of_pos_right (hard_shows l (times ds vs) e) (slowness_sound ds vs p),
        )

    pub soft_is_slower : class_of l (times ds vs) ≡ Soft → Less (time_at l.soft) (exact_time ds vs)
    soft_is_slower e =
        omega (
          arith,
          mul-le-mul_left l.soft (down_below ds vs p),
          mul-lt-mul_of_pos_right (soft_shows l (times ds vs) e) (slowness_sound ds vs p),
        )

    pub between_is_normal : AtMost (time_at l.hard) (exact_time ds vs) → AtMost (exact_time ds vs) (time_at l.soft)
        → class_of l (times ds vs) ≡ Normal
    between_is_normal h k =
        normal_where l (times ds vs)
        (le_of_mul-le-mul_right {k = (slowness ds vs).den} (omega (arith, mul-le-mul_left l.hard (up_above ds vs p)))
        (slowness_sound ds vs p))
        (le_of_mul-le-mul_right {k = (slowness ds vs).den} (omega (arith, mul-le-mul_left l.soft (down_below ds vs p)))
        (slowness_sound ds vs p))

    -- ---- faster, or slower, by n ns for n layers
    module _ (n : ℕ) (some : 0 < length ds) (few : length ds ≤ n) where
      pub faster_is_hard : 0 < l.hard → AtMost (plus (exact_time ds vs) (over n 1)) (time_at l.hard)
          → class_of l (times ds vs) ≡ Hard
      faster_is_hard pos h =
          hard_where l (times ds vs)
          (lt_of_mul-lt-mul_right (slowness ds vs).den
          (omega (
            arith,
            mul-lt-mul_of_pos_left (up_close ds vs p some) pos,
            mul-le-mul_left l.hard (mul-le-mul_right (slowness ds vs).den few),
          )))

      pub slower_is_soft : 0 < l.soft → l.soft ≤ l.hard → AtMost (plus (time_at l.soft) (over n 1)) (exact_time ds vs)
          → class_of l (times ds vs) ≡ Soft
      slower_is_soft pos o h =
          soft_where l (times ds vs) o down_up
          (lt_of_mul-lt-mul_right (slowness ds vs).den
          (omega (
            arith,
            mul-lt-mul_of_pos_left (down_close ds vs p some) pos,
            mul-le-mul_left l.soft (mul-le-mul_right (slowness ds vs).den few),
          )))
