-- 'Hard exactly if 27·U < 3·10⁹; soft exactly if 18·L > 3·10⁹; else normal', over any class limits of which the soft one is
-- not above the hard one.
-- Assumes nothing.
use mathlib.Core.Path.{◌≡◌, refl, ap}
use Prim.Native.Nat.{◌*◌, ◌≤◌, ◌<◌}
use native.Mathlib.Nat.{mul-le-mul}
use native.Mathlib.Omega.{arith}
use lib.Dec.{ltb}
use borrow.Author.Tests.{ltb-true, lt-ltb, le-ltb}
use Rattle.whole.proofs.Choice.{by_test}
use Rattle.limits.specs.declared.class.Class.{Class}
use Rattle.limits.specs.declared.class.Class.TheVariants.{Hard, Normal, Soft}
use Rattle.limits.specs.Outcome.{accepted}
use Rattle.limits.specs.Class.{judged_class}
use Rattle.soil.specs.declared.class.ClassLimits.{ClassLimits}
use Rattle.soil.specs.declared.times.Times.{Times}
use Rattle.soil.specs.Class.{depth_time, class_of, class_number}

-- the class's number is the one that a site line gives it by
pub class_number_lem : (c : Class) → judged_class (class_number c) ≡ accepted c
unfolding judged_class
class_number_lem Hard = refl
class_number_lem Normal = refl
class_number_lem Soft = refl

module _ (l : ClassLimits) (t : Times) where
  pub hard_where : l.hard * t.up < depth_time → class_of l t ≡ Hard
  unfolding class_of
  hard_where h = simp (lt-ltb _ _ h)

  pub normal_where : depth_time ≤ l.hard * t.up → l.soft * t.down ≤ depth_time → class_of l t ≡ Normal
  unfolding class_of
  normal_where h k = simp (le-ltb _ _ h, le-ltb _ _ k)

  pub soft_where : l.soft ≤ l.hard → t.down ≤ t.up → depth_time < l.soft * t.down → class_of l t ≡ Soft
  unfolding class_of
  soft_where o m h =
      let k : depth_time ≤ l.hard * t.up = omega (arith, mul-le-mul o m) in
      simp (le-ltb _ _ k, lt-ltb _ _ h)

  pub hard_shows : class_of l t ≡ Hard → l.hard * t.up < depth_time
  unfolding class_of
  hard_shows =
      by_test (λ (c : Class). c ≡ Hard → l.hard * t.up < depth_time) (ltb (l.hard * t.up) depth_time) _ _
      (λ e _. ltb-true _ _ e)
      (λ _. by_test (λ (c : Class). c ≡ Hard → l.hard * t.up < depth_time) (ltb depth_time (l.soft * t.down)) _ _
      (λ _ e. absurd (omega (arith, ap class_number e))) (λ _ e. absurd (omega (arith, ap class_number e))))

  pub soft_shows : class_of l t ≡ Soft → depth_time < l.soft * t.down
  unfolding class_of
  soft_shows =
      by_test (λ (c : Class). c ≡ Soft → depth_time < l.soft * t.down) (ltb (l.hard * t.up) depth_time) _ _
      (λ _ e. absurd (omega (arith, ap class_number e)))
      (λ _. by_test (λ (c : Class). c ≡ Soft → depth_time < l.soft * t.down) (ltb depth_time (l.soft * t.down)) _ _
      (λ e _. ltb-true _ _ e) (λ _ e. absurd (omega (arith, ap class_number e))))
