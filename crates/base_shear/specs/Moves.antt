-- What is known of two frames, two weights and two hazards where one thing is changed, whatever made the hazards.
--   NoLighter f W f' W'    I and W are no smaller, and alpha-y is no larger
--   MoreDuctile h h'       the hazard of a larger R: the same A and B, a capacity and a square that are no smaller
--   MoreDuctileAll k k'    so it is of the three hazards; lines and divisors are the same
use Rattle.std.specs.Prelude.{◌≡◌, ℕ, ◌≤◌}
use Rattle.whole.specs.Fraction.{AtMost}
use Rattle.limits.specs.declared.frame.Frame.{Frame}
use Rattle.site.specs.declared.hazard.Hazard.{Hazard}
use Rattle.site.specs.declared.hazard.Hazards.{Hazards}

pub record NoLighter (f : Frame) (W : ℕ) (f' : Frame) (W' : ℕ) : Type 0 where
  pub i : f.i ≤ f'.i
  pub alpha : f'.alpha ≤ f.alpha
  pub weight : W ≤ W'

pub record MoreDuctile (h h' : Hazard) : Type 0 where
  pub a : h.a ≡ h'.a
  pub b : h.b ≡ h'.b
  pub capacity : AtMost h.capacity h'.capacity
  pub square : AtMost h.square h'.square

pub record MoreDuctileAll (k k' : Hazards) : Type 0 where
  pub design : MoreDuctile k.design k'.design
  pub mce : MoreDuctile k.mce k'.mce
  pub star : MoreDuctile k.star k'.star
  pub lines : k.lines ≡ k'.lines
  pub divisor : k.divisor ≡ k'.divisor
  pub stardivisor : k.stardivisor ≡ k'.stardivisor
