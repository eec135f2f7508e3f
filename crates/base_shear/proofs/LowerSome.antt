-- The lower factor of a hazard at T, in s-ths, is at least one, and so above 0.
-- Assumes nothing.
use Prim.Native.Nat.{ℕ, ◌≤◌, ◌<◌}
use native.Mathlib.Nat.{lt_of_lt_of_le}
use Rattle.site.specs.declared.hazard.Hazard.{Hazard}
use Rattle.response.specs.Reach.{FineUnit}
use Rattle.response.proofs.Most.{lower_factor_least}
use Rattle.response.proofs.Reached.{root_least}
use Rattle.base_shear.specs.Ready.{Ready}
use Rattle.base_shear.specs.Shears.{lower_at}

module _ (s : ℕ) (h : Hazard) (T : ℕ) (u : FineUnit s) (y : Ready s h T) where
  pub lower_least : s ≤ lower_at s h T
  lower_least =
      lower_factor_least s h.a h.b T h.capacity h.square u.positive y.shape.a_positive y.shape.b_positive
      y.ductile.cap_positive (root_least s h.capacity h.square u y.ductile) y.ductile.cap_one

  pub lower_some : 0 < lower_at s h T
  lower_some = lt_of_lt_of_le u.positive lower_least
