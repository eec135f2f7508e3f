-- Thicknesses judged one after the other, from the i-th on.
-- Assumes nothing.
use mathlib.Core.Path.{◌≡◌}
use mathlib.Core.Bool.{not}
use mathlib.Core.List.{List}
use Prim.Native.Nat.{ℕ, ◌+◌, ◌≤◌, ◌<◌}
use native.Mathlib.Numerals.{add-one}
use lib.Dec.{eqb}
use lib.ListN.{length, get_or, drop}
use lib.Seq.{drop-cons}
use Rattle.std.proofs.Math.ListN.{drop_of_length-le}
use Rattle.limits.specs.Outcome.{accepted, require, ◌>>◌}
use Rattle.soil.specs.Log.{thick}

pub thick_step : (ds : List ℕ) (p i : ℕ) → i < length ds
    → thick p (drop i ds) ≡ (require (not (eqb (get_or ds i 0) 0)) 14 p >> thick (p + 1) (drop (i + 1) ds))
unfolding thick
thick_step ds p i h = rw (add-one i, drop-cons ds i 0 h)

pub thick_end : (ds : List ℕ) (p i : ℕ) → length ds ≤ i → thick p (drop i ds) ≡ accepted tt
unfolding thick
thick_end ds p i h = rw (drop_of_length-le ds h)
