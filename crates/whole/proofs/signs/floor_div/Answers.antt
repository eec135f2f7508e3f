-- `whole::signs::floor_div` meets its contract: over a number above 0, `div_euclid` rounds toward minus infinity. Assumes nothing.
use mathlib.Core.Path.{◌≡◌, refl, ◌∙◌}
use Prim.Native.Nat.{ℕ}
use lib.IntN.{ℤ, pos, negsuc}
use mir.Syntax.{w64}
use mir.Facts.{to_z_pos, to_z-of_z}
use Rattle.std.specs.Int.{int_div_euclid}
use Rattle.whole.specs.Signed.{floor}
use Rattle.whole.proofs.Floor.{back}
use Rattle.whole.proofs.signs.floor_div.Goals as goal

floor_is : (z : ℤ) (d : ℕ) → int_div_euclid z (pos d) ≡ floor z d
unfolding floor
floor_is (pos a) d = refl
floor_is (negsuc a) d = refl

pub returns : goal.returns
returns c =
    back _ c.div_euclid.type_inv
    ∙ (rw (to_z-of_z {w = w64} c.ranges.n, to_z_pos w64 c.requires.1) at c.div_euclid.ensures)
    ∙ floor_is c.args.n c.args.d
