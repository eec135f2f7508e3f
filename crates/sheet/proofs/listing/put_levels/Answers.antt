-- `sheet::listing::put_levels` meets its contract. Assumes nothing.
use mathlib.Core.Path.{◌≡◌, refl, ◌∙◌}
use Prim.Native.Nat.{◌+◌, ◌-◌}
use native.Mathlib.Omega.{arith}
use Rattle.sheet.proofs.Listings.{listed_none, listed_all, listed_room, listed_more}
use Rattle.sheet.proofs.listing.put_levels.Goals as goal

pub loop-x-init : goal.loop-x-init
loop-x-init c = record { same_buffer = refl; bytes = listed_none _ _ _ c.args.w.now }

pub line-requires : goal.line-requires
line-requires c =
    let x = c.loop-x.x - 1 in
    let next : x + 1 ≡ c.loop-x.x = omega arith in
    rw next (listed_room c.args.forces.now c.args.shears.now c.args.overturnings.now c.loop-x.invariant.bytes c.requires.levels_fit x (omega arith))

pub loop-x-preserved : goal.loop-x-preserved
loop-x-preserved c =
    let x = c.loop-x.x - 1 in
    let next : x + 1 ≡ c.loop-x.x = omega arith in
    record {
      same_buffer = c.line.ensures.same_buffer ∙ c.loop-x.invariant.same_buffer;
      bytes =
          listed_more c.args.forces.now c.args.shears.now c.args.overturnings.now c.loop-x.invariant.bytes c.requires.levels_fit x (omega arith)
          (rw next at c.line.ensures.bytes);
    }

pub returns-clause-bytes : goal.returns-clause-bytes
returns-clause-bytes c = listed_all c.args.forces.now c.args.shears.now c.args.overturnings.now c.loop-x.invariant.bytes (omega arith)
