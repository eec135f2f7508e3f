-- `sheet::listing::put_levels` meets its contract. The invariant: the levels above level x are written.
-- Assumes nothing.
use mathlib.Core.Path.{◌≡◌}
use Rattle.sheet.proofs.Listings.{Listed}
use Rattle.sheet.proofs.listing.put_levels.Given as goal

abbrev pub invariant-loop-x : goal.invariant-loop-x
invariant-loop-x l =
    record {
      same_buffer : l.w.out.ghost_name ≡ l.initial.w.out.ghost_name;
      bytes : Listed l.forces l.shears l.overturnings l.initial.w l.w l.x;
    }
