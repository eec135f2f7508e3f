-- `sheet::listing::put_results` meets its contract. Assumes nothing.
use mathlib.Core.Path.{refl, sym, ◌∙◌}
use borrow.Author.Rules.{rules}
use Rattle.text.proofs.Spliced.{room_first, writes_room, writes_more}
use Rattle.sheet.proofs.Listings.{base_line, results_room, written_is}
use Rattle.sheet.specs.Listing.{results_listing, all_levels}
use Rattle.sheet.proofs.listing.put_results.Goals as goal

pub line-requires : goal.line-requires
line-requires c =
    let a = c.args in
    room_first (base_line a.forces.now a.shears.now a.overturnings.now a.f) (all_levels a.forces.now a.shears.now a.overturnings.now)
    (results_room a.forces.now a.shears.now a.overturnings.now a.f c.requires.0 refl c.requires.1)

pub put_levels-requires : goal.put_levels-requires
put_levels-requires c =
    let a = c.args in
    record {
      levelled = c.requires.0;
      levels_fit = writes_room c.line.ensures.bytes (results_room a.forces.now a.shears.now a.overturnings.now a.f c.requires.0 refl c.requires.1);
    }

pub returns : goal.returns
unfolding results_listing
returns c =
    let a = c.args in
    let same = sym (c.put_levels.ensures.same_buffer ∙ c.line.ensures.same_buffer) in
    written_is refl (search rules) (writes_more c.line.ensures.bytes (results_room a.forces.now a.shears.now a.overturnings.now a.f c.requires.0 refl c.requires.1) c.put_levels.ensures.bytes)
