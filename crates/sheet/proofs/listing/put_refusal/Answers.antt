-- `sheet::listing::put_refusal` meets its contract. Assumes nothing.
use mathlib.Core.Path.{refl, sym}
use borrow.Author.Rules.{rules}
use native.Mathlib.Omega.{arith}
use Rattle.sheet.proofs.Listings.{refusal_room, written_is}
use Rattle.sheet.specs.Listing.{refusal}
use Rattle.sheet.proofs.listing.put_refusal.Goals as goal

pub line-requires : goal.line-requires
unfolding refusal
line-requires c = record { fits = omega (arith, refusal_room c.args.r.number c.args.r.place, c.requires) }

pub returns : goal.returns
unfolding refusal
returns c =
    let same = sym c.line.ensures.same_buffer in
    written_is refl (search rules) c.line.ensures.bytes
