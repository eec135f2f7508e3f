-- `sheet::put_refused` meets its contract. Assumes nothing.
use mathlib.Core.Path.{refl}
use Rattle.sheet.proofs.Listings.{puts_refused}
use Rattle.sheet.proofs.put_refused.Goals as goal

pub returns : goal.returns
returns c = puts_refused c.args.refusal refl c.put_refusal.ensures
