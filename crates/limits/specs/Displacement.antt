-- Number 23: displacements, of an analysis run, in 0.01 mm.
--   displacement_most          how large a displacement may be, of either sign: a million
--   judged_displacement z p    23: a displacement above that in size, at p
--   displaced p zs             23: the first of the displacements that is; the first of the list stands at place p
use Rattle.std.specs.Prelude.{List, [], ◌∷◌, ℕ, ◌+◌, leb, ℤ}
use Rattle.whole.specs.Signed.{size}
use Rattle.limits.specs.Outcome.{Outcome, accepted, Done, require, ◌>>◌}

abbrev pub displacement_most : ℕ
displacement_most = 1_000_000

abbrev pub judged_displacement : ℤ → ℕ → Outcome Done
judged_displacement z p = require (leb (size z) displacement_most) 23 p

unfoldable pub displaced : ℕ → List ℤ → Outcome Done
displaced p [] = accepted tt
displaced p (z ∷ zs) = do
  judged_displacement z p
  displaced (p + 1) zs
