-- The order in which refusals are judged, apart from their numbers: 'The lowest number that applies is given'; '17, then 16, precede
-- everything for a sheet'; 'for a log 2 precedes 13'. 18 stands 'where 5 to 7 stand': a job has a site or
-- a zone, and never both. 19, 'then 20, .. both after 1 to 4'. 21 is for a row, 'first'; 22 'for the whole call', before any row.
-- 23 to 26 'follow 1 to 4, 19 and 20'.
--   order         the numbers, those that are judged first in front: of a sheet, of a district, of a job and its two calls, of drift, torsion and
--                 accidental moments, of a soil log
--   rank n        how many of them are judged before n; rank_in ms n    the same in a list ms. A number that does not stand there
--                 ranks after all that do
--   InOrder n     n stands there
--   Before m n    m is judged before n
--   NoLater m n   m is judged no later than n
-- That these sentences hold of it: `lowest_first`, `sheet_first`, `zone_between`, `handed_after`, `stretch_first`, `drift_after`
-- (proofs/Ascending.antt). That calls, logs and sheets are judged in it: their `FirstRefusal`. That every number that applies stands there, and two at two places: `in_order`, `one_rank`
-- (proofs/InOrder.antt).
use Rattle.std.specs.Prelude.{List, [], ◌∷◌, ℕ, suc, ◌≤◌, ◌<◌, eqb, length}
use Rattle.whole.specs.Choice.{pick}

abbrev pub order : List ℕ
order = 17 ∷ 16 ∷ 22 ∷ 21 ∷ 1 ∷ 2 ∷ 3 ∷ 4 ∷ 19 ∷ 20 ∷ 23 ∷ 24 ∷ 25 ∷ 26 ∷ 18 ∷ 5 ∷ 6 ∷ 7 ∷ 8 ∷ 9 ∷ 10 ∷ 11 ∷ 12 ∷ 13 ∷ 14 ∷ 15 ∷ []

abbrev pub rank_in : List ℕ → ℕ → ℕ
rank_in [] n = 0
rank_in (m ∷ ms) n = pick (eqb m n) 0 (suc (rank_in ms n))

abbrev pub rank : ℕ → ℕ
rank n = rank_in order n

abbrev pub InOrder : ℕ → Type 0
InOrder n = rank n < length order

abbrev pub Before : ℕ → ℕ → Type 0
Before m n = rank m < rank n

abbrev pub NoLater : ℕ → ℕ → Type 0
NoLater m n = rank m ≤ rank n
