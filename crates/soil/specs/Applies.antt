-- When each refusal of a log applies: 'What comes back when data is bad', of thicknesses ds, kinds ks and values xs.
-- The i-th layer, from 0, has place 1 + i.
--   UnequalLists ds ks xs    2: lists of unequal length
--   NoLayerOrOver40 ds       13: no layer, or over 40
--   ThicknessZero ds i       14: layer of thickness 0
--   OtherSum ds              14: a sum other than 3,000
--   Allowed k x              a kind with a value in its range
--   WrongLayer ks xs i       15: unknown layer kind, or value out of range
--   Applies ds ks xs n p     refusal n applies, at place p
use Rattle.std.specs.Prelude.{◌≡◌, List, ◌⊎◌, ℕ, ◌+◌, ◌≤◌, ◌<◌, length, get_or}
use Rattle.whole.specs.Cells.{sum}

abbrev pub UnequalLists : List ℕ → List ℕ → List ℕ → Type 0
UnequalLists ds ks xs = (length ks ≡ length ds) × (length xs ≡ length ds) → ⊥

abbrev pub NoLayerOrOver40 : List ℕ → Type 0
NoLayerOrOver40 ds = (length ds ≡ 0) ⊎ (40 < length ds)

abbrev pub ThicknessZero : List ℕ → ℕ → Type 0
ThicknessZero ds i = get_or ds i 0 ≡ 0

abbrev pub OtherSum : List ℕ → Type 0
OtherSum ds = sum ds ≡ 3_000 → ⊥

pub data Allowed (k x : ℕ) : Type 0 where
  measured : k ≡ 1 → 500 ≤ x → x ≤ 30_000 → Allowed k x
  cohesive : k ≡ 2 → 2 ≤ x → x ≤ 25 → Allowed k x
  cohesionless : k ≡ 3 → 1 ≤ x → x ≤ 50 → Allowed k x
  soft_clay : k ≡ 4 → 1 ≤ x → x ≤ 400 → Allowed k x

abbrev pub WrongLayer : List ℕ → List ℕ → ℕ → Type 0
WrongLayer ks xs i = Allowed (get_or ks i 0) (get_or xs i 0) → ⊥

pub data Applies (ds ks xs : List ℕ) : ℕ → ℕ → Type 0 where
  lists : UnequalLists ds ks xs → Applies ds ks xs 2 0
  layers : NoLayerOrOver40 ds → Applies ds ks xs 13 0
  thickness : (i : ℕ) → i < length ds → ThicknessZero ds i → Applies ds ks xs 14 (1 + i)
  depth : OtherSum ds → Applies ds ks xs 14 0
  layer : (i : ℕ) → i < length ds → WrongLayer ks xs i → Applies ds ks xs 15 (1 + i)
