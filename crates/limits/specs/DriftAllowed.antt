-- What is known of what was judged of drift, of a floor and of accidental moments.
--   AllowedDisplacements zs  displacements in 0.01 mm of at most a million in size
--   AllowedDrift hs zs m     1 to 50 heights in dm, each above the one below it, the base at 0; as many such displacements; a limit of 1 to 10,000
--                            ten-thousandths
--   AllowedFloor l a         a largest displacement l and an average a in 0.01 mm: at most a million, and an average from 1 to the largest
--   AllowedMoments v t ws hs d    what the distribution takes, with a plan dimension of 1 to 5,000 dm
-- That what is accepted is so: proofs/AcceptedDrift.antt.
use Rattle.std.specs.Prelude.{◌≡◌, List, ℕ, ◌≤◌, ◌<◌, ℤ, pos, length, get_or}
use Rattle.whole.specs.Cells.{below}
use Rattle.whole.specs.Signed.{size}
use Rattle.limits.specs.Allowed.{AllowedLevels, AllowedHanded}

abbrev pub AllowedDisplacements : List ℤ → Type 0
AllowedDisplacements zs = (x : ℕ) → x < length zs → size (get_or zs x (pos 0)) ≤ 1_000_000

pub record AllowedDrift (hs : List ℕ) (zs : List ℤ) (m : ℕ) : Type 0 where
  pub same : length zs ≡ length hs
  pub some : 1 ≤ length hs
  pub few : length hs ≤ 50
  pub heights : (x : ℕ) → x < length hs → (1 ≤ get_or hs x 0) × (get_or hs x 0 ≤ 2_000)
  pub rising : (x : ℕ) → x < length hs → below 0 hs x < get_or hs x 0
  pub sizes : AllowedDisplacements zs
  pub limit : (1 ≤ m) × (m ≤ 10_000)

pub record AllowedFloor (l a : ℕ) : Type 0 where
  pub largest : l ≤ 1_000_000
  pub average : (1 ≤ a) × (a ≤ l)

pub record AllowedMoments (v t : ℕ) (ws hs : List ℕ) (d : ℕ) : Type 0 where
  pub levels : AllowedLevels ws hs
  pub handed : AllowedHanded v t
  pub dimension : (1 ≤ d) × (d ≤ 5_000)
