-- What the functions of this crate ask of their callers: T, V and the levels, as far as 64 bits need them; V to 1,400,000,000 N,
-- above the 1,200,000,000 N that the distribution takes.
--   Load T v              V of at most 1,400,000,000 N, and an F_t that is a part of V
--   Weighing ws hs        as many heights as weights; 50 levels of at most 20,000 kN and 2,000 dm make P at most 2,000,000,000
--   Falling us            no shear is above the one below it: what `shears_fall` (proofs/Telescope.antt) says of the shears
--   Rising hs             no height is below the one before it
--   Turning fs hs         as many heights as forces; heights that rise to at most 2,000 dm; forces of 1,400,000,000 N in all
--   Standing ws hs        levels, at least one, whose P is above 0 and whose heights rise to at most 2,000 dm
use Rattle.std.specs.Prelude.{◌≡◌, List, ℕ, ◌+◌, ◌≤◌, ◌<◌, length, get_or}
use Rattle.whole.specs.Cells.{sum}
use Rattle.storeys.specs.Storeys.{RoofAtMostOne, weight_height}

pub record Load (T v : ℕ) : Type 0 where
  pub part : RoofAtMostOne T
  pub shear : v ≤ 1_400_000_000

pub record Weighing (ws hs : List ℕ) : Type 0 where
  pub same : length ws ≡ length hs
  pub most : weight_height ws hs ≤ 2_000_000_000

abbrev pub Falling : List ℕ → Type 0
Falling us = (x : ℕ) → get_or us (x + 1) 0 ≤ get_or us x 0

abbrev pub Rising : List ℕ → Type 0
Rising hs = (x : ℕ) → x + 1 < length hs → get_or hs x 0 ≤ get_or hs (x + 1) 0

pub record Turning (fs hs : List ℕ) : Type 0 where
  pub same : length fs ≡ length hs
  pub rising : Rising hs
  pub tall : (x : ℕ) → x < length hs → get_or hs x 0 ≤ 2_000
  pub load : sum fs ≤ 1_400_000_000

pub record Standing (ws hs : List ℕ) : Type 0 where
  pub weighing : Weighing ws hs
  pub some : 0 < length ws
  pub positive : 0 < weight_height ws hs
  pub rising : Rising hs
  pub tall : (x : ℕ) → x < length hs → get_or hs x 0 ≤ 2_000
