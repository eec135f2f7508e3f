-- What is known of what was judged, of a job or of one of the two calls: the ranges of 'Numbers and their ranges' that the calculation goes by.
--   AllowedSite s         mapped values and near-fault factors in 0.01
--   AllowedGround g       of a site these; of a zone nothing is left to say
--   AllowedFrame f        R, I, alpha-y in 0.01, the calculated period in ms
--   AllowedLevels ws hs   1 to 50 levels, weights in kN, heights in dm that rise strictly
--   AllowedJob g ws hs    a judged ground and frame with such levels, and the top height
--   AllowedBuilding W h   a total weight in kN, a top height in dm
--   AllowedShearCall g W h    a judged ground and frame with such a building
--   AllowedHanded v t     a base shear in N, a period in ms
-- That what is accepted is so: proofs/AcceptedGround.antt, AcceptedLevels.antt, Accepted.antt, AcceptedCalls.antt.
use Rattle.std.specs.Prelude.{◌≡◌, List, ℕ, ◌+◌, ◌≤◌, ◌<◌, length, get_or}
use Rattle.limits.specs.declared.frame.Frame.{Frame}
use Rattle.limits.specs.declared.ground.Ground.{Ground}
use Rattle.limits.specs.declared.ground.Ground.TheVariants.{Site as OnSite, Basin as InBasin}
use Rattle.limits.specs.declared.judging.Given.{Given}
use Rattle.limits.specs.declared.site.Site.{Site}
use Rattle.limits.specs.Levels.{top_height}

pub record AllowedSite (s : Site) : Type 0 where
  pub ssd : (50 ≤ s.ssd) × (s.ssd ≤ 80)
  pub s1d : (30 ≤ s.s1d) × (s.s1d ≤ 45)
  pub ssm : (70 ≤ s.ssm) × (s.ssm ≤ 100)
  pub s1m : (40 ≤ s.s1m) × (s.s1m ≤ 55)
  pub nad : (100 ≤ s.nad) × (s.nad ≤ 150)
  pub nvd : (100 ≤ s.nvd) × (s.nvd ≤ 200)
  pub nam : (100 ≤ s.nam) × (s.nam ≤ 150)
  pub nvm : (100 ≤ s.nvm) × (s.nvm ≤ 200)

abbrev pub AllowedGround : Ground → Type 0
AllowedGround (OnSite s) = AllowedSite s
AllowedGround (InBasin z) = Unit {0}

pub record AllowedFrame (f : Frame) : Type 0 where
  pub r : (100 ≤ f.r) × (f.r ≤ 600)
  pub i : (100 ≤ f.i) × (f.i ≤ 150)
  pub alpha : (100 ≤ f.alpha) × (f.alpha ≤ 200)
  pub period : f.calculated ≤ 60_000

pub record AllowedLevels (ws hs : List ℕ) : Type 0 where
  pub same : length hs ≡ length ws
  pub some : 1 ≤ length ws
  pub few : length ws ≤ 50
  pub weights : (x : ℕ) → x < length ws → (1 ≤ get_or ws x 0) × (get_or ws x 0 ≤ 20_000)
  pub heights : (x : ℕ) → x < length hs → (1 ≤ get_or hs x 0) × (get_or hs x 0 ≤ 2_000)
  pub rising : (x : ℕ) → x + 1 < length hs → get_or hs x 0 < get_or hs (x + 1) 0

pub record AllowedJob (g : Given) (ws hs : List ℕ) : Type 0 where
  pub ground : AllowedGround g.ground
  pub frame : AllowedFrame g.frame
  pub levels : AllowedLevels ws hs
  pub top : (1 ≤ top_height hs) × (top_height hs ≤ 2_000)

pub record AllowedBuilding (W h : ℕ) : Type 0 where
  pub weight : (1 ≤ W) × (W ≤ 1_000_000)
  pub top : (1 ≤ h) × (h ≤ 2_000)

pub record AllowedShearCall (g : Given) (W h : ℕ) : Type 0 where
  pub ground : AllowedGround g.ground
  pub frame : AllowedFrame g.frame
  pub building : AllowedBuilding W h

pub record AllowedHanded (v t : ℕ) : Type 0 where
  pub shear : (1 ≤ v) × (v ≤ 1_200_000_000)
  pub period : t ≤ 9_999
