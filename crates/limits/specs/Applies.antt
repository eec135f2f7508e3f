-- When each refusal of a job, of the shear call, of the distribution and of a district applies: 'What comes back when data is bad', 1 to 12 and 18 to 22,
-- part by part, then of each call. Refusal n applies at place p. Level x, from 0, has place 1 + x.
--   OutOf least most x           x is not from least to most
--   NotListed vs x               x is none of the values
--   CountApplies ws n p          1: the list has no level, or over 50
--   LengthsApply ws hs room n p  2: a list hs of another length, or a shortest result buffer of fewer cells, `room` of them
--   WeightApplies ws n p         3: a weight
--   HeightApplies hs n p         4: a height, or one that does not rise
--   LevelsApply ws hs room n p   1 to 4: any of these
--   SiteApplies s n p            5 to 7: of a site
--   ZoneApplies z n p            18: of a zone of the Taipei Basin
--   GroundApplies G n p          of a ground G: 5 to 7 of a site, 18 of a zone
--   FrameApplies f n p           8 to 12: of a frame
--   BuildingApplies W h n p      3 and 4 of the shear call: a total weight, a top height
--   HandedApplies v t n p        19 and 20: a base shear and a period that are handed in
--   GivenApplies F G f n p       of a ground and a frame after a first judgment, which refuses where F says: of that, of the ground or of the frame
--   JobApplies G f ws hs room n p           of a job, which judges its levels first
--   ShearCallApplies G f W h n p            of the shear call, which judges its building first
--   DistributionApplies v t ws hs room n p  of the distribution: of its levels, or of the base shear and the period that are handed in
--   StretchApplies store start count n p    21: a stretch outside a store of so many levels
--   RowLevelsApply start count ws hs n p    of the levels that a row of a district names in the store ws and hs: 21 of its stretch; where that is inside, 1 to 4
--   RowApplies G f b m ws hs n p            of a row of a district whose stretch starts at b and has m levels: it judges these first
--   DistrictApplies jobs weights heights rows n p    22 of a whole district, by how many jobs, weights, heights and rows there are
use Rattle.std.specs.Prelude.{◌≡◌, List, [], ◌∷◌, ◌⊎◌, ℕ, ◌+◌, ◌≤◌, ◌<◌, length, get_or}
use Rattle.limits.specs.declared.frame.FrameValues.{FrameValues}
use Rattle.limits.specs.declared.ground.GroundValues.{GroundValues}
use Rattle.limits.specs.declared.ground.GroundValues.TheVariants.{Site, Basin}
use Rattle.limits.specs.declared.site.SiteValues.{SiteValues}
use Rattle.whole.specs.Cells.{below}
use Rattle.limits.specs.District.{stretch}

abbrev pub OutOf : ℕ → ℕ → ℕ → Type 0
OutOf least most x = (x < least) ⊎ (most < x)

abbrev pub NotListed : List ℕ → ℕ → Type 0
NotListed [] x = Unit {0}
NotListed (v ∷ vs) x = (x ≡ v → ⊥) × NotListed vs x

pub data CountApplies (ws : List ℕ) : ℕ → ℕ → Type 0 where
  count : OutOf 1 50 (length ws) → CountApplies ws 1 0

pub data LengthsApply {A B : Type 0} (ws : List A) (hs : List B) (room : ℕ) : ℕ → ℕ → Type 0 where
  lists : (length hs ≡ length ws → ⊥) → LengthsApply ws hs room 2 0
  buffer : room < length ws → LengthsApply ws hs room 2 0

pub data WeightApplies (ws : List ℕ) : ℕ → ℕ → Type 0 where
  weight : (x : ℕ) → x < length ws → OutOf 1 20_000 (get_or ws x 0) → WeightApplies ws 3 (1 + x)

pub data HeightApplies (hs : List ℕ) : ℕ → ℕ → Type 0 where
  height : (x : ℕ) → x < length hs → OutOf 1 2_000 (get_or hs x 0) → HeightApplies hs 4 (1 + x)
  rising : (x : ℕ) → x < length hs → get_or hs x 0 ≤ below 0 hs x → HeightApplies hs 4 (1 + x)

pub data LevelsApply (ws hs : List ℕ) (room n p : ℕ) : Type 0 where
  of_count : CountApplies ws n p → LevelsApply ws hs room n p
  of_lengths : LengthsApply ws hs room n p → LevelsApply ws hs room n p
  of_weights : WeightApplies ws n p → LevelsApply ws hs room n p
  of_heights : HeightApplies hs n p → LevelsApply ws hs room n p

pub data SiteApplies (s : SiteValues) : ℕ → ℕ → Type 0 where
  ss_design : NotListed (50 ∷ 60 ∷ 70 ∷ 80 ∷ []) s.ssd → SiteApplies s 5 1
  s1_design : NotListed (30 ∷ 35 ∷ 40 ∷ 45 ∷ []) s.s1d → SiteApplies s 5 2
  ss_mce : NotListed (70 ∷ 80 ∷ 90 ∷ 100 ∷ []) s.ssm → SiteApplies s 5 3
  s1_mce : NotListed (40 ∷ 45 ∷ 50 ∷ 55 ∷ []) s.s1m → SiteApplies s 5 4
  na_design : OutOf 100 150 s.nad → SiteApplies s 6 1
  nv_design : OutOf 100 200 s.nvd → SiteApplies s 6 2
  na_mce : OutOf 100 150 s.nam → SiteApplies s 6 3
  nv_mce : OutOf 100 200 s.nvm → SiteApplies s 6 4
  class : NotListed (1 ∷ 2 ∷ 3 ∷ []) s.class → SiteApplies s 7 0

pub data ZoneApplies (z : ℕ) : ℕ → ℕ → Type 0 where
  zone : NotListed (1 ∷ 2 ∷ 3 ∷ 4 ∷ []) z → ZoneApplies z 18 0

abbrev pub GroundApplies : GroundValues → ℕ → ℕ → Type 0
GroundApplies (Site s) n p = SiteApplies s n p
GroundApplies (Basin z) n p = ZoneApplies z n p

pub data FrameApplies (f : FrameValues) : ℕ → ℕ → Type 0 where
  r : OutOf 100 600 f.r → FrameApplies f 8 0
  i : NotListed (100 ∷ 125 ∷ 150 ∷ []) f.i → FrameApplies f 9 0
  alpha : OutOf 100 200 f.alpha → FrameApplies f 10 0
  kind : NotListed (1 ∷ 2 ∷ 3 ∷ 4 ∷ []) f.kind → FrameApplies f 11 0
  period : (f.calculated ≡ 0 → ⊥) → OutOf 1 60_000 f.calculated → FrameApplies f 12 0

pub data BuildingApplies (W h : ℕ) : ℕ → ℕ → Type 0 where
  total : OutOf 1 1_000_000 W → BuildingApplies W h 3 0
  top : OutOf 1 2_000 h → BuildingApplies W h 4 0

pub data HandedApplies (v t : ℕ) : ℕ → ℕ → Type 0 where
  base_shear : OutOf 1 1_200_000_000 v → HandedApplies v t 19 0
  handed_period : OutOf 0 9_999 t → HandedApplies v t 20 0

pub data GivenApplies (F : ℕ → ℕ → Type 0) (G : GroundValues) (f : FrameValues) (n p : ℕ) : Type 0 where
  of_first : F n p → GivenApplies F G f n p
  of_ground : GroundApplies G n p → GivenApplies F G f n p
  of_frame : FrameApplies f n p → GivenApplies F G f n p

abbrev pub JobApplies : GroundValues → FrameValues → List ℕ → List ℕ → ℕ → ℕ → ℕ → Type 0
JobApplies G f ws hs room = GivenApplies (LevelsApply ws hs room) G f

abbrev pub ShearCallApplies : GroundValues → FrameValues → ℕ → ℕ → ℕ → ℕ → Type 0
ShearCallApplies G f W h = GivenApplies (BuildingApplies W h) G f

pub data DistributionApplies (v t : ℕ) (ws hs : List ℕ) (room n p : ℕ) : Type 0 where
  of_levels : LevelsApply ws hs room n p → DistributionApplies v t ws hs room n p
  of_handed : HandedApplies v t n p → DistributionApplies v t ws hs room n p

pub data StretchApplies (store start count : ℕ) : ℕ → ℕ → Type 0 where
  outside : store < start + count → StretchApplies store start count 21 0

pub data RowLevelsApply (start count : ℕ) (ws hs : List ℕ) (n p : ℕ) : Type 0 where
  of_stretch : StretchApplies (length ws) start count n p → RowLevelsApply start count ws hs n p
  of_own_levels : start + count ≤ length ws
      → LevelsApply (stretch start count ws) (stretch start count hs) (length (stretch start count ws)) n p
      → RowLevelsApply start count ws hs n p

abbrev pub RowApplies : GroundValues → FrameValues → ℕ → ℕ → List ℕ → List ℕ → ℕ → ℕ → Type 0
RowApplies G f b m ws hs = GivenApplies (RowLevelsApply b m ws hs) G f

pub data DistrictApplies (jobs weights heights rows : ℕ) : ℕ → ℕ → Type 0 where
  jobs_many : 256 < jobs → DistrictApplies jobs weights heights rows 22 0
  store_lists : (heights ≡ weights → ⊥) → DistrictApplies jobs weights heights rows 22 0
  row_buffer : rows < jobs → DistrictApplies jobs weights heights rows 22 0
