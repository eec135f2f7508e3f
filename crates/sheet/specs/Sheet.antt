-- 'Sheet and listing': the lines of a sheet, and what they hold.
--   one_pair_layout, two_pairs_layout    the layouts of a site line: one pair of near-fault factors for both hazard levels, or one for each
--   basin_layout, frame_layout, level_layout    of the other lines
--   sheet_form          'Line 1 is `site`', with seven numbers or nine, or `basin` with the zone in its place; 'Line 2 is `frame`', 'All
--                      later lines are `level`'
--   level_form            the form of the lines after these two
--   site_values ns        S_S D, S_1 D, S_S M, S_1 M, N_A, N_V, N_A M, N_V M, class
--   pair_twice ns         the nine numbers that seven stand for: 'A sheet with the old seven fields still means one pair for both'
--   held_site ns          what the numbers of a site line hold, be they seven or nine
--   is_word w v           v is the word w
--   ground_of l           what line 1 holds: the zone where its word is `basin`, else the site
--   frame_values ns       kind, calculated period, R, I, alpha-y
--   Levels                weights in kN and heights in dm, lowest level first
--   levels_of ls          those of level lines: weight, height
--   line_at ls i          line i of ls, from 0
--   Sheet, sheet_of ls    what a sheet holds; what its lines ls do
-- A number that a line does not have is 0 here; `sheet_form` says how many there are.
use Rattle.std.specs.Prelude.{Bool, ◌&&◌, List, [], ◌∷◌, map, ℕ, eqb, length, get_or, drop}
use Rattle.whole.specs.Choice.{pick}
use Rattle.limits.specs.declared.frame.FrameValues.{FrameValues}
use Rattle.limits.specs.declared.ground.GroundValues.{GroundValues}
use Rattle.limits.specs.declared.ground.GroundValues.TheVariants.{Site, Basin}
use Rattle.limits.specs.declared.site.SiteValues.{SiteValues}
pub use Rattle.limits.specs.Site.{site_values}
pub use Rattle.limits.specs.Frame.{frame_values}
use Rattle.text.specs.Bytes.{bytes}
use Rattle.text.specs.Reading.{starts}
use Rattle.sheet.specs.Layouts.{Layout, Line, Form}

abbrev pub one_pair_layout : Layout
one_pair_layout = record { word = bytes "site"; numbers = 7 }

abbrev pub two_pairs_layout : Layout
two_pairs_layout = record { word = bytes "site"; numbers = 9 }

abbrev pub basin_layout : Layout
basin_layout = record { word = bytes "basin"; numbers = 1 }

abbrev pub frame_layout : Layout
frame_layout = record { word = bytes "frame"; numbers = 5 }

abbrev pub level_layout : Layout
level_layout = record { word = bytes "level"; numbers = 2 }

abbrev pub sheet_form : Form
sheet_form =
    record { heads = (one_pair_layout ∷ two_pairs_layout ∷ basin_layout ∷ []) ∷ (frame_layout ∷ []) ∷ []; later = level_layout ∷ [] }

abbrev pub level_form : Form
level_form = record { heads = []; later = level_layout ∷ [] }

abbrev pub pair_twice : List ℕ → List ℕ
pair_twice ns =
    get_or ns 0 0
    ∷ get_or ns 1 0
    ∷ get_or ns 2 0
    ∷ get_or ns 3 0
    ∷ get_or ns 4 0
    ∷ get_or ns 5 0
    ∷ get_or ns 4 0
    ∷ get_or ns 5 0
    ∷ get_or ns 6 0
    ∷ []

abbrev pub held_site : List ℕ → SiteValues
held_site ns = site_values (pick (eqb (length ns) one_pair_layout.numbers) (pair_twice ns) ns)

abbrev pub is_word : List ℕ → List ℕ → Bool
is_word w v = starts w v && starts v w

abbrev pub ground_of : Line → GroundValues
ground_of l = pick (is_word basin_layout.word l.word) (Basin (get_or l.numbers 0 0)) (Site (held_site l.numbers))

pub record Levels : Type 0 where
  pub weights : List ℕ
  pub heights : List ℕ

abbrev pub levels_of : List Line → Levels
levels_of ls = record { weights = map (λ l. get_or l.numbers 0 0) ls; heights = map (λ l. get_or l.numbers 1 0) ls }

pub record Sheet : Type 0 where
  pub ground : GroundValues
  pub frame : FrameValues
  pub levels : Levels

-- line i, from 0
abbrev pub line_at : List Line → ℕ → Line
line_at ls i = get_or ls i (record { word = []; numbers = [] })

abbrev pub sheet_of : List Line → Sheet
sheet_of ls =
    record { ground = ground_of (line_at ls 0); frame = frame_values (line_at ls 1).numbers; levels = levels_of (drop 2 ls) }
