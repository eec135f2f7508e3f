-- A sheet laid out as 'Sheet and listing' says: the lines and the bytes of a sheet that holds given numbers.
--   site_numbers v        the numbers of a site line with a pair for each hazard level, in order
--   one_pair_numbers v    of one with one pair for both hazard levels
--   frame_numbers v       of line 2
--   site_line ns          the line `site` with the numbers ns
--   GroundLine g l        l is a line 1 that holds the ground g: of a site by nine numbers, or by seven where both hazard levels
--                                    have the same pair; or of a zone
--   level_lines_of ws hs            a level line for each weight and height, lowest first
--   lines_of l r, sheet_laid l r    the lines of what r holds, l being line 1, and their bytes
--   Laid l r                        l holds the ground, each number has at most 9 digits, there are as many heights as weights, and
--                                    the sheet has at most 4,096 bytes
use Rattle.std.specs.Prelude.{◌≡◌, List, [], ◌∷◌, ℕ, ◌≤◌, length}
use Rattle.limits.specs.declared.frame.FrameValues.{FrameValues}
use Rattle.limits.specs.declared.ground.GroundValues.{GroundValues}
use Rattle.limits.specs.declared.ground.GroundValues.TheVariants.{Site, Basin}
use Rattle.limits.specs.declared.site.SiteValues.{SiteValues}
use Rattle.text.specs.Bytes.{bytes}
use Rattle.text.specs.Writing.{AllShort}
use Rattle.sheet.specs.Layouts.{Line, lines_laid}
use Rattle.sheet.specs.Sheet.{Sheet}

abbrev pub site_numbers : SiteValues → List ℕ
site_numbers v = v.ssd ∷ v.s1d ∷ v.ssm ∷ v.s1m ∷ v.nad ∷ v.nvd ∷ v.nam ∷ v.nvm ∷ v.class ∷ []

abbrev pub one_pair_numbers : SiteValues → List ℕ
one_pair_numbers v = v.ssd ∷ v.s1d ∷ v.ssm ∷ v.s1m ∷ v.nad ∷ v.nvd ∷ v.class ∷ []

abbrev pub frame_numbers : FrameValues → List ℕ
frame_numbers v = v.kind ∷ v.calculated ∷ v.r ∷ v.i ∷ v.alpha ∷ []

abbrev pub site_line : List ℕ → Line
site_line ns = record { word = bytes "site"; numbers = ns }

pub data GroundLine : GroundValues → Line → Type 0 where
  two_pairs : (v : SiteValues) → GroundLine (Site v) (site_line (site_numbers v))
  one_pair : (v : SiteValues) → v.nam ≡ v.nad → v.nvm ≡ v.nvd → GroundLine (Site v) (site_line (one_pair_numbers v))
  zone : (z : ℕ) → GroundLine (Basin z) (record { word = bytes "basin"; numbers = z ∷ [] })

abbrev pub level_lines_of : List ℕ → List ℕ → List Line
level_lines_of [] hs = []
level_lines_of (w ∷ ws) [] = []
level_lines_of (w ∷ ws) (h ∷ hs) = record { word = bytes "level"; numbers = w ∷ h ∷ [] } ∷ level_lines_of ws hs

abbrev pub lines_of : Line → Sheet → List Line
lines_of l r =
    l
    ∷ record { word = bytes "frame"; numbers = frame_numbers r.frame }
    ∷ level_lines_of r.levels.weights r.levels.heights

unfoldable pub sheet_laid : Line → Sheet → List ℕ
sheet_laid l r = lines_laid (lines_of l r)

pub record Laid (l : Line) (r : Sheet) : Type 0 where
  pub first : GroundLine r.ground l
  pub ground : AllShort l.numbers
  pub frame : AllShort (frame_numbers r.frame)
  pub weights : AllShort r.levels.weights
  pub heights : AllShort r.levels.heights
  pub same : length r.levels.weights ≡ length r.levels.heights
  pub fits : length (sheet_laid l r) ≤ 4_096
