-- A job of a district as it is lent: eighteen numbers.
--   Entered      the ground, the frame, and the stretch of the store: where it starts, from 0, and how many levels it has
--   entered j    what the numbers j are: the first is 0 on a site and anything else in the Taipei Basin; then the zone; the nine numbers of a site line; the
--                five of a frame line; start and count. On a site the zone plays no part, in the Basin the nine numbers
--   site_in j, frame_in j    the site and the frame among them
use Rattle.std.specs.Prelude.{List, ℕ, eqb, get_or}
use Rattle.whole.specs.Choice.{pick}
use Rattle.limits.specs.declared.frame.FrameValues.{FrameValues}
use Rattle.limits.specs.declared.ground.GroundValues.{GroundValues}
use Rattle.limits.specs.declared.ground.GroundValues.TheVariants.{Site, Basin}
use Rattle.limits.specs.declared.site.SiteValues.{SiteValues}

pub record Entered : Type 0 where
  pub ground : GroundValues
  pub frame : FrameValues
  pub start : ℕ
  pub count : ℕ

abbrev pub site_in : List ℕ → SiteValues
site_in j =
    record {
      ssd = get_or j 2 0;
      s1d = get_or j 3 0;
      ssm = get_or j 4 0;
      s1m = get_or j 5 0;
      nad = get_or j 6 0;
      nvd = get_or j 7 0;
      nam = get_or j 8 0;
      nvm = get_or j 9 0;
      class = get_or j 10 0;
    }

abbrev pub frame_in : List ℕ → FrameValues
frame_in j =
    record { kind = get_or j 11 0; calculated = get_or j 12 0; r = get_or j 13 0; i = get_or j 14 0; alpha = get_or j 15 0 }

abbrev pub entered : List ℕ → Entered
entered j =
    record {
      ground = pick (eqb (get_or j 0 0) 0) (Site (site_in j)) (Basin (get_or j 1 0));
      frame = frame_in j;
      start = get_or j 16 0;
      count = get_or j 17 0;
    }
