-- Numbers 5 to 7: the site.
--   site_values ns         the values that nine numbers write, in sheet order
--   judged_mapped v        5: a mapped value that is not listed, places 1 to 4 in sheet order
--   judged_near_fault v    6: N_A not 1.00 to 1.50, place 1; N_V not 1.00 to 2.00, place 2; those of the MCE level, places 3 and 4
--   site_of v c            the judged site of values v and class c
--   judged_site v          5, 6, 7 in turn
use Rattle.std.specs.Prelude.{List, [], ◌∷◌, ℕ, get_or}
use Rattle.limits.specs.declared.class.Class.{Class}
use Rattle.limits.specs.declared.site.Site.{Site}
use Rattle.limits.specs.declared.site.SiteValues.{SiteValues}
use Rattle.limits.specs.Class.{judged_class}
use Rattle.limits.specs.Outcome.{Outcome, accepted, Done, ◌>>=◌, ◌>>◌}
use Rattle.limits.specs.Ranges.{within, listed}

abbrev pub site_values : List ℕ → SiteValues
site_values ns =
    record {
      ssd = get_or ns 0 0;
      s1d = get_or ns 1 0;
      ssm = get_or ns 2 0;
      s1m = get_or ns 3 0;
      nad = get_or ns 4 0;
      nvd = get_or ns 5 0;
      nam = get_or ns 6 0;
      nvm = get_or ns 7 0;
      class = get_or ns 8 0;
    }

abbrev pub site_of : SiteValues → Class → Site
site_of v c =
    record {
      ssd = v.ssd;
      s1d = v.s1d;
      ssm = v.ssm;
      s1m = v.s1m;
      nad = v.nad;
      nvd = v.nvd;
      nam = v.nam;
      nvm = v.nvm;
      class = c;
    }

unfoldable pub judged_mapped : SiteValues → Outcome Done
judged_mapped v = do
  listed (50 ∷ 60 ∷ 70 ∷ 80 ∷ []) v.ssd 5 1
  listed (30 ∷ 35 ∷ 40 ∷ 45 ∷ []) v.s1d 5 2
  listed (70 ∷ 80 ∷ 90 ∷ 100 ∷ []) v.ssm 5 3
  listed (40 ∷ 45 ∷ 50 ∷ 55 ∷ []) v.s1m 5 4

unfoldable pub judged_near_fault : SiteValues → Outcome Done
judged_near_fault v = do
  within 100 150 v.nad 6 1
  within 100 200 v.nvd 6 2
  within 100 150 v.nam 6 3
  within 100 200 v.nvm 6 4

unfoldable pub judged_site : SiteValues → Outcome Site
judged_site v = do
  judged_mapped v
  judged_near_fault v
  c ← judged_class v.class
  accepted (site_of v c)
