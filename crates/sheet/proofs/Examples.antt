-- The definitions, run on document 01's sheet and on the same in zone 1 of the Taipei Basin, on some that are otherwise, and on the figures
-- of their listings.
-- Assumes nothing.
use mathlib.Core.Path.{◌≡◌, refl, ap, ◌∙◌}
use mathlib.Core.List.{List, [], ◌∷◌, ◌++◌}
use Prim.Native.Nat.{ℕ}
use Rattle.limits.specs.declared.ground.GroundValues.TheVariants.{Site, Basin}
use Rattle.limits.specs.Outcome.{Outcome, accepted, refused, ◌>>=◌}
use Rattle.limits.specs.Ranges.{in_range}
use Rattle.text.specs.Bytes.{bytes}
use Rattle.text.specs.Line.{field, fields, line}
use Rattle.text.specs.Number.{digits, value_from, well_made, number}
use Rattle.text.specs.Reading.{starts, word}
use Rattle.text.specs.Writing.{digits_of, decimal, field_of, fields_of, laid_out}
use Rattle.job.proofs.Worked.{worked}
use Rattle.job.proofs.WorkedBasin.{worked_basin}
use Rattle.job.proofs.WorkedNearFault.{worked_near_fault}
use Rattle.sheet.specs.Listing.{roof_first, results_listing, refusal, listing, job_of_sheet, sheet_listing}
use Rattle.sheet.specs.Lines.{line_in, lines_from}
use Rattle.sheet.specs.Reading.{sheet_lines, read_sheet}
use Rattle.sheet.specs.Sheet.{Sheet}

abbrev levels : List ℕ
levels = bytes "level\t5000\t100\n" ++ (bytes "level\t5000\t200\n" ++ bytes "level\t5000\t300\n")

abbrev building : List ℕ
building = bytes "frame\t2\t1000\t480\t100\t150\n" ++ levels

abbrev office : List ℕ
office = bytes "site\t80\t45\t100\t55\t100\t100\t1\n" ++ building

abbrev near_fault : List ℕ
near_fault =
    bytes "site\t80\t45\t100\t55\t112\t123\t118\t136\t1\n" ++ (bytes "frame\t2\t500\t480\t100\t150\n" ++ levels)

abbrev basin : List ℕ
basin = bytes "basin\t1\n" ++ building

office_read : read_sheet office ≡ accepted (record {
  ground = Site (record { ssd = 80; s1d = 45; ssm = 100; s1m = 55; nad = 100; nvd = 100; nam = 100; nvm = 100; class = 1 });
  frame = record { kind = 2; calculated = 1_000; r = 480; i = 100; alpha = 150 };
  levels = record { weights = 5_000 ∷ 5_000 ∷ 5_000 ∷ []; heights = 100 ∷ 200 ∷ 300 ∷ [] };
})
unfolding read_sheet sheet_lines line_in lines_from line fields field word starts number digits well_made in_range value_from
office_read = refl

pub near_fault_read : read_sheet near_fault ≡ accepted (record {
  ground = Site (record { ssd = 80; s1d = 45; ssm = 100; s1m = 55; nad = 112; nvd = 123; nam = 118; nvm = 136; class = 1 });
  frame = record { kind = 2; calculated = 500; r = 480; i = 100; alpha = 150 };
  levels = record { weights = 5_000 ∷ 5_000 ∷ 5_000 ∷ []; heights = 100 ∷ 200 ∷ 300 ∷ [] };
})
unfolding read_sheet sheet_lines line_in lines_from line fields field word starts number digits well_made in_range value_from
near_fault_read = refl

-- eight numbers, and ten
pub site_otherwise : (read_sheet (bytes "site\t80\t45\t100\t55\t112\t123\t118\t1\n" ++ building) ≡ refused 16 1)
    × (read_sheet (bytes "site\t80\t45\t100\t55\t112\t123\t118\t136\t1\t1\n" ++ building) ≡ refused 16 1)
unfolding read_sheet sheet_lines line_in lines_from line fields field word starts number digits well_made in_range value_from
site_otherwise = (refl, refl)

pub basin_read : read_sheet basin ≡ accepted (record {
  ground = Basin 1;
  frame = record { kind = 2; calculated = 1_000; r = 480; i = 100; alpha = 150 };
  levels = record { weights = 5_000 ∷ 5_000 ∷ 5_000 ∷ []; heights = 100 ∷ 200 ∷ 300 ∷ [] };
})
unfolding read_sheet sheet_lines line_in lines_from line fields field word starts number digits well_made in_range value_from
basin_read = refl

-- no zone, two numbers, the numbers of a site
pub basin_otherwise : (read_sheet (bytes "basin\n" ++ building) ≡ refused 16 1) × (read_sheet (bytes "basin\t1\t1\n" ++ building) ≡ refused 16 1)
    × (read_sheet (bytes "basin\t80\t45\t100\t55\t100\t100\t1\n" ++ building) ≡ refused 16 1)
unfolding read_sheet sheet_lines line_in lines_from line fields field word starts number digits well_made in_range value_from
basin_otherwise = (refl, refl, refl)

pub otherwise_read : (read_sheet [] ≡ refused 16 1) × (read_sheet (bytes "site\t80\t45\t100\t55\t100\t100\t1\n") ≡ refused 16 2)
    × (read_sheet (office ++ bytes "\n") ≡ refused 16 6)
unfolding read_sheet sheet_lines line_in lines_from line fields field word starts number digits well_made in_range value_from
otherwise_read = (refl, refl, refl)

office_listed : results_listing (record { v = 909_704; vm = 818_453; star = 1_071_429; vd = 1_071_429; t = 1_000 })
    (166_071 ∷ 332_143 ∷ 573_215 ∷ []) (1_071_429 ∷ 905_358 ∷ 573_215 ∷ []) (255_000_200 ∷ 147_857_300 ∷ 57_321_500 ∷ [])
    ≡ bytes "base\t909704\t818453\t1071429\t1071429\t1000\n" ++ (bytes "level\t3\t573215\t573215\t57321500\n"
    ++ (bytes "level\t2\t332143\t905358\t147857300\n" ++ bytes "level\t1\t166071\t1071429\t255000200\n"))
unfolding results_listing roof_first laid_out fields_of field_of decimal digits_of
office_listed = refl

pub near_fault_listed : results_listing (record { v = 2_116_869; vm = 2_177_765; star = 1_904_762; vd = 2_177_765; t = 500 })
    (362_960 ∷ 725_922 ∷ 1_088_883 ∷ []) (2_177_765 ∷ 1_814_805 ∷ 1_088_883 ∷ []) (508_145_300 ∷ 290_368_800 ∷ 108_888_300 ∷ [])
    ≡ bytes "base\t2116869\t2177765\t1904762\t2177765\t500\n" ++ (bytes "level\t3\t1088883\t1088883\t108888300\n"
    ++ (bytes "level\t2\t725922\t1814805\t290368800\n" ++ bytes "level\t1\t362960\t2177765\t508145300\n"))
unfolding results_listing roof_first laid_out fields_of field_of decimal digits_of
near_fault_listed = refl

pub basin_listed : results_listing (record { v = 1_917_367; vm = 1_873_973; star = 1_714_286; vd = 1_917_367; t = 1_000 })
    (297_191 ∷ 594_384 ∷ 1_025_792 ∷ []) (1_917_367 ∷ 1_620_176 ∷ 1_025_792 ∷ []) (456_333_500 ∷ 264_596_800 ∷ 102_579_200 ∷ [])
    ≡ bytes "base\t1917367\t1873973\t1714286\t1917367\t1000\n" ++ (bytes "level\t3\t1025792\t1025792\t102579200\n"
    ++ (bytes "level\t2\t594384\t1620176\t264596800\n" ++ bytes "level\t1\t297191\t1917367\t456333500\n"))
unfolding results_listing roof_first laid_out fields_of field_of decimal digits_of
basin_listed = refl

pub refusal_listed : refusal 16 80 ≡ bytes "refused\t16\t80\n"
unfolding refusal laid_out fields_of field_of decimal digits_of
refusal_listed = refl

-- document 01's sheet gets document 01's listing
pub office_answered : sheet_listing office ≡ bytes "base\t909704\t818453\t1071429\t1071429\t1000\n"
    ++ (bytes "level\t3\t573215\t573215\t57321500\n"
    ++ (bytes "level\t2\t332143\t905358\t147857300\n" ++ bytes "level\t1\t166071\t1071429\t255000200\n"))
unfolding sheet_listing listing
office_answered =
    ap (λ (o : Outcome Sheet). listing (o >>= job_of_sheet)) office_read ∙ ap listing worked ∙ office_listed

-- and near a fault, with a pair for each hazard level, this one
pub near_fault_answered : sheet_listing near_fault ≡ bytes "base\t2116869\t2177765\t1904762\t2177765\t500\n"
    ++ (bytes "level\t3\t1088883\t1088883\t108888300\n"
    ++ (bytes "level\t2\t725922\t1814805\t290368800\n" ++ bytes "level\t1\t362960\t2177765\t508145300\n"))
unfolding sheet_listing listing
near_fault_answered =
    ap (λ (o : Outcome Sheet). listing (o >>= job_of_sheet)) near_fault_read ∙ ap listing worked_near_fault.0 ∙ near_fault_listed

-- and in zone 1 of the Basin this one
pub basin_answered : sheet_listing basin ≡ bytes "base\t1917367\t1873973\t1714286\t1917367\t1000\n"
    ++ (bytes "level\t3\t1025792\t1025792\t102579200\n"
    ++ (bytes "level\t2\t594384\t1620176\t264596800\n" ++ bytes "level\t1\t297191\t1917367\t456333500\n"))
unfolding sheet_listing listing
basin_answered =
    ap (λ (o : Outcome Sheet). listing (o >>= job_of_sheet)) basin_read ∙ ap listing worked_basin.0 ∙ basin_listed
