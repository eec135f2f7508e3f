-- What the entries reply to a program in C: the number is returned, 0 on success; what else there is goes into what the caller lends.
--   said r                        number and place of what is refused, zeros where nothing is
--   Replies f k o n r             n is the number of the outcome o; r is its place, then the values f, k zeros where data is refused
--   FiguresReply o, NumberReply o, ClassReply o, TorsionReply o    of figures: V, V_M, V*, V_D and T; of a number; of a class: its number; of torsion: its
--                                 factor
--   LaidReplies lay o old n p held    n is the number of the outcome o, p its place; held is what is held that held old, where a value x is laid by `lay x`
--   on_site l, in_basin z           the ground of the nine numbers l of a site, and of a zone z
--   JobReplies g m ws hs b n r b'   so for the job of a ground g and a frame line m; b' is what the buffers hold that held b
--   FiguresReplies, LogReplies    so for the five figures alone, and for a soil log
--   ShearCallReplies g m W h n r  so for the shear call of a total weight W and a top height h
--   DistributionReplies v T ws hs b n p b'    n is the number of the distribution of a base shear v at a period T, p its place; b' is what the buffers
--                                 hold that held b
--   report_numbers r               a report as numbers: jobs accepted and refused, the sum of V_D, how often V, V_M and V* governed, the cells
--   DistrictReplies js ws hs old n r held    n is the number of a district of the jobs js and the store ws and hs, r its report; held is what the row
--                                 buffer holds that held old
--   DriftReplies hs zs m old, TorsionReplies l a, MomentsReplies v T ws hs d b    so for drift, for torsion and for accidental moments
--   SheetReplies s old n held r   n is the number of the outcome of a sheet s; an array that held old holds its listing in the first bytes, the
--                                 rest as it was; r is its place, and the length of the listing
--   version, edition, source      of the library, of the code, of the rules: three things
use Rattle.std.specs.Prelude.{◌≡◌, List, [], ◌∷◌, ℕ, ℤ, length, Option, Some, None}
use Rattle.whole.specs.Cells.{laid}
use Rattle.limits.specs.declared.class.Class.{Class}
use Rattle.limits.specs.declared.ground.GroundValues.{GroundValues}
use Rattle.limits.specs.declared.ground.GroundValues.TheVariants.{Site, Basin}
use Rattle.limits.specs.declared.refusal.Refusal.{Refusal}
use Rattle.limits.specs.Frame.{frame_values}
use Rattle.limits.specs.Site.{site_values}
use Rattle.limits.specs.Outcome.{Outcome, number, place, values}
use Rattle.base_shear.specs.declared.Figures.{Figures}
use Rattle.soil.specs.Class.{table3, class_number}
use Rattle.soil.specs.Log.{site_class}
use Rattle.job.specs.Distribution.{distribution_of, Buffers, shortest, filled}
use Rattle.job.specs.Job.{job_of, figures_only, written}
use Rattle.job.specs.ShearCall.{shear_call_of, five}
use Rattle.district_call.specs.declared.report.Report.{Report}
use Rattle.district_call.specs.District.{answers_to, district_of, reported, filled_rows}
use Rattle.drift.specs.Answering.{after}
use Rattle.drift.specs.Drift.{drift_of}
use Rattle.drift.specs.Torsion.{torsion_of}
use Rattle.drift.specs.Accidental.{moments_of, MomentBuffers, shorter, laid_each_way}
use Rattle.sheet.specs.Listing.{outcome_of, sheet_listing}

abbrev pub said : Option Refusal → ℕ × ℕ
said (Some r) = (r.number, r.place)
said None = (0, 0)

pub record Replies {A : Type 0} (f : A → List ℕ) (k : ℕ) (o : Outcome A) (n : ℕ) (r : List ℕ) : Type 0 where
  pub returned : n ≡ number o
  pub replied : r ≡ place o ∷ values f k o

abbrev pub FiguresReply : Outcome Figures → ℕ → List ℕ → Type 0
FiguresReply = Replies five 5

abbrev pub NumberReply : Outcome ℕ → ℕ → List ℕ → Type 0
NumberReply = Replies (λ (k : ℕ). k ∷ []) 1

abbrev pub ClassReply : Outcome Class → ℕ → List ℕ → Type 0
ClassReply = Replies (λ (c : Class). class_number c ∷ []) 1

abbrev pub TorsionReply : Outcome ℕ → ℕ → List ℕ → Type 0
TorsionReply = NumberReply

pub record LaidReplies {A B : Type 0} (lay : A → B → B) (o : Outcome A) (old : B) (n p : ℕ) (held : B) : Type 0 where
  pub returned : n ≡ number o
  pub placed : p ≡ place o
  pub lent : held ≡ after lay o old

abbrev pub on_site : List ℕ → GroundValues
on_site l = Site (site_values l)

abbrev pub in_basin : ℕ → GroundValues
in_basin z = Basin z

abbrev pub JobReplies : GroundValues → List ℕ → List ℕ → List ℕ → Buffers → ℕ → List ℕ → Buffers → Type 0
JobReplies g m ws hs b n r b' =
    let o = job_of g (frame_values m) ws hs (shortest b) in
    FiguresReply (figures_only o) n r × (b' ≡ written o b)

abbrev pub FiguresReplies : GroundValues → List ℕ → List ℕ → List ℕ → ℕ → List ℕ → Type 0
FiguresReplies g m ws hs n r = FiguresReply (figures_only (job_of g (frame_values m) ws hs (length ws))) n r

abbrev pub ShearCallReplies : GroundValues → List ℕ → ℕ → ℕ → ℕ → List ℕ → Type 0
ShearCallReplies g m W h n r = FiguresReply (shear_call_of g (frame_values m) W h) n r

pub record DistributionReplies (v T : ℕ) (ws hs : List ℕ) (b : Buffers) (n p : ℕ) (b' : Buffers) : Type 0 where
  pub returned : n ≡ number (distribution_of v T ws hs (shortest b))
  pub placed : p ≡ place (distribution_of v T ws hs (shortest b))
  pub buffers : b' ≡ filled (distribution_of v T ws hs (shortest b)) b

abbrev pub report_numbers : Report → List ℕ
report_numbers r =
    r.totals.accepted
    ∷ r.totals.refused
    ∷ r.totals.sum
    ∷ r.totals.v
    ∷ r.totals.vm
    ∷ r.totals.star
    ∷ r.cells

pub record DistrictReplies (js : List (List ℕ)) (ws hs : List ℕ) (old : List (List ℕ)) (n : ℕ) (r : List ℕ) (held : List (List ℕ)) : Type 0 where
  pub returned : n ≡ number (district_of js ws hs (length old))
  pub replied : r ≡ report_numbers (reported (district_of js ws hs (length old)))
  pub rows : held ≡ filled_rows (district_of js ws hs (length old)) (answers_to js ws hs) old

abbrev pub DriftReplies : List ℕ → List ℤ → ℕ → List ℕ → ℕ → ℕ → List ℕ → Type 0
DriftReplies hs zs m old n p held = LaidReplies laid (drift_of hs zs m (length old)) old n p held

abbrev pub TorsionReplies : ℕ → ℕ → ℕ → List ℕ → Type 0
TorsionReplies l a n r = TorsionReply (torsion_of l a) n r

abbrev pub MomentsReplies : ℕ → ℕ → List ℕ → List ℕ → ℕ → MomentBuffers → ℕ → ℕ → MomentBuffers → Type 0
MomentsReplies v T ws hs d b n p b' = LaidReplies laid_each_way (moments_of v T ws hs d (shorter b)) b n p b'

abbrev pub LogReplies : List ℕ → List ℕ → List ℕ → ℕ → List ℕ → Type 0
LogReplies ds ks xs n r = ClassReply (site_class table3 ds ks xs) n r

pub record SheetReplies (s old : List ℕ) (n : ℕ) (held r : List ℕ) : Type 0 where
  pub returned : n ≡ number (outcome_of s)
  pub replied : r ≡ place (outcome_of s) ∷ length (sheet_listing s) ∷ []
  pub listed : held ≡ laid (sheet_listing s) old

abbrev pub version : ℕ
version = 2_006_000

abbrev pub edition : ℕ
edition = 2_005

abbrev pub source : ℕ
source = 6
