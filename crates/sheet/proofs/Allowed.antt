-- A sheet of numbers that a job accepts is short enough: 9 digits a number, 4,096 bytes in all.
-- Assumes nothing.
use mathlib.Core.Path.{◌≡◌, refl, sym, subst}
use mathlib.Core.Bool.{Bool, true, false}
use mathlib.Core.List.{List, [], ◌∷◌}
use Prim.Native.Nat.{ℕ, suc, ◌*◌, ◌≤◌, ◌<◌}
use native.Mathlib.Omega.{arith}
use lib.Dec.{eqb}
use lib.ListN.{length, get_or, length-append}
use borrow.Author.Tests.{eqb-true}
use Rattle.whole.specs.Choice.{pick}
use Rattle.limits.specs.declared.frame.Frame.{Frame}
use Rattle.limits.specs.declared.frame.FrameValues.{FrameValues}
use Rattle.limits.specs.declared.kind.Kind.{Kind}
use Rattle.limits.specs.declared.ground.Ground.{Ground}
use Rattle.limits.specs.declared.ground.Ground.TheVariants.{Site as OnSite, Basin as InBasin}
use Rattle.limits.specs.declared.ground.GroundValues.{GroundValues}
use Rattle.limits.specs.declared.judging.Given.{Given}
use Rattle.limits.specs.declared.class.Class.{Class}
use Rattle.limits.specs.declared.site.Site.{Site}
use Rattle.limits.specs.declared.site.SiteValues.{SiteValues}
use Rattle.limits.specs.declared.zone.Zone.{Zone}
use Rattle.limits.specs.Allowed.{AllowedSite, AllowedFrame}
use Rattle.limits.specs.Kind.{judged_kind}
use Rattle.limits.specs.Frame.{judged_period, frame_of, judged_frame}
use Rattle.limits.specs.Ground.{judged_ground}
use Rattle.limits.specs.Judging.{judged_job}
use Rattle.limits.specs.Levels.{judged_levels}
use Rattle.limits.specs.Outcome.{Outcome, accepted, ◌>>◌}
use Rattle.limits.specs.Ranges.{within, listed}
use Rattle.limits.specs.Class.{judged_class}
use Rattle.limits.specs.Site.{site_of, judged_mapped, judged_near_fault, judged_site}
use Rattle.limits.specs.Zone.{judged_zone}
use Rattle.limits.proofs.AcceptedGround.{site_allowed}
use Rattle.limits.proofs.Accepted.{frame_allowed}
use Rattle.limits.proofs.AcceptedLevels.{levels_allowed}
use Rattle.limits.proofs.Passed.{never, one_value, then_passed, bind_passed}
use Rattle.text.specs.Bytes.{bytes}
use Rattle.text.specs.Writing.{AllShort}
use Rattle.text.proofs.Trip.{line_short}
use Rattle.sheet.specs.Laid.{site_numbers, one_pair_numbers, frame_numbers, GroundLine, two_pairs, one_pair, zone, level_lines_of, sheet_laid, Laid}
use Rattle.sheet.specs.Layouts.{Line, line_laid, lines_laid}
use Rattle.sheet.specs.Sheet.{Sheet}

-- a number that is chosen from a list of numbers up to m
chosen : {A : Type 0} (m k n : ℕ) (a c : A) (o : Outcome A) → k ≤ m → (o ≡ accepted c → n ≤ m)
    → pick (eqb n k) (accepted a) o ≡ accepted c → n ≤ m
chosen m k n a c o h f e = go (eqb n k) refl e
  where
    go : (t : Bool) → eqb n k ≡ t → pick t (accepted a) o ≡ accepted c → n ≤ m
    go true q u = omega (arith, eqb-true n k q)
    go false q u = f u

class_small : (n : ℕ) (c : Class) → judged_class n ≡ accepted c → n ≤ 3
unfolding judged_class
class_small n c =
    chosen 3 1 n _ c _ (omega arith) (chosen 3 2 n _ c _ (omega arith) (chosen 3 3 n _ c _ (omega arith) (λ e. absurd (never e))))

zone_small : (n : ℕ) (z : Zone) → judged_zone n ≡ accepted z → n ≤ 4
unfolding judged_zone
zone_small n z =
    chosen 4 1 n _ z _ (omega arith)
    (chosen 4 2 n _ z _ (omega arith)
    (chosen 4 3 n _ z _ (omega arith) (chosen 4 4 n _ z _ (omega arith) (λ e. absurd (never e)))))

kind_small : (n : ℕ) (k : Kind) → judged_kind n ≡ accepted k → n ≤ 4
unfolding judged_kind
kind_small n k =
    chosen 4 1 n _ k _ (omega arith)
    (chosen 4 2 n _ k _ (omega arith)
    (chosen 4 3 n _ k _ (omega arith) (chosen 4 4 n _ k _ (omega arith) (λ e. absurd (never e)))))

site_short : (v : SiteValues) (s : Site) → judged_site v ≡ accepted s → AllShort (site_numbers v)
unfolding judged_site
site_short v s e =
    let mapped = then_passed (judged_mapped v) _ e in
    let near = then_passed (judged_near_fault v) _ mapped.1 in
    let class = bind_passed (judged_class v.class) (λ c. accepted (site_of v c)) near.1 in
    let a = subst AllowedSite (sym (one_value class.2)) (site_allowed v s e) in
    let c = class_small v.class class.0 class.1 in (
      omega (arith, a.ssd),
      (
        omega (arith, a.s1d),
        (
          omega (arith, a.ssm),
          (
            omega (arith, a.s1m),
            (
              omega (arith, a.nad),
              (omega (arith, a.nvd), (omega (arith, a.nam), (omega (arith, a.nvm), (omega arith, tt)))),
            ),
          ),
        ),
      ),
    )

one_pair_short : (v : SiteValues) → AllShort (site_numbers v) → AllShort (one_pair_numbers v)
one_pair_short v s =
    let near = s.1.1.1.1 in
    (s.0, (s.1.0, (s.1.1.0, (s.1.1.1.0, (near.0, (near.1.0, (near.1.1.1.1.0, tt)))))))

ground_short : (v : GroundValues) (l : Line) (g : Ground) → GroundLine v l → judged_ground v ≡ accepted g → AllShort l.numbers
ground_short g' l g (two_pairs v) e =
    let site = bind_passed (judged_site v) (λ s. accepted (OnSite s)) e in
    site_short v site.0 site.1
ground_short g' l g (one_pair v a b) e =
    let site = bind_passed (judged_site v) (λ s. accepted (OnSite s)) e in
    one_pair_short v (site_short v site.0 site.1)
ground_short g' l g (zone n) e =
    let zone = bind_passed (judged_zone n) (λ z. accepted (InBasin z)) e in
    let small = zone_small n zone.0 zone.1 in
    (omega arith, tt)

ground_length : (v : GroundValues) (l : Line) → GroundLine v l → AllShort l.numbers → length (line_laid l) ≤ 95
ground_length g l (two_pairs v) s = omega (arith, line_short (bytes "site") (site_numbers v) s)
ground_length g l (one_pair v a b) s = omega (arith, line_short (bytes "site") (one_pair_numbers v) s)
ground_length g l (zone n) s = omega (arith, line_short (bytes "basin") (n ∷ []) s)

frame_short : (v : FrameValues) (f : Frame) → judged_frame v ≡ accepted f → AllShort (frame_numbers v)
unfolding judged_frame
frame_short v f e =
    let r = then_passed (within 100 600 v.r 8 0) _ e in
    let i = then_passed (listed (100 ∷ 125 ∷ 150 ∷ []) v.i 9 0) _ r.1 in
    let al = then_passed (within 100 200 v.alpha 10 0) _ i.1 in
    let kind = bind_passed (judged_kind v.kind) (λ k. judged_period v.calculated >> accepted (frame_of v k)) al.1 in
    let period = then_passed (judged_period v.calculated) (accepted (frame_of v kind.0)) kind.2 in
    let a = subst AllowedFrame (sym (one_value period.1)) (frame_allowed v f e) in
    let k = kind_small v.kind kind.0 kind.1 in
    (omega arith, (omega (arith, a.period), (omega (arith, a.r), (omega (arith, a.i), (omega (arith, a.alpha), tt)))))

all_short : (l : List ℕ) → ((x : ℕ) → x < length l → get_or l x 0 ≤ 999_999_999) → AllShort l
all_short [] f = tt
all_short (a ∷ l) f = (f 0 (omega arith), all_short l (λ x h. f (suc x) (omega arith)))

levels_length : (ws hs : List ℕ) → AllShort ws → AllShort hs → length (lines_laid (level_lines_of ws hs)) ≤ 26 * length ws
levels_length [] hs s t = omega arith
levels_length (w ∷ ws) [] s t = omega arith
levels_length (w ∷ ws) (h ∷ hs) s t =
    simp length-append
    (omega (arith, levels_length ws hs s.1 t.1, line_short (bytes "level") (w ∷ h ∷ []) (s.0, (t.0, tt))))

-- the judgments of the job of what a sheet holds
abbrev pub judged_sheet : Sheet → Outcome Given
judged_sheet r = judged_job r.ground r.frame r.levels.weights r.levels.heights (length r.levels.weights)

pub allowed_laid : (l : Line) (r : Sheet) (room : ℕ) (g : Given) → GroundLine r.ground l
    → judged_job r.ground r.frame r.levels.weights r.levels.heights room ≡ accepted g → Laid l r
unfolding judged_job sheet_laid
allowed_laid first r room g holds e =
    let levels = then_passed (judged_levels r.levels.weights r.levels.heights room) _ e in
    let ground = bind_passed (judged_ground r.ground) _ levels.1 in
    let frame = bind_passed (judged_frame r.frame) (λ y. accepted (record { ground = ground.0; frame = y })) ground.2 in
    let l = (levels_allowed r.levels.weights r.levels.heights room levels.0).0 in
    let ws = all_short r.levels.weights (λ x h. omega (arith, l.weights x h)) in
    let hs = all_short r.levels.heights (λ x h. omega (arith, l.heights x h)) in
    let gs = ground_short r.ground first ground.0 holds ground.1 in
    let fs = frame_short r.frame frame.0 frame.1 in
    record {
      first = holds;
      ground = gs;
      frame = fs;
      weights = ws;
      heights = hs;
      same = sym l.same;
      fits =
          simp length-append
          (omega (
            arith,
            l.few,
            levels_length r.levels.weights r.levels.heights ws hs,
            ground_length r.ground first holds gs,
            line_short (bytes "frame") (frame_numbers r.frame) fs,
          ));
    }
