-- 'V uses the first pair, V_M the second, V* neither': of two shear calls, and of two jobs, on sites of one class with one frame line and one building.
--   ByPairs v u n m    of site lines v and u with figures n and m: V is the same where the mapped values and the pair of the design level are, V_M where
--                      those of the MCE level are, and V* where the mapped values of the design level are
-- Assumes nothing.
use Rattle.std.specs.Prelude.{Ok}
use mathlib.Core.Path.{◌≡◌, sym, ap, ◌∙◌}
use mathlib.Core.List.{List}
use Prim.Native.Nat.{ℕ}
use Rattle.limits.specs.declared.class.Class.{Class}
use Rattle.limits.specs.declared.frame.Frame.{Frame}
use Rattle.limits.specs.declared.frame.FrameValues.{FrameValues}
use Rattle.limits.specs.declared.ground.Ground.{Ground}
use Rattle.limits.specs.declared.ground.Ground.TheVariants.{Site as OnSite}
use Rattle.limits.specs.declared.ground.GroundValues.TheVariants.{Site}
use Rattle.limits.specs.declared.judging.Given.{Given}
use Rattle.limits.specs.declared.site.SiteValues.{SiteValues}
use Rattle.limits.specs.Building.{judged_building}
use Rattle.limits.specs.Frame.{judged_frame}
use Rattle.limits.specs.Ground.{judged_ground}
use Rattle.limits.specs.Judging.{judged_shear_call}
use Rattle.limits.specs.Outcome.{accepted, Answer}
use Rattle.limits.specs.Class.{judged_class}
use Rattle.limits.specs.Site.{site_of, judged_mapped, judged_near_fault, judged_site}
use Rattle.limits.proofs.Passed.{one_value, then_passed, bind_passed}
use Rattle.base_shear.specs.declared.Figures.{Figures}
use Rattle.site.specs.Lines.{lines}
use Rattle.site.specs.SiteHazards.{design_hazard, mce_hazard}
use Rattle.response.specs.Period.{period_of}
use Rattle.response.specs.Unit.{unit}
use Rattle.base_shear.specs.Shears.{newtons, modified_at, blended_at, shear, star, figures_at}
use Rattle.job.specs.Distribution.{Buffers}
use Rattle.job.specs.Job.{Answers}
use Rattle.job.specs.ShearCall.{building_figures, Sheared}
use Rattle.job.proofs.CalledInTurn.{job_parted}
use Rattle.job.proofs.Sheared.{taken_accepted}

pub record ByPairs (v u : SiteValues) (n m : Figures) : Type 0 where
  pub first_pair : v.ssd ≡ u.ssd → v.s1d ≡ u.s1d → v.nad ≡ u.nad → v.nvd ≡ u.nvd → n.v ≡ m.v
  pub second_pair : v.ssm ≡ u.ssm → v.s1m ≡ u.s1m → v.nam ≡ u.nam → v.nvm ≡ u.nvm → n.vm ≡ m.vm
  pub neither_pair : v.ssd ≡ u.ssd → v.s1d ≡ u.s1d → n.star ≡ m.star

-- ---- what is given where the shear call accepts a site
record OnLine (v : SiteValues) (f : FrameValues) (g : Given) : Type 0 where
  pub class : Class
  pub classed : judged_class v.class ≡ accepted class
  pub frame : Frame
  pub framed : judged_frame f ≡ accepted frame
  pub is : record { ground = OnSite (site_of v class); frame = frame } ≡ g

on_line : (v : SiteValues) (f : FrameValues) (W h : ℕ) (g : Given) → judged_shear_call (Site v) f W h ≡ accepted g → OnLine v f g
unfolding judged_shear_call judged_site
on_line v f W h g e =
    let building = then_passed (judged_building W h) _ e in
    let ground = bind_passed (judged_ground (Site v)) _ building.1 in
    let frame = bind_passed (judged_frame f) (λ y. accepted (record { ground = ground.0; frame = y })) ground.2 in
    let site = bind_passed (judged_site v) (λ s. accepted (OnSite s)) ground.1 in
    let mapped = then_passed (judged_mapped v) _ site.1 in
    let near = then_passed (judged_near_fault v) _ mapped.1 in
    let class = bind_passed (judged_class v.class) (λ c. accepted (site_of v c)) near.1 in
    let same : OnSite (site_of v class.0) ≡ ground.0 = ap OnSite (one_value class.2) ∙ one_value site.2 in
    record {
      class = class.0;
      classed = class.1;
      frame = frame.0;
      framed = frame.1;
      is = ap (λ (x : Ground). record { ground = x; frame = frame.0 }) same ∙ one_value frame.2;
    }

-- ---- two shear calls
module _ (f : FrameValues) (W h : ℕ) (n m : Figures) (v u : SiteValues) (same : v.class ≡ u.class)
    (p : Sheared (Site v) f W h (Ok n)) (q : Sheared (Site u) f W h (Ok m)) where
  record OneFrame : Type 0 where
    pub class : Class
    pub frame : Frame
    pub first : n ≡ building_figures (record { ground = OnSite (site_of v class); frame = frame }) W h
    pub second : m ≡ building_figures (record { ground = OnSite (site_of u class); frame = frame }) W h

  one_frame : OneFrame
  one_frame =
      let x = taken_accepted (Site v) f W h n p in
      let y = taken_accepted (Site u) f W h m q in
      let on = on_line v f W h x.given x.judged in
      let and = on_line u f W h y.given y.judged in
      let class : on.class ≡ and.class = one_value (sym on.classed ∙ ap judged_class same ∙ and.classed) in
      let frame : on.frame ≡ and.frame = one_value (sym on.framed ∙ and.framed) in
      let given : record { ground = OnSite (site_of u on.class); frame = on.frame } ≡ y.given =
      (λ i. record { ground = OnSite (site_of u (class i)); frame = frame i }) ∙ and.is in
      record {
        class = on.class;
        frame = on.frame;
        first = x.figures ∙ ap (λ (g : Given). building_figures g W h) (sym on.is);
        second = y.figures ∙ ap (λ (g : Given). building_figures g W h) (sym given);
      }

  abbrev T : ℕ
  T = period_of one_frame.frame.kind one_frame.frame.calculated h

  abbrev R : ℕ
  R = one_frame.frame.r

  pub call_by_pairs : ByPairs v u n m
  unfolding shear star figures_at
  call_by_pairs =
      record {
        first_pair = λ ss s1 na nv.
            ap (λ (k : Figures). k.v) one_frame.first
            ∙ (λ i. newtons unit 14 one_frame.frame W (modified_at unit lines (design_hazard one_frame.class (ss i) (s1 i) (na i) (nv i) R) T))
            ∙ sym (ap (λ (k : Figures). k.v) one_frame.second);
        second_pair = λ ss s1 na nv.
            ap (λ (k : Figures). k.vm) one_frame.first
            ∙ (λ i. newtons unit 14 one_frame.frame W (modified_at unit lines (mce_hazard one_frame.class (ss i) (s1 i) (na i) (nv i) R) T))
            ∙ sym (ap (λ (k : Figures). k.vm) one_frame.second);
        neither_pair = λ ss s1.
            ap (λ (k : Figures). k.star) one_frame.first
            ∙ (λ i. newtons unit 42 one_frame.frame W (blended_at unit lines (design_hazard one_frame.class (ss i) (s1 i) 100 100 R) T))
            ∙ sym (ap (λ (k : Figures). k.star) one_frame.second);
      }

-- ---- two jobs
pub job_by_pairs : (f : FrameValues) (ws hs : List ℕ) (b c b' c' : Buffers) (n m : Figures) (v u : SiteValues) → v.class ≡ u.class
    → Answers (Site v) f ws hs b (Ok n) b' → Answers (Site u) f ws hs c (Ok m) c' → ByPairs v u n m
job_by_pairs f ws hs b c b' c' n m v u same p q =
    call_by_pairs f _ _ n m v u same (job_parted (Site v) f ws hs b n b' p).0 (job_parted (Site u) f ws hs c m c' q).0
