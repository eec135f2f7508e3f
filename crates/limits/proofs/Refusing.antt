-- A refusal that is given to levels, to a site or a zone, or to a frame does apply.
-- Assumes nothing.
use mathlib.Core.Path.{◌≡◌, refl, sym, subst}
use mathlib.Core.Bool.{Bool, true, false, ◌||◌}
use mathlib.Core.List.{List, [], ◌∷◌}
use Prim.Native.Nat.{ℕ, suc, ◌+◌, ◌≤◌, ◌<◌}
use native.Mathlib.Nat.{add-zero}
use native.Mathlib.Omega.{arith}
use lib.Dec.{leb, ltb, eqb}
use lib.ListN.{length, get_or}
use borrow.Author.Tests.{leb-false, ltb-false, eqb-false}
use Rattle.whole.proofs.Choice.{by_test}
use Rattle.limits.specs.declared.frame.FrameValues.{FrameValues}
use Rattle.limits.specs.declared.ground.GroundValues.{GroundValues}
use Rattle.limits.specs.declared.ground.GroundValues.TheVariants.{Site, Basin}
use Rattle.limits.specs.declared.site.SiteValues.{SiteValues}
use Rattle.whole.specs.Cells.{below}
use Rattle.limits.specs.Applies.{OutOf, NotListed, count, lists, buffer, weight, height, rising, LevelsApply, of_count, of_lengths, of_weights, of_heights, SiteApplies, ss_design, s1_design, ss_mce, s1_mce, na_design, nv_design, na_mce, nv_mce, class, ZoneApplies, zone, GroundApplies, FrameApplies, r, i, alpha, kind, period}
use Rattle.limits.specs.Kind.{judged_kind}
use Rattle.limits.specs.Frame.{judged_period, judged_frame}
use Rattle.limits.specs.Ground.{judged_ground}
use Rattle.limits.specs.Lengths.{same_length, roomy}
use Rattle.limits.specs.Levels.{counted, judged_weight, weighed, judged_height, raised, judged_levels}
use Rattle.limits.specs.Outcome.{require}
use Rattle.limits.specs.Ranges.{among, within, listed}
use Rattle.limits.specs.Class.{judged_class}
use Rattle.limits.specs.Site.{judged_mapped, judged_near_fault, judged_site}
use Rattle.limits.specs.Zone.{judged_zone}
use Rattle.limits.proofs.Passed.{differ}
use Rattle.limits.proofs.Told.{Told, then_told, bind_told, require_told, within_told}

-- ---- values that are not listed
not_among : (vs : List ℕ) (x : ℕ) → among vs x ≡ false → NotListed vs x
unfolding among
not_among [] x e = tt
not_among (v ∷ vs) x e = go (λ h. not_among vs x h) (eqb v x) refl e
  where
    go : (among vs x ≡ false → NotListed vs x) → (t : Bool) → eqb v x ≡ t → (t || among vs x) ≡ false → NotListed (v ∷ vs) x
    go rest true q h = absurd (differ h)
    go rest false q h = (λ k. eqb-false v x q (sym k), rest h)

listed_told : (A : ℕ → ℕ → Type 0) (vs : List ℕ) (x n p : ℕ) → (NotListed vs x → A n p) → Told A (listed vs x n p)
unfolding listed
listed_told A vs x n p f = require_told A (among vs x) n p (λ e. f (not_among vs x e))

-- ---- levels, one by one
pub next : (p x : ℕ) → p + suc x ≡ p + 1 + x
next p x = omega arith

weighed_told : (A : ℕ → ℕ → Type 0) (p : ℕ) (ws : List ℕ) → ((x : ℕ) → x < length ws → OutOf 1 20_000 (get_or ws x 0) → A 3 (p + x))
    → Told A (weighed p ws)
unfolding weighed
weighed_told A p [] f = tt
weighed_told A p (w ∷ ws) f =
    then_told A (judged_weight w p) (weighed (p + 1) ws)
    (within_told A 1 20_000 w 3 p (λ o. subst (A 3) (add-zero p) (f 0 (omega arith) o)))
    (λ _. weighed_told A (p + 1) ws (λ x h o. subst (A 3) (next p x) (f (suc x) (omega arith) o)))

pub raised_told : (A : ℕ → ℕ → Type 0) (b p : ℕ) (hs : List ℕ) → ((x : ℕ) → x < length hs → OutOf 1 2_000 (get_or hs x 0) → A 4 (p + x))
    → ((x : ℕ) → x < length hs → get_or hs x 0 ≤ below b hs x → A 4 (p + x)) → Told A (raised b p hs)
unfolding raised
raised_told A b p [] f g = tt
raised_told A b p (a ∷ hs) f g =
    then_told A (judged_height b a p) (raised a (p + 1) hs)
    (then_told A (within 1 2_000 a 4 p) (require (ltb b a) 4 p)
    (within_told A 1 2_000 a 4 p (λ o. subst (A 4) (add-zero p) (f 0 (omega arith) o)))
    (λ _. require_told A (ltb b a) 4 p (λ e. subst (A 4) (add-zero p) (g 0 (omega arith) (ltb-false b a e)))))
    (λ _. raised_told A a (p + 1) hs (λ x h o. subst (A 4) (next p x) (f (suc x) (omega arith) o))
    (λ x h l. subst (A 4) (next p x) (g (suc x) (omega arith) l)))

-- ---- the levels
module _ (ws hs : List ℕ) (room : ℕ) where
  abbrev A : ℕ → ℕ → Type 0
  A = LevelsApply ws hs room

  pub levels_told : Told A (judged_levels ws hs room)
  unfolding judged_levels
  levels_told =
      then_told A (counted (length ws)) _ (within_told A 1 50 (length ws) 1 0 (λ o. of_count (count o)))
      (λ _. then_told A (same_length (length ws) (length hs)) _
      (require_told A (eqb (length hs) (length ws)) 2 0 (λ e. of_lengths (lists (eqb-false _ _ e))))
      (λ _. then_told A (roomy (length ws) room) _
      (require_told A (leb (length ws) room) 2 0 (λ e. of_lengths (buffer (leb-false _ _ e))))
      (λ _. then_told A (weighed 1 ws) (raised 0 1 hs)
      (weighed_told A 1 ws (λ x l o. of_weights (weight x l o)))
      (λ _. raised_told A 0 1 hs (λ x l o. of_heights (height x l o)) (λ x l o. of_heights (rising x l o))))))

-- ---- the site
module _ (s : SiteValues) where
  abbrev S : ℕ → ℕ → Type 0
  S = SiteApplies s

  site_told : Told S (judged_site s)
  unfolding judged_site judged_mapped judged_near_fault judged_class
  site_told =
      then_told S (judged_mapped s) _
      (then_told S (listed (50 ∷ 60 ∷ 70 ∷ 80 ∷ []) s.ssd 5 1) _ (listed_told S _ s.ssd 5 1 ss_design)
      (λ _. then_told S (listed (30 ∷ 35 ∷ 40 ∷ 45 ∷ []) s.s1d 5 2) _ (listed_told S _ s.s1d 5 2 s1_design)
      (λ _. then_told S (listed (70 ∷ 80 ∷ 90 ∷ 100 ∷ []) s.ssm 5 3) _ (listed_told S _ s.ssm 5 3 ss_mce)
      (λ _. listed_told S _ s.s1m 5 4 s1_mce))))
      (λ _. then_told S (judged_near_fault s) _
      (then_told S (within 100 150 s.nad 6 1) _ (within_told S 100 150 s.nad 6 1 na_design)
      (λ _. then_told S (within 100 200 s.nvd 6 2) _ (within_told S 100 200 s.nvd 6 2 nv_design)
      (λ _. then_told S (within 100 150 s.nam 6 3) _ (within_told S 100 150 s.nam 6 3 na_mce)
      (λ _. within_told S 100 200 s.nvm 6 4 nv_mce))))
      (λ _. bind_told S (judged_class s.class) _
      (by_test (Told S) (eqb s.class 1) _ _ (λ _. tt)
      (λ e₁. by_test (Told S) (eqb s.class 2) _ _ (λ _. tt)
      (λ e₂. by_test (Told S) (eqb s.class 3) _ _ (λ _. tt)
      (λ e₃. class (eqb-false _ _ e₁, (eqb-false _ _ e₂, (eqb-false _ _ e₃, tt)))))))
      (λ _. tt)))

-- ---- the zone, and the ground
pub zone_told : (z : ℕ) → Told (ZoneApplies z) (judged_zone z)
unfolding judged_zone
zone_told z =
    let Z = Told (ZoneApplies z) in
    by_test Z (eqb z 1) _ _ (λ _. tt)
    (λ e₁. by_test Z (eqb z 2) _ _ (λ _. tt)
    (λ e₂. by_test Z (eqb z 3) _ _ (λ _. tt)
    (λ e₃. by_test Z (eqb z 4) _ _ (λ _. tt)
    (λ e₄. zone (eqb-false _ _ e₁, (eqb-false _ _ e₂, (eqb-false _ _ e₃, (eqb-false _ _ e₄, tt))))))))

pub ground_told : (G : GroundValues) → Told (GroundApplies G) (judged_ground G)
ground_told (Site s) = bind_told (SiteApplies s) (judged_site s) _ (site_told s) (λ _. tt)
ground_told (Basin z) = bind_told (ZoneApplies z) (judged_zone z) _ (zone_told z) (λ _. tt)

-- ---- the frame
module _ (f : FrameValues) where
  abbrev F : ℕ → ℕ → Type 0
  F = FrameApplies f

  period_told : Told F (judged_period f.calculated)
  unfolding judged_period
  period_told =
      by_test (Told F) (eqb f.calculated 0) _ _ (λ _. tt)
      (λ e. within_told F 1 60_000 f.calculated 12 0 (λ o. period (eqb-false _ _ e) o))

  pub frame_told : Told F (judged_frame f)
  unfolding judged_frame judged_kind
  frame_told =
      then_told F (within 100 600 f.r 8 0) _ (within_told F 100 600 f.r 8 0 r)
      (λ _. then_told F (listed (100 ∷ 125 ∷ 150 ∷ []) f.i 9 0) _ (listed_told F _ f.i 9 0 i)
      (λ _. then_told F (within 100 200 f.alpha 10 0) _ (within_told F 100 200 f.alpha 10 0 alpha)
      (λ _. bind_told F (judged_kind f.kind) _
      (by_test (Told F) (eqb f.kind 1) _ _ (λ _. tt)
      (λ e₁. by_test (Told F) (eqb f.kind 2) _ _ (λ _. tt)
      (λ e₂. by_test (Told F) (eqb f.kind 3) _ _ (λ _. tt)
      (λ e₃. by_test (Told F) (eqb f.kind 4) _ _ (λ _. tt)
      (λ e₄. kind (eqb-false _ _ e₁, (eqb-false _ _ e₂, (eqb-false _ _ e₃, (eqb-false _ _ e₄, tt)))))))))
      (λ k. then_told F (judged_period f.calculated) _ period_told (λ _. tt)))))
