-- The site of a job, numbers 5 to 7: where one of them applies, the judgment of the site is that refusal or one that comes no later.
-- Assumes nothing.
use mathlib.Core.Path.{refl}
use mathlib.Core.List.{List, [], ◌∷◌}
use mathlib.Core.Logic.{inl, inr}
use Prim.Native.Nat.{ℕ, ◌≤◌}
use native.Mathlib.Omega.{arith}
use lib.Dec.{eqb}
use borrow.Author.Tests.{ne_eqb}
use Rattle.whole.proofs.Choice.{by_test}
use Rattle.limits.specs.declared.site.SiteValues.{SiteValues}
use Rattle.limits.specs.Applies.{OutOf, NotListed, SiteApplies, ss_design, s1_design, ss_mce, s1_mce, na_design, nv_design, na_mce, nv_mce, class}
use Rattle.limits.specs.Order.{Before}
use Rattle.limits.specs.Ranges.{within, listed}
use Rattle.limits.specs.Class.{judged_class}
use Rattle.limits.specs.Site.{judged_mapped, judged_near_fault, judged_site}
use Rattle.limits.proofs.Precedence.{Stops, Yields, UpTo, up_to_more, up_to_yields, both_up_to, bound_up_to, within_up_to, first_stops, later_stops, bound_stops, within_yields}
use Rattle.limits.proofs.NotAllowed.{range_stops, listed_yields, listed_stops, listed_up_to}

-- a mapped value comes after those before it in sheet order
mapped_before : (vs : List ℕ) (x q p : ℕ) → 1 ≤ p → p ≤ q → Yields 5 q (listed vs x 5 p)
mapped_before vs x q p h l = listed_yields 5 q vs x 5 p (inr (refl, inr (h, l)))

factor_before : (least most x q p : ℕ) → 1 ≤ p → p ≤ q → Yields 6 q (within least most x 6 p)
factor_before least most x q p h l = within_yields 6 q least most x 6 p (inr (refl, inr (h, l)))

module _ (s : SiteValues) where
  mapped_up_to : UpTo 5 (judged_mapped s)
  unfolding judged_mapped
  mapped_up_to =
      both_up_to 5 (listed (50 ∷ 60 ∷ 70 ∷ 80 ∷ []) s.ssd 5 1) _ (listed_up_to 5 _ s.ssd 5 1 (omega arith))
      (both_up_to 5 (listed (30 ∷ 35 ∷ 40 ∷ 45 ∷ []) s.s1d 5 2) _ (listed_up_to 5 _ s.s1d 5 2 (omega arith))
      (both_up_to 5 (listed (70 ∷ 80 ∷ 90 ∷ 100 ∷ []) s.ssm 5 3) _ (listed_up_to 5 _ s.ssm 5 3 (omega arith))
      (listed_up_to 5 _ s.s1m 5 4 (omega arith))))

  near_fault_up_to : UpTo 6 (judged_near_fault s)
  unfolding judged_near_fault
  near_fault_up_to =
      both_up_to 6 (within 100 150 s.nad 6 1) _ (within_up_to 6 100 150 s.nad 6 1 (omega arith))
      (both_up_to 6 (within 100 200 s.nvd 6 2) _ (within_up_to 6 100 200 s.nvd 6 2 (omega arith))
      (both_up_to 6 (within 100 150 s.nam 6 3) _ (within_up_to 6 100 150 s.nam 6 3 (omega arith))
      (within_up_to 6 100 200 s.nvm 6 4 (omega arith))))

  pub site_up_to : UpTo 7 (judged_site s)
  unfolding judged_site judged_class
  site_up_to =
      both_up_to 7 (judged_mapped s) _ (up_to_more 5 7 (judged_mapped s) mapped_up_to (omega arith))
      (both_up_to 7 (judged_near_fault s) _ (up_to_more 6 7 (judged_near_fault s) near_fault_up_to (omega arith))
      (bound_up_to 7 (judged_class s.class) _
      (by_test (UpTo 7) (eqb s.class 1) _ _ (λ _. tt)
      (λ _. by_test (UpTo 7) (eqb s.class 2) _ _ (λ _. tt)
      (λ _. by_test (UpTo 7) (eqb s.class 3) _ _ (λ _. tt) (λ _. omega arith))))
      (λ _. tt)))

  -- ---- mapped values
  mapped_stops : (q : ℕ) → Stops 5 q (judged_mapped s) → Stops 5 q (judged_site s)
  unfolding judged_site
  mapped_stops q t = first_stops 5 q (judged_mapped s) _ t

  ss_design_stops : NotListed (50 ∷ 60 ∷ 70 ∷ 80 ∷ []) s.ssd → Stops 5 1 (judged_site s)
  unfolding judged_mapped
  ss_design_stops o =
      mapped_stops 1
      (first_stops 5 1 (listed (50 ∷ 60 ∷ 70 ∷ 80 ∷ []) s.ssd 5 1) _
      (listed_stops 5 1 _ s.ssd 5 1 o (inr (refl, inr (omega arith)))))

  s1_design_stops : NotListed (30 ∷ 35 ∷ 40 ∷ 45 ∷ []) s.s1d → Stops 5 2 (judged_site s)
  unfolding judged_mapped
  s1_design_stops o =
      mapped_stops 2
      (later_stops 5 2 (listed (50 ∷ 60 ∷ 70 ∷ 80 ∷ []) s.ssd 5 1) _ (mapped_before _ s.ssd 2 1 (omega arith) (omega arith))
      (λ _. first_stops 5 2 (listed (30 ∷ 35 ∷ 40 ∷ 45 ∷ []) s.s1d 5 2) _
      (listed_stops 5 2 _ s.s1d 5 2 o (inr (refl, inr (omega arith))))))

  ss_mce_stops : NotListed (70 ∷ 80 ∷ 90 ∷ 100 ∷ []) s.ssm → Stops 5 3 (judged_site s)
  unfolding judged_mapped
  ss_mce_stops o =
      mapped_stops 3
      (later_stops 5 3 (listed (50 ∷ 60 ∷ 70 ∷ 80 ∷ []) s.ssd 5 1) _ (mapped_before _ s.ssd 3 1 (omega arith) (omega arith))
      (λ _. later_stops 5 3 (listed (30 ∷ 35 ∷ 40 ∷ 45 ∷ []) s.s1d 5 2) _ (mapped_before _ s.s1d 3 2 (omega arith) (omega arith))
      (λ _. first_stops 5 3 (listed (70 ∷ 80 ∷ 90 ∷ 100 ∷ []) s.ssm 5 3) _
      (listed_stops 5 3 _ s.ssm 5 3 o (inr (refl, inr (omega arith)))))))

  s1_mce_stops : NotListed (40 ∷ 45 ∷ 50 ∷ 55 ∷ []) s.s1m → Stops 5 4 (judged_site s)
  unfolding judged_mapped
  s1_mce_stops o =
      mapped_stops 4
      (later_stops 5 4 (listed (50 ∷ 60 ∷ 70 ∷ 80 ∷ []) s.ssd 5 1) _ (mapped_before _ s.ssd 4 1 (omega arith) (omega arith))
      (λ _. later_stops 5 4 (listed (30 ∷ 35 ∷ 40 ∷ 45 ∷ []) s.s1d 5 2) _ (mapped_before _ s.s1d 4 2 (omega arith) (omega arith))
      (λ _. later_stops 5 4 (listed (70 ∷ 80 ∷ 90 ∷ 100 ∷ []) s.ssm 5 3) _ (mapped_before _ s.ssm 4 3 (omega arith) (omega arith))
      (λ _. listed_stops 5 4 _ s.s1m 5 4 o (inr (refl, inr (omega arith)))))))

  -- ---- near-fault factors
  near_fault_stops : (q : ℕ) → Stops 6 q (judged_near_fault s) → Stops 6 q (judged_site s)
  unfolding judged_site
  near_fault_stops q t =
      later_stops 6 q (judged_mapped s) _ (up_to_yields 5 6 q (judged_mapped s) mapped_up_to (omega arith))
      (λ _. first_stops 6 q (judged_near_fault s) _ t)

  na_design_stops : OutOf 100 150 s.nad → Stops 6 1 (judged_site s)
  unfolding judged_near_fault
  na_design_stops o =
      near_fault_stops 1
      (first_stops 6 1 (within 100 150 s.nad 6 1) _ (range_stops 6 1 100 150 s.nad 6 1 o (inr (refl, inr (omega arith)))))

  nv_design_stops : OutOf 100 200 s.nvd → Stops 6 2 (judged_site s)
  unfolding judged_near_fault
  nv_design_stops o =
      near_fault_stops 2
      (later_stops 6 2 (within 100 150 s.nad 6 1) _ (factor_before 100 150 s.nad 2 1 (omega arith) (omega arith))
      (λ _. first_stops 6 2 (within 100 200 s.nvd 6 2) _ (range_stops 6 2 100 200 s.nvd 6 2 o (inr (refl, inr (omega arith))))))

  na_mce_stops : OutOf 100 150 s.nam → Stops 6 3 (judged_site s)
  unfolding judged_near_fault
  na_mce_stops o =
      near_fault_stops 3
      (later_stops 6 3 (within 100 150 s.nad 6 1) _ (factor_before 100 150 s.nad 3 1 (omega arith) (omega arith))
      (λ _. later_stops 6 3 (within 100 200 s.nvd 6 2) _ (factor_before 100 200 s.nvd 3 2 (omega arith) (omega arith))
      (λ _. first_stops 6 3 (within 100 150 s.nam 6 3) _ (range_stops 6 3 100 150 s.nam 6 3 o (inr (refl, inr (omega arith)))))))

  nv_mce_stops : OutOf 100 200 s.nvm → Stops 6 4 (judged_site s)
  unfolding judged_near_fault
  nv_mce_stops o =
      near_fault_stops 4
      (later_stops 6 4 (within 100 150 s.nad 6 1) _ (factor_before 100 150 s.nad 4 1 (omega arith) (omega arith))
      (λ _. later_stops 6 4 (within 100 200 s.nvd 6 2) _ (factor_before 100 200 s.nvd 4 2 (omega arith) (omega arith))
      (λ _. later_stops 6 4 (within 100 150 s.nam 6 3) _ (factor_before 100 150 s.nam 4 3 (omega arith) (omega arith))
      (λ _. range_stops 6 4 100 200 s.nvm 6 4 o (inr (refl, inr (omega arith)))))))

  -- ---- the class
  class_stops : NotListed (1 ∷ 2 ∷ 3 ∷ []) s.class → Stops 7 0 (judged_site s)
  unfolding judged_site judged_class
  class_stops o =
      later_stops 7 0 (judged_mapped s) _ (up_to_yields 5 7 0 (judged_mapped s) mapped_up_to (omega arith))
      (λ _. later_stops 7 0 (judged_near_fault s) _ (up_to_yields 6 7 0 (judged_near_fault s) near_fault_up_to (omega arith))
      (λ _. bound_stops 7 0 (judged_class s.class) _
      (rw (ne_eqb s.class 1 o.0, ne_eqb s.class 2 o.1.0, ne_eqb s.class 3 o.1.1.0) (inr (refl, inl refl)))))

  -- where one applies, and which numbers they are
  pub site_stops : (n q : ℕ) → SiteApplies s n q → Stops n q (judged_site s)
  site_stops n q (ss_design o) = ss_design_stops o
  site_stops n q (s1_design o) = s1_design_stops o
  site_stops n q (ss_mce o) = ss_mce_stops o
  site_stops n q (s1_mce o) = s1_mce_stops o
  site_stops n q (na_design o) = na_design_stops o
  site_stops n q (nv_design o) = nv_design_stops o
  site_stops n q (na_mce o) = na_mce_stops o
  site_stops n q (nv_mce o) = nv_mce_stops o
  site_stops n q (class o) = class_stops o

  pub site_later : (n q : ℕ) → SiteApplies s n q → Before 4 n
  site_later n q (ss_design o) = omega arith
  site_later n q (s1_design o) = omega arith
  site_later n q (ss_mce o) = omega arith
  site_later n q (s1_mce o) = omega arith
  site_later n q (na_design o) = omega arith
  site_later n q (nv_design o) = omega arith
  site_later n q (na_mce o) = omega arith
  site_later n q (nv_mce o) = omega arith
  site_later n q (class o) = omega arith
