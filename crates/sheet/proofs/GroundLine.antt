-- Line 1 of a sheet, as the code takes it: by the first of the layouts that it fits. A further layout asks for a law like
-- `two_pairs_found`; the others stay.
--   FirstLine ks s g second    line 1 of the bytes s, by the first of the layouts ks that it fits, holds the ground g, and line 2 begins
--                              with the bytes `second`
-- Assumes nothing.
use mathlib.Core.Path.{◌≡◌, refl, sym, ap, ◌∙◌}
use mathlib.Core.List.{List, [], ◌∷◌}
use Prim.Native.Nat.{ℕ}
use lib.ListN.{length, get_or}
use denote.Ref.{Bor}
use Rattle.std.specs.Prelude.{Option, Some, None, MatchOption}
use Rattle.std.specs.Option.{option_or}
use Rattle.limits.specs.declared.ground.GroundValues.{GroundValues}
use Rattle.limits.specs.declared.ground.GroundValues.TheVariants.{Site, Basin}
use Rattle.limits.specs.declared.site.SiteValues.{SiteValues}
use Rattle.limits.specs.Outcome.{Outcome, accepted, refused}
use Rattle.text.specs.Line.{line}
use Rattle.text.specs.Reading.{Reading, found, otherwise, starts, and_rest}
use Rattle.text.proofs.Back.{line_back}
use Rattle.text.proofs.Readings.{Went}
use Rattle.sheet.specs.Layouts.{Layout, Line}
use Rattle.sheet.specs.Lines.{Front, fitted, line_in}
use Rattle.sheet.specs.Reading.{ground_line_answer}
use Rattle.sheet.specs.Sheet.{one_pair_layout, two_pairs_layout, basin_layout, site_values, pair_twice, ground_of}
use Rattle.sheet.proofs.OneLine.{stopped_line}
use Rattle.sheet.proofs.Fitting.{front, line_fits, line_not, no_more}

-- ---- layout by layout
module _ (k : Layout) (ks : List Layout) (s : List ℕ) where
  -- the first fits
  first_fits : {t ns : List ℕ} {g : GroundValues} → Went s t (line k.word k.numbers s) ns → g ≡ ground_of (front k ns t).line
      → Some (g, t) ≡ ground_line_answer (line_in 1 (k ∷ ks) s)
  unfolding ground_line_answer
  first_fits {t} went holds = rw (line_fits 1 k ks s went) (ap (λ (x : GroundValues). Some (x, t)) holds)

  -- it does not, and the others are left
  pub others_left : {a : Option (GroundValues × List ℕ)} → line k.word k.numbers s ≡ otherwise
      → a ≡ ground_line_answer (line_in 1 ks s) → a ≡ ground_line_answer (line_in 1 (k ∷ ks) s)
  others_left o e = e ∙ ap ground_line_answer (sym (line_not 1 k ks s o))

  count_is : {t ns : List ℕ} → Went s t (line k.word k.numbers s) ns → length ns ≡ k.numbers
  count_is {t} {ns} went = (line_back k.word k.numbers s ns went.used went.is).2.count

  -- the first that fits
  or_others : ground_line_answer (line_in 1 (k ∷ ks) s)
      ≡ option_or (ground_line_answer (line_in 1 (k ∷ []) s)) (ground_line_answer (line_in 1 ks s))
  unfolding ground_line_answer line_in
  or_others = go (line k.word k.numbers s)
    where
      go : (o : Reading (List ℕ)) → ground_line_answer (fitted k.word o s (line_in 1 ks s))
          ≡ option_or (ground_line_answer (fitted k.word o s (line_in 1 [] s))) (ground_line_answer (line_in 1 ks s))
      go (found ns n) = refl
      go otherwise = refl

pub none_left : (s : List ℕ) → None ≡ ground_line_answer (line_in 1 [] s)
unfolding ground_line_answer
none_left s = rw (no_more 1 s) refl

-- what `or_else` answers, where the closure answers o
pub or_answers : {Q : Type 0} (a r : Option (GroundValues × Bor (List ℕ))) (o : Option (GroundValues × List ℕ))
    → MatchOption a Q (λ x. r ≡ Some x) → (Q → and_rest r ≡ o) → and_rest r ≡ option_or (and_rest a) o
or_answers None r o e f = f e
or_answers (Some x) r o e f = ap and_rest e

pub three_others : (k₁ k₂ k₃ : Layout) (s : List ℕ) {o₁ o₂ o₃ : Option (GroundValues × List ℕ)}
    → o₁ ≡ ground_line_answer (line_in 1 (k₁ ∷ []) s)
    → o₂ ≡ option_or o₁ (ground_line_answer (line_in 1 (k₂ ∷ []) s))
    → o₃ ≡ option_or o₂ (ground_line_answer (line_in 1 (k₃ ∷ []) s))
    → o₃ ≡ ground_line_answer (line_in 1 (k₁ ∷ k₂ ∷ k₃ ∷ []) s)
three_others k₁ k₂ k₃ s e₁ e₂ e₃ =
    e₃ ∙ rw (e₂, e₁, or_others k₁ (k₂ ∷ k₃ ∷ []) s, or_others k₂ (k₃ ∷ []) s)
    (together (ground_line_answer (line_in 1 (k₁ ∷ []) s)) (ground_line_answer (line_in 1 (k₂ ∷ []) s)) (ground_line_answer (line_in 1 (k₃ ∷ []) s)))
  where
    together : (a b c : Option (GroundValues × List ℕ)) → option_or (option_or a b) c ≡ option_or a (option_or b c)
    together None b c = refl
    together (Some x) b c = refl

-- ---- what the answer says
pub record FirstLine (ks : List Layout) (s : List ℕ) (g : GroundValues) (second : List ℕ) : Type 0 where
  pub line : Line
  pub at : line_in 1 ks s ≡ accepted (record { line = line; rest = second })
  pub holds : ground_of line ≡ g

module _ (ks : List Layout) (s : List ℕ) {r : Option (GroundValues × Bor (List ℕ))} (e : and_rest r ≡ ground_line_answer (line_in 1 ks s)) where
  pub ground_found : {p : GroundValues × Bor (List ℕ)} → r ≡ Some p → FirstLine ks s p.0 p.1.now
  unfolding ground_line_answer
  ground_found {p} is = go (line_in 1 ks s) refl (sym e ∙ ap and_rest is)
    where
      go : (o : Outcome Front) → line_in 1 ks s ≡ o → ground_line_answer o ≡ Some (p.0, p.1.now) → FirstLine ks s p.0 p.1.now
      go (accepted x) q t =
          let held : ◌≡◌ {A = GroundValues × List ℕ} (ground_of x.line, x.rest) (p.0, p.1.now) = cc in
          record {
            line = x.line;
            at =
                q ∙ ap (λ (y : List ℕ). accepted (record { line = x.line; rest = y }))
                (ap (λ (y : GroundValues × List ℕ). y.1) held);
            holds = ap (λ (y : GroundValues × List ℕ). y.0) held;
          }
      go (refused n p) q t = cc

  pub ground_missed : r ≡ None → line_in 1 ks s ≡ refused 16 1
  unfolding ground_line_answer
  ground_missed is = go (line_in 1 ks s) refl (sym e ∙ ap and_rest is)
    where
      go : (o : Outcome Front) → line_in 1 ks s ≡ o → ground_line_answer o ≡ None → o ≡ refused 16 1
      go (accepted x) q t = cc
      go (refused n p) q t = let r = stopped_line 1 ks s n p q in rw (r.0, r.1)

-- ---- what a line of each layout holds
module _ (s : List ℕ) {t ns : List ℕ} where
  pub one_pair_found : (ks : List Layout) → Went s t (line one_pair_layout.word 7 s) ns → {v : SiteValues}
      → v ≡ site_values (pair_twice ns) → Some (Site v, t) ≡ ground_line_answer (line_in 1 (one_pair_layout ∷ ks) s)
  unfolding starts
  one_pair_found ks went {v} e =
      first_fits one_pair_layout ks s went (rw (count_is one_pair_layout ks s went) (ap Site e))

  pub two_pairs_found : (ks : List Layout) → Went s t (line two_pairs_layout.word 9 s) ns → {v : SiteValues}
      → v ≡ site_values ns → Some (Site v, t) ≡ ground_line_answer (line_in 1 (two_pairs_layout ∷ ks) s)
  unfolding starts
  two_pairs_found ks went {v} e =
      first_fits two_pairs_layout ks s went (rw (count_is two_pairs_layout ks s went) (ap Site e))

  pub basin_found : (ks : List Layout) → Went s t (line basin_layout.word 1 s) ns
      → Some (Basin (get_or ns 0 0), t) ≡ ground_line_answer (line_in 1 (basin_layout ∷ ks) s)
  unfolding starts
  basin_found ks went = first_fits basin_layout ks s went refl
