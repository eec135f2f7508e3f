-- Answers that the contracts of drift, torsion and accidental moments rule out, whatever the buffers held: any refusal of good data; a storey judged by the
-- difference of the sizes, by the height above the base or by 'below the limit'; every storey passed; a factor rounded down, without its bound, or raised to
-- 1.0; moments of one sign, or of shears.
-- Assumes nothing.
use mathlib.Core.Path.{◌≡◌, sym, ap, ◌∙◌}
use mathlib.Core.List.{List, [], ◌∷◌}
use Prim.Native.Nat.{ℕ}
use native.Mathlib.Omega.{arith}
use lib.IntN.{ℤ, pos, negsuc, pos-ne-negsuc}
use lib.ListN.{get_or}
use Rattle.std.specs.Prelude.{Ok, Err}
use Rattle.limits.specs.declared.refusal.Refusal.{Refusal}
use Rattle.limits.specs.Outcome.{Outcome, Answer, Done, outcome, done_only}
use Rattle.limits.proofs.Passed.{never, one_value}
use Rattle.whole.specs.Cells.{laid}
use Rattle.drift.specs.Accidental.{Moments, MomentBuffers, laid_each_way, MomentAnswers}
use Rattle.drift.specs.Answering.{after}
use Rattle.drift.specs.Drift.{DriftAnswers}
use Rattle.drift.specs.Torsion.{TorsionAnswers}
use Rattle.drift.proofs.WorkedDrift.{heights, displacements, worked_frame, worked_storeys, worked_floors, worked_moments}

-- ---- the worked frame, with a buffer of six cells
module _ (o₁ o₂ o₃ o₄ o₅ o₆ : ℕ) (a : Answer Done) (held : List ℕ) (t : DriftAnswers heights displacements 50 (o₁ ∷ o₂ ∷ o₃ ∷ o₄ ∷ o₅ ∷ o₆ ∷ []) a held) where
  abbrev old : List ℕ
  old = o₁ ∷ o₂ ∷ o₃ ∷ o₄ ∷ o₅ ∷ o₆ ∷ []

  pub never_refused : (r : Refusal) → a ≡ Err r → ⊥
  never_refused r e = never (sym (ap outcome e) ∙ t.0 ∙ ap done_only worked_frame)

  held_is : held ≡ 0 ∷ 1 ∷ 1 ∷ 1 ∷ 0 ∷ 1 ∷ []
  held_is = t.1 ∙ ap (λ (o : Outcome (List ℕ)). after laid o old) worked_frame

  cell : (x : ℕ) → get_or held x 0 ≡ get_or (0 ∷ 1 ∷ 1 ∷ 1 ∷ 0 ∷ 1 ∷ []) x 0
  cell x = ap (λ (l : List ℕ). get_or l x 0) held_is

  -- storey 5 goes from 1270 to −700: 1970 apart, with 50·35 allowed. The sizes differ by 570 only
  pub never_by_sizes : get_or held 4 0 ≡ 1 → ⊥
  never_by_sizes e = omega (arith, e, cell 4)

  -- storey 2 is at the limit, 1750 and 50·35: 'at most'
  pub never_no_at_the_limit : get_or held 1 0 ≡ 0 → ⊥
  never_no_at_the_limit e = omega (arith, e, cell 1)

  -- storey 1 is 0.01 mm beyond it
  pub never_all_passed : held ≡ 1 ∷ 1 ∷ 1 ∷ 1 ∷ 1 ∷ 1 ∷ [] → ⊥
  never_all_passed e = omega (arith, ap (λ (l : List ℕ). get_or l 0 0) e, cell 0)

-- ---- two storeys, with two cells
pub never_by_height_above_base : (o₁ o₂ : ℕ) (a : Answer Done) (held : List ℕ)
    → DriftAnswers (45 ∷ 80 ∷ []) (pos 2250 ∷ pos 4001 ∷ []) 50 (o₁ ∷ o₂ ∷ []) a held → held ≡ 1 ∷ 1 ∷ [] → ⊥
never_by_height_above_base o₁ o₂ a held t e =
    let is = t.1 ∙ ap (λ (o : Outcome (List ℕ)). after laid o (o₁ ∷ o₂ ∷ [])) worked_storeys in
    omega (arith, ap (λ (l : List ℕ). get_or l 1 0) (sym e ∙ is))

-- ---- the worked floors
pub never_refused_floor : (r : Refusal) → TorsionAnswers 2500 2000 (Err r) → ⊥
never_refused_floor r t = never (t ∙ worked_floors.0)

pub never_down : TorsionAnswers 2500 2000 (Ok 1085) → ⊥
never_down t = omega (arith, one_value (t ∙ worked_floors.0))

pub never_unbounded : TorsionAnswers 2400 1000 (Ok 4000) → ⊥
never_unbounded t = omega (arith, one_value (t ∙ worked_floors.1))

pub never_at_least_one : TorsionAnswers 1800 1800 (Ok 1000) → ⊥
never_at_least_one t = omega (arith, one_value (t ∙ worked_floors.2))

-- ---- the worked moments, with three cells each way
module _ (p₁ p₂ p₃ n₁ n₂ n₃ : ℤ) (a : Answer Done) (b' : MomentBuffers)
    (t : MomentAnswers 1_071_429 1000 (5000 ∷ 5000 ∷ 5000 ∷ []) (100 ∷ 200 ∷ 300 ∷ []) 240 (record { positive = p₁ ∷ p₂ ∷ p₃ ∷ []; negative = n₁ ∷ n₂ ∷ n₃ ∷ [] }) a b')
  where
    pub never_refused_moments : (r : Refusal) → a ≡ Err r → ⊥
    never_refused_moments r e = never (sym (ap outcome e) ∙ t.0 ∙ ap done_only worked_moments)

    moments_are : b' ≡ record {
      positive = pos 199_285_200 ∷ pos 398_571_600 ∷ pos 687_858_000 ∷ [];
      negative = negsuc 199_285_199 ∷ negsuc 398_571_599 ∷ negsuc 687_857_999 ∷ [];
    }
    moments_are =
        t.1
        ∙ ap (λ (o : Outcome Moments). after laid_each_way o (record { positive = p₁ ∷ p₂ ∷ p₃ ∷ []; negative = n₁ ∷ n₂ ∷ n₃ ∷ [] })) worked_moments

    -- 'once positive and once negative'
    pub never_one_sign : get_or b'.negative 0 (pos 0) ≡ pos 199_285_200 → ⊥
    never_one_sign e =
        pos-ne-negsuc 199_285_200 199_285_199 (sym e ∙ ap (λ (c : MomentBuffers). get_or c.negative 0 (pos 0)) moments_are)

    -- the shear under level 1 is not its force
    pub never_of_shears : get_or b'.positive 0 (pos 0) ≡ pos 1_285_714_800 → ⊥
    never_of_shears e =
        omega (arith, size_is (sym e ∙ ap (λ (c : MomentBuffers). get_or c.positive 0 (pos 0)) moments_are))
      where
        size_is : {k l : ℕ} → pos k ≡ pos l → k ≡ l
        size_is q = cc
