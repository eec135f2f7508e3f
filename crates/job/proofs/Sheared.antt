-- The shear call: what its answer says of the judgments and of the figures; between which numbers V_D and T lie; demand 3's base part; and that no
-- second answer meets its contract. The one premise is the contract, and where figures are spoken of that it answered with them.
-- Assumes nothing.
use Rattle.std.specs.Prelude.{Ok, Err}
use mathlib.Core.Path.{◌≡◌, sym, ap, subst}
use Prim.Native.Nat.{ℕ}
use Rattle.limits.specs.declared.frame.FrameValues.{FrameValues}
use Rattle.limits.specs.declared.ground.GroundValues.{GroundValues}
use Rattle.limits.specs.declared.judging.Given.{Given}
use Rattle.limits.specs.declared.refusal.Refusal.{Refusal}
use Rattle.limits.specs.Judging.{judged_shear_call}
use Rattle.limits.specs.Outcome.{accepted, refused, Answer}
use Rattle.limits.proofs.AcceptedCalls.{shear_call_allowed}
use Rattle.limits.proofs.Passed.{one_value, bind_passed, only}
use Rattle.response.specs.Period.{period_of}
use Rattle.response.specs.Unit.{unit}
use Rattle.base_shear.specs.declared.Figures.{Figures}
use Rattle.base_shear.specs.Shears.{figures_at}
use Rattle.margin.specs.Demand3.{BaseDemand3}
use Rattle.margin.proofs.Reached.{base_demand3_reached}
use Rattle.job.specs.ShearCall.{given_hazards, building_figures, shear_call_of, Sheared}
use Rattle.job.proofs.GivenReached.{Between, given_reached, given_between}
use Rattle.limits.proofs.Unique.{one_answer}

module _ (G : GroundValues) (f : FrameValues) (W h : ℕ) where
  -- ---- once its judgments have answered: the lines of `shear_call_of`
  pub call_refused : {n p : ℕ} → judged_shear_call G f W h ≡ refused n p → shear_call_of G f W h ≡ refused n p
  unfolding shear_call_of
  call_refused e = simp e

  pub call_accepted : {g : Given} → judged_shear_call G f W h ≡ accepted g → shear_call_of G f W h ≡ accepted (building_figures g W h)
  unfolding shear_call_of
  call_accepted e = simp e

  -- ---- of a taken answer: the judgments accept, and n is what `building_figures` gives
  pub record Accepted (n : Figures) : Type 0 where
    pub given : Given
    pub judged : judged_shear_call G f W h ≡ accepted given
    pub figures : n ≡ building_figures given W h

  pub taken_accepted : (n : Figures) → Sheared G f W h (Ok n) → Accepted n
  unfolding shear_call_of
  taken_accepted n a =
      let g = bind_passed (judged_shear_call G f W h) (λ g. accepted (building_figures g W h)) (sym a) in
      record { given = g.0; judged = g.1; figures = sym (one_value g.2) }

  pub refused_judged : (r : Refusal) → Sheared G f W h (Err r) → judged_shear_call G f W h ≡ refused r.number r.place
  unfolding shear_call_of
  refused_judged r a = only (judged_shear_call G f W h) (λ g. building_figures g W h) (sym a)

  -- ---- no second answer
  pub one_sheared : {a a' : Answer Figures} → Sheared G f W h a → Sheared G f W h a' → a ≡ a'
  one_sheared p q = one_answer p q

  -- ---- how large the figures are
  pub figures_between : (n : Figures) → Sheared G f W h (Ok n) → Between n
  figures_between n a =
      let t = taken_accepted n a in
      subst Between (sym t.figures) (given_between t.given W h (shear_call_allowed G f W h t.given t.judged))

  -- ---- demand 3: V_D is never below the exact figure, and exceeds it by less than the margin of the base shear
  pub record Kept (n : Figures) : Type 0 where
    pub given : Given
    pub judged : judged_shear_call G f W h ≡ accepted given
    pub period : n.t ≡ period_of given.frame.kind given.frame.calculated h
    pub kept : BaseDemand3 unit (given_hazards given) given.frame W n.t n.vd

  pub demand_3 : (n : Figures) → Sheared G f W h (Ok n) → Kept n
  unfolding figures_at
  demand_3 n a =
      let t = taken_accepted n a in
      let g = t.given in
      let all = shear_call_allowed G f W h g t.judged in
      let k = given_hazards g in
      record {
        given = g;
        judged = t.judged;
        period = ap (λ (m : Figures). m.t) t.figures;
        kept =
            subst (λ (m : Figures). BaseDemand3 unit k g.frame W m.t m.vd) (sym t.figures)
            (base_demand3_reached k g.frame _ (given_reached g W h all) all.frame (given_between g W h all).3 W);
      }
