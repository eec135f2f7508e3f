-- An entry that answers with a verdict and writes into what is lent to it, over any value and any way to lay it: what its answer says of its judgment and of
-- what is held; that no second outcome meets its contract; that it gives the first refusal where its judgment does.
-- Assumes nothing.
use mathlib.Core.Path.{◌≡◌, sym, ap, subst, ◌∙◌}
use Prim.Native.Nat.{ℕ}
use Rattle.std.specs.Prelude.{Ok, Err}
use Rattle.limits.specs.declared.refusal.Refusal.{Refusal}
use Rattle.limits.specs.FirstRefusal.{FirstRefusal}
use Rattle.limits.specs.Outcome.{Outcome, Answer, accepted, refused, Done, outcome, done_only, ◌>>◌}
use Rattle.limits.proofs.First.{first_of_value, first_then_value}
use Rattle.limits.proofs.Passed.{then_passed, bind_passed, only, then_refused}
use Rattle.limits.proofs.Unique as unique
use Rattle.drift.specs.Answering.{after, Answered}

-- ---- no second outcome, of any outcome o
module _ {A B : Type 0} (lay : A → B → B) (o : Outcome A) (old : B) where
  pub one_answer : {a a' : Answer Done} {held held' : B} → Answered lay o old a held → Answered lay o old a' held' → (a ≡ a') × (held ≡ held')
  one_answer p q = (unique.one_answer p.0 q.0, p.1 ∙ sym q.1)

-- ---- of a judgment j, then a value x
module _ {A B : Type 0} (lay : A → B → B) (j : Outcome Done) (x : A) (old : B) where
  abbrev O : Outcome A
  O = j >> accepted x

  -- ---- once the judgment has answered
  pub refused_answers : (a : Answer Done) (r : Refusal) → a ≡ Err r → outcome a ≡ j → Answered lay O old a old
  refused_answers a r t e =
      let q : j ≡ refused r.number r.place = sym e ∙ ap outcome t in
      let o : O ≡ refused r.number r.place = ap (λ (y : Outcome Done). y >> accepted x) q in
      (ap outcome t ∙ sym (ap done_only o), sym (ap (λ (y : Outcome A). after lay y old) o))

  pub passed_answers : {held : B} → j ≡ accepted tt → held ≡ lay x old → Answered lay O old (Ok tt) held
  passed_answers q e =
      let o : O ≡ accepted x = ap (λ (y : Outcome Done). y >> accepted x) q in
      (sym (ap done_only o), e ∙ sym (ap (λ (y : Outcome A). after lay y old) o))

  -- ---- the other way
  module _ (held : B) where
    pub passed_judged : Answered lay O old (Ok tt) held → j ≡ accepted tt
    passed_judged a = let value = bind_passed O (λ _. accepted tt) (sym a.0) in (then_passed j (accepted x) value.1).0

    pub passed_laid : Answered lay O old (Ok tt) held → held ≡ lay x old
    passed_laid a =
        a.1 ∙ ap (λ (y : Outcome A). after lay y old) (ap (λ (y : Outcome Done). y >> accepted x) (passed_judged a))

    pub refused_judged : (r : Refusal) → Answered lay O old (Err r) held → j ≡ refused r.number r.place
    refused_judged r a = then_refused j x (only O (λ _. tt) (sym a.0))

    -- 'buffers untouched'
    pub refused_untouched : (r : Refusal) → Answered lay O old (Err r) held → held ≡ old
    refused_untouched r a =
        a.1 ∙ ap (λ (y : Outcome A). after lay y old) (ap (λ (y : Outcome Done). y >> accepted x) (refused_judged r a))

    -- ---- the first refusal
    pub first_answered : (F : ℕ → ℕ → Type 0) (a : Answer Done) → FirstRefusal F j → Answered lay O old a held → FirstRefusal F (outcome a)
    first_answered F a h e =
        subst (FirstRefusal F) (sym e.0) (first_of_value F O (λ _. tt) (first_then_value F j x h))
