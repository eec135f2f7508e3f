-- No second answer meets the contract of a judging function: what an answer says determines it. And there is an answer that says any outcome.
-- Assumes nothing.
use mathlib.Core.Path.{◌≡◌, refl, sym, ap, ◌∙◌}
use Rattle.std.specs.Prelude.{Ok, Err}
use Rattle.limits.specs.Outcome.{Outcome, Answer, accepted, refused, outcome}

-- the answer that says an outcome
abbrev pub answer_of : {A : Type 0} → Outcome A → Answer A
answer_of (accepted a) = Ok a
answer_of (refused n p) = Err (record { number = n; place = p })

pub says_outcome : {A : Type 0} (o : Outcome A) → outcome (answer_of o) ≡ o
says_outcome (accepted a) = refl
says_outcome (refused n p) = refl

-- an answer read back from what it says
read_back : {A : Type 0} (r : Answer A) → answer_of (outcome r) ≡ r
read_back (Ok a) = refl
read_back (Err d) = refl

-- two answers that say the same are one
pub one_answer : {A : Type 0} {r s : Answer A} {o : Outcome A} → outcome r ≡ o → outcome s ≡ o → r ≡ s
one_answer {r = r} {s = s} p q = sym (read_back r) ∙ ap answer_of (p ∙ sym q) ∙ read_back s
