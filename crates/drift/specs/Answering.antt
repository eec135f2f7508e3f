-- An entry that hands on no value and writes into what is lent to it, whatever it writes.
--   after lay o old          what is held after that held old: where data is accepted with a value x, `lay x old`; where it is refused, all as it was
--   Answered lay o old a held    a is the answer to the outcome o, and held what is held after
use Rattle.std.specs.Prelude.{◌≡◌}
use Rattle.limits.specs.Outcome.{Outcome, Answer, accepted, refused, Done, outcome, done_only}

abbrev pub after : {A B : Type 0} → (A → B → B) → Outcome A → B → B
after lay (accepted x) old = lay x old
after lay (refused n p) old = old

abbrev pub Answered : {A B : Type 0} → (A → B → B) → Outcome A → B → Answer Done → B → Type 0
Answered lay o old a held = (outcome a ≡ done_only o) × (held ≡ after lay o old)
