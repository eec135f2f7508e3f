-- What comes back: document 01's number and place, with values where data is accepted.
--   Outcome A            accepted with a value, or refused with a number and a place
--   number, place        0 on success
--   zeros n              n zeros
--   values f n           the values f of what is accepted; n zeros where data is refused
--   do a; b              judgments taken one after the other: the first that refuses is the outcome
--   Done                 the value of a judgment that hands on none
--   require t n p        passes where the test t holds, else refused with number n at place p
--   Answer A             what the code answers: a value, or the refusal
--   outcome r            what the answer r says
--   done_only o          what is left of an outcome without its value
use Rattle.std.specs.Prelude.{Bool, true, false, List, [], ◌∷◌, ℕ, zero, suc, Result, Ok, Err}
use Rattle.limits.specs.declared.refusal.Refusal.{Refusal}

pub data Outcome (A : Type 0) : Type 0 where
  accepted : A → Outcome A
  refused : ℕ → ℕ → Outcome A

abbrev pub number : {A : Type 0} → Outcome A → ℕ
number (accepted a) = 0
number (refused n p) = n

abbrev pub place : {A : Type 0} → Outcome A → ℕ
place (accepted a) = 0
place (refused n p) = p

abbrev pub zeros : ℕ → List ℕ
zeros zero = []
zeros (suc n) = 0 ∷ zeros n

abbrev pub values : {A : Type 0} → (A → List ℕ) → ℕ → Outcome A → List ℕ
values f k (accepted a) = f a
values f k (refused n p) = zeros k

infixl 20 ◌>>=◌ ◌>>◌
abbrev pub ◌>>=◌ : {A B : Type 0} → Outcome A → (A → Outcome B) → Outcome B
accepted a >>= f = f a
refused n p >>= f = refused n p

abbrev pub ◌>>◌ : {A B : Type 0} → Outcome A → Outcome B → Outcome B
accepted a >> o = o
refused n p >> o = refused n p

-- a judgment that hands on no value
abbrev pub Done : Type 0
Done = Unit {0}

abbrev pub require : Bool → ℕ → ℕ → Outcome Done
require true n p = accepted tt
require false n p = refused n p

abbrev pub Answer : Type 0 → Type 0
Answer A = Result A Refusal

abbrev pub outcome : {A : Type 0} → Answer A → Outcome A
outcome (Ok a) = accepted a
outcome (Err r) = refused r.number r.place

-- what is left of an outcome without its value
abbrev pub done_only : {A : Type 0} → Outcome A → Outcome Done
done_only o = do
  a ← o
  accepted tt
