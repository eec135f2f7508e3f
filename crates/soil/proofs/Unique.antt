-- No second answer meets the contract of `site_class`: `Answers` leaves one. The contracts inside leave one too: those of `table_3` and
-- `class_of` say 'the result is what the definition gives', and leave one by `determined` of `whole`; the others by `one_answer` of `limits`.
-- Assumes nothing.
use mathlib.Core.Path.{◌≡◌}
use mathlib.Core.List.{List}
use Prim.Native.Nat.{ℕ}
use Rattle.limits.specs.declared.class.Class.{Class}
use Rattle.limits.specs.Outcome.{Answer}
use Rattle.limits.proofs.Unique.{one_answer}
use Rattle.soil.specs.Log.{Answers}

-- `site_class`
pub one_class : (ds ks xs : List ℕ) {a b : Answer Class} → Answers ds ks xs a → Answers ds ks xs b → a ≡ b
one_class ds ks xs p q = one_answer p q
