-- Reading from the front of the bytes that are left.
--   Reading A       found: a value, and how many bytes it takes; or otherwise
--   Reader A        what reads an A from the front of any bytes
--   do r; q         q reads what r leaves; otherwise where one of them is
--   later n o, next o f    the reading o from n bytes further on; what f reads after o
--   read a          a, of no byte
--   starts w bytes  the bytes begin with w
--   word w          the bytes w
--   left o bytes    what the reading o of the bytes found, and the bytes after it; none where they are otherwise
--   reads r bytes   so of what r reads from their front
--   and_rest x, rest x    the code's answer x by the bytes that it lends: a value and the bytes after it; of a word, these alone
--   beside a x            so of an answer that lends these alone where the value a stands beside it, as in cells that were filled
use Rattle.std.specs.Prelude.{List, [], ◌∷◌, ℕ, ◌+◌, eqb, length, drop, Bool, true, false, ◌&&◌, Option, Some, None, option_map}
use denote.Ref.{Bor}
use Rattle.whole.specs.Choice.{pick}
use Rattle.limits.specs.Outcome.{Done}

pub data Reading (A : Type 0) : Type 0 where
  found : A → ℕ → Reading A
  otherwise : Reading A

abbrev pub Reader : Type 0 → Type 0
Reader A = List ℕ → Reading A

-- a reading that starts n bytes further on
abbrev pub later : {A : Type 0} → ℕ → Reading A → Reading A
later n (found a m) = found a (n + m)
later n otherwise = otherwise

abbrev pub next : {A B : Type 0} → Reading A → (A → Reader B) → Reader B
next (found a n) f bytes = later n (f a (drop n bytes))
next otherwise f bytes = otherwise

infixl 20 ◌>>=◌ ◌>>◌
abbrev pub ◌>>=◌ : {A B : Type 0} → Reader A → (A → Reader B) → Reader B
(r >>= f) bytes = next (r bytes) f bytes

abbrev pub ◌>>◌ : {A B : Type 0} → Reader A → Reader B → Reader B
(r >> q) bytes = next (r bytes) (λ _. q) bytes

abbrev pub read : {A : Type 0} → A → Reader A
read a bytes = found a 0

unfoldable pub starts : List ℕ → List ℕ → Bool
starts [] bytes = true
starts (a ∷ w) [] = false
starts (a ∷ w) (b ∷ bytes) = eqb a b && starts w bytes

unfoldable pub word : List ℕ → Reader Done
word w bytes = pick (starts w bytes) (found tt (length w)) otherwise

-- what is read, and what is left of the bytes
unfoldable pub left : {A : Type 0} → Reading A → List ℕ → Option (A × List ℕ)
left (found a n) bytes = Some (a, drop n bytes)
left otherwise bytes = None

abbrev pub reads : {A : Type 0} → Reader A → List ℕ → Option (A × List ℕ)
reads r bytes = left (r bytes) bytes

abbrev pub and_rest : {A : Type 0} → Option (A × Bor (List ℕ)) → Option (A × List ℕ)
and_rest x = option_map (λ p. (p.0, p.1.now)) x

abbrev pub beside : {A : Type 0} → A → Option (Bor (List ℕ)) → Option (A × List ℕ)
beside a x = option_map (λ b. (a, b.now)) x

abbrev pub rest : Option (Bor (List ℕ)) → Option (Done × List ℕ)
rest x = beside tt x
