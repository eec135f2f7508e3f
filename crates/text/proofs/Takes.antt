-- A line takes at least one byte.
-- Assumes nothing.
use mathlib.Core.Path.{◌≡◌, refl}
use mathlib.Core.Bool.{Bool, true, false}
use mathlib.Core.List.{List}
use Prim.Native.Nat.{ℕ, ◌+◌, ◌≤◌}
use native.Mathlib.Omega.{arith}
use lib.ListN.{drop}
use Rattle.whole.specs.Choice.{pick}
use Rattle.limits.specs.Outcome.{Done}
use Rattle.text.proofs.Readings.{nothing}
use Rattle.text.specs.Line.{lf, fields, line}
use Rattle.text.specs.Reading.{Reading, found, otherwise, Reader, read, later, next, starts, word, ◌>>=◌, ◌>>◌}

abbrev Takes : {A : Type 0} → Reader A → Type 0
Takes {A} r = (s : List ℕ) (a : A) (n : ℕ) → r s ≡ found a n → 1 ≤ n

-- two readings do where the second does
then_takes : {A B : Type 0} (r : Reader A) (f : A → Reader B) → ((a : A) → Takes (f a)) → Takes (r >>= f)
then_takes {A} {B} r f t s b n e = first (r s) e
  where
    second : (a : A) (m : ℕ) (o : Reading B) → f a (drop m s) ≡ o → later m o ≡ found b n → 1 ≤ n
    second a m (found b' k) p q =
        let same : m + k ≡ n = cc in
        omega (arith, t a (drop m s) b' k p)
    second a m otherwise p q = nothing q

    first : (o : Reading A) → next o f s ≡ found b n → 1 ≤ n
    first (found a m) q = second a m (f a (drop m s)) refl q
    first otherwise q = nothing q

end_takes : (ns : List ℕ) → Takes (word lf >> read ns)
unfolding word
end_takes ns s l n e = go (starts lf s) e
  where
    go : (t : Bool) → next (pick t (found tt 1) otherwise) (λ (_ : Done). read ns) s ≡ found l n → 1 ≤ n
    go true q =
        let same : 1 ≡ n = cc in
        omega arith
    go false q = nothing q

pub line_takes : (w : List ℕ) (k : ℕ) (s ns : List ℕ) (n : ℕ) → line w k s ≡ found ns n → 1 ≤ n
unfolding line
line_takes w k =
    then_takes (word w) (λ _. fields k >>= λ ns. word lf >> read ns)
    (λ _. then_takes (fields k) (λ ns. word lf >> read ns) end_takes)
