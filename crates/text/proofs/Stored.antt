-- Cells that are stored one after another, by value.
-- Assumes nothing.
use mathlib.Core.Path.{◌≡◌, refl, sym, ap, ◌∙◌}
use mathlib.Core.Bool.{Bool, true, false}
use mathlib.Core.List.{List, [], ◌∷◌, ◌++◌, append_assoc}
use Prim.Native.Nat.{ℕ, zero, suc, ◌+◌, ◌≤◌, ◌<◌}
use native.Mathlib.Numerals.{add-one}
use native.Mathlib.Omega.{arith}
use lib.Dec.{leb}
use lib.ListN.{length, get_or, set, take, drop, length-append, length-drop}
use lib.Seq.{length-take-le, take_all, take-append-le, take-suc-set, drop-cons, set-append_seam, set_out}
use borrow.Author.Tests.{leb-true, leb-false}
use Rattle.whole.specs.Cells.{laid}

pub set_more : (held : List ℕ) (i v : ℕ) → i < length held → take (i + 1) (set held i v) ≡ take i held ++ (v ∷ [])
set_more held i v h = rw add-one (take-suc-set held i v h)

-- ---- a list of any length whose first elements are kept, as many as there are cells: one more
laid_length : (old ws : List ℕ) → length ws ≤ length old → length (laid ws old) ≡ length old
laid_length old ws h = simp (length-append, length-drop) (omega arith)

pub kept_length : (old l : List ℕ) → length (laid (take (length old) l) old) ≡ length old
kept_length old l = laid_length old (take (length old) l) (short (length old) l)
  where
    short : (k : ℕ) (l : List ℕ) → length (take k l) ≤ k
    short zero l = omega arith
    short (suc k) [] = omega arith
    short (suc k) (x ∷ l) = omega (arith, short k l)

module _ (old ws : List ℕ) (v : ℕ) where
  kept_inside : length ws < length old → laid (ws ++ (v ∷ [])) old ≡ set (laid ws old) (length ws) v
  kept_inside h =
      let n : length (ws ++ (v ∷ [])) ≡ suc (length ws) = length-append ws (v ∷ []) ∙ add-one (length ws) in
      rw (n, append_assoc ws (v ∷ []) (drop (suc (length ws)) old))
      (sym (ap (λ (l : List ℕ). set (ws ++ l) (length ws) v) (drop-cons old (length ws) 0 h)
      ∙ set-append_seam ws (get_or old (length ws) 0) (drop (suc (length ws)) old) v))

  pub kept_more : laid (take (length old) (ws ++ (v ∷ []))) old ≡ set (laid (take (length old) ws) old) (length ws) v
  kept_more = go (leb (length old) (length ws)) refl
    where
      go : (t : Bool) → leb (length old) (length ws) ≡ t
          → laid (take (length old) (ws ++ (v ∷ []))) old ≡ set (laid (take (length old) ws) old) (length ws) v
      go true e =
          let h = leb-true (length old) (length ws) e in
          let n = length-take-le (length old) ws h in
          rw (take-append-le (length old) ws (v ∷ []) h)
          (sym (set_out (laid (take (length old) ws) old) (length ws) v
          (omega (arith, laid_length old (take (length old) ws) (omega (arith, n))))))
      go false e =
          let h = leb-false (length old) (length ws) e in
          let n = length-append ws (v ∷ []) in
          rw (take_all (length old) (ws ++ (v ∷ [])) (omega (arith, n)), take_all (length old) ws (omega arith)) (kept_inside h)
