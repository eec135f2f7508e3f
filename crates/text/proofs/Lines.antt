-- The numbers of a line, read one by one into cells.
--   gathered before o    the reading o, its numbers after those before
-- Assumes nothing.
use mathlib.Core.Path.{◌≡◌, refl, sym, ap₂, ◌∙◌}
use mathlib.Core.List.{List, [], ◌∷◌, ◌++◌, append_assoc, append-nil}
use Prim.Native.Nat.{ℕ, suc}
use native.Mathlib.Nat.{add-zero}
use denote.Ref.{Bor}
use Rattle.std.specs.Prelude.{Option, Some, None}
use Rattle.text.specs.Line.{lf, field, fields, line}
use Rattle.text.specs.Reading.{Reading, found, otherwise, read, later, next, left, beside, rest, word, ◌>>=◌, ◌>>◌}
use Rattle.text.proofs.Readings.{word_missed, Went, word_went, left_later, then_went, then_missed, first_missed, read_went, no_answer, answer}

unfoldable pub gathered : List ℕ → Reading (List ℕ) → Reading (List ℕ)
gathered before (found ns n) = found (before ++ ns) n
gathered before otherwise = otherwise

gathered_later : (before : List ℕ) (n : ℕ) (o : Reading (List ℕ)) → gathered before (later n o) ≡ later n (gathered before o)
unfolding gathered
gathered_later before n (found ns m) = refl
gathered_later before n otherwise = refl

gathered_one : (before : List ℕ) (v : ℕ) (o : Reading (List ℕ)) (bytes : List ℕ)
    → gathered before (next o (λ ns. read (v ∷ ns)) bytes) ≡ gathered (before ++ (v ∷ [])) o
unfolding gathered
gathered_one before v (found ns n) bytes =
    ap₂ (λ (l : List ℕ) (k : ℕ). found l k) (sym (append_assoc before (v ∷ []) ns)) (add-zero n)
gathered_one before v otherwise bytes = refl

module _ (s before : List ℕ) (k m : ℕ) (e : k ≡ suc m) where
  pub fields_stop : field s ≡ otherwise → None ≡ left (gathered before (fields k s)) s
  unfolding fields gathered left
  fields_stop o = rw (e, o)

  pub fields_more : (t : List ℕ) (v : ℕ) → Went s t (field s) v
      → left (gathered before (fields k s)) s ≡ left (gathered (before ++ (v ∷ [])) (fields m t)) t
  unfolding fields
  fields_more t v w =
      rw (e, w.is, w.to, gathered_later)
      (left_later s w.used (gathered before (next (fields m t) (λ ns. read (v ∷ ns)) t))
      ∙ rw (w.to, gathered_one before v (fields m t) t))

pub fields_none : (before s : List ℕ) (k : ℕ) → k ≡ 0 → left (gathered before (fields k s)) s ≡ Some (before, s)
unfolding fields gathered left
fields_none before s k e = rw (e, append-nil before)

pub gathered_none : (o : Reading (List ℕ)) → gathered [] o ≡ o
unfolding gathered
gathered_none (found ns n) = refl
gathered_none otherwise = refl

-- ---- a line, stage by stage: b is left after its word, e after its numbers, x after its LF
module _ (s w : List ℕ) (k : ℕ) where
  pub line_first : word w s ≡ otherwise → line w k s ≡ otherwise
  unfolding line
  line_first o = first_missed (word w) (λ _. fields k >>= λ ns. word lf >> read ns) o

  module _ (b : List ℕ) (first : Went s b (word w s) tt) where
    pub line_middle : fields k b ≡ otherwise → line w k s ≡ otherwise
    unfolding line
    line_middle o =
        then_missed (word w) (λ _. fields k >>= λ ns. word lf >> read ns) first
        (first_missed (fields k) (λ ns. word lf >> read ns) o)

    module _ (e ns : List ℕ) (middle : Went b e (fields k b) ns) where
      pub line_last : word lf e ≡ otherwise → line w k s ≡ otherwise
      unfolding line
      line_last o =
          then_missed (word w) (λ _. fields k >>= λ ns. word lf >> read ns) first
          (then_missed (fields k) (λ ns. word lf >> read ns) middle (first_missed (word lf) (λ _. read ns) o))

      pub line_whole : (x : List ℕ) → Went e x (word lf e) tt → Went s x (line w k s) ns
      unfolding line
      line_whole x last =
          then_went (word w) (λ _. fields k >>= λ ns. word lf >> read ns) first
          (then_went (fields k) (λ ns. word lf >> read ns) middle
          (then_went (word lf) (λ _. read ns) last (read_went x ns)))

      -- the answer of the last stage is that of the line
      pub line_ended : (r : Option (Bor (List ℕ))) → rest r ≡ left (word lf e) e → beside ns r ≡ left (line w k s) s
      line_ended None q = no_answer s _ (line_last (word_missed e _ None q refl))
      line_ended (Some x) q = answer (line_whole x.now (word_went e _ (Some x) x q refl))
