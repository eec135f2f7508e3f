-- No second row meets the contract of `row_of`, nor of `row`.
-- Assumes nothing.
use Rattle.std.proofs.Common.{◌≡◌, ℕ, ◌<◌, Bool, true, false, List, length, get_or, refl, sym, ◌∙◌, arith}
use Rattle.std.proofs.Math.Dec.{leb}
use Rattle.std.proofs.lemmas.Bool.{leb-true, leb-false}
use Rattle.std.proofs.Math.Seq.{ext_get_or}
use Rattle.rows.specs.Numbers.{Row}

pub one_row : {s values values' rest rest' : List ℕ} {count n : ℕ} → Row s count n values rest → Row s count n values' rest'
    → (values ≡ values') × (rest ≡ rest')
one_row {s} {values} {values'} {rest} {rest'} {count} {n} a b =
    (ext_get_or 0 _ _ (a.size ∙ sym b.size) (λ k h. cell k h (leb count k) refl), a.after ∙ sym b.after)
  where
    cell : (k : ℕ) → k < length values → (t : Bool) → leb count k ≡ t → get_or values k 0 ≡ get_or values' k 0
    cell k h true e =
        let l = leb-true count k e in
        a.zeros k l (omega (arith, a.size)) ∙ sym (b.zeros k l (omega (arith, a.size)))
    cell k h false e = let l = leb-false count k e in a.numbers k l ∙ sym (b.numbers k l)
