-- A row filled cell by cell. Assumes nothing.
use Rattle.std.proofs.Common.{◌≡◌, ◌≢◌, ℕ, ◌+◌, ◌<◌, List, get_or, slice_set, replicate, refl, sym, ap, ◌∙◌, arith, add-one, below_more, get_or-set_same, get_or-set_other}
use Rattle.std.proofs.lemmas.List.{length-set, length-replicate, get_or-replicate}
use Rattle.rows.specs.Numbers.{number_at, behind, Read, Row}

pub row_none : (s : List ℕ) (n : ℕ) → Row s 0 n (replicate n 0) s
unfolding behind
row_none s n =
    record {
      size = length-replicate {A = ℕ} n 0;
      numbers = λ k l. absurd (let b : ⊥ = omega arith in b);
      zeros = λ k _ l. get_or-replicate {A = ℕ} n k 0 0 l;
      after = refl;
    }

pub row_more : {s values rest : List ℕ} {k n : ℕ} (r : Read) → Row s k n values rest → k < n → r ≡ number_at rest
    → Row s (k + 1) n (slice_set values k r.value) r.rest
unfolding behind
row_more {s} {values} {rest} {k} {n} r row h e =
    let read : r ≡ number_at (behind s k) = e ∙ ap (λ (p : List ℕ). number_at p) row.after in
    let other : (j : ℕ) → j ≢ k → get_or (slice_set values k r.value) j 0 ≡ get_or values j 0 = λ j d. get_or-set_other values k j r.value 0 d in
    record {
      size = length-set values k r.value ∙ row.size;
      numbers =
          below_more _ k (λ j l. other j (λ q. absurd (let b : ⊥ = omega (arith, q) in b)) ∙ row.numbers j l)
          (get_or-set_same values k r.value 0 (omega (arith, row.size)) ∙ ap (λ (r : Read). r.value) read);
      zeros = λ j l m. other j (λ q. absurd (let b : ⊥ = omega (arith, q) in b)) ∙ row.zeros j (omega arith) m;
      after = ap (λ (r : Read). r.rest) read ∙ ap (λ (k : ℕ). behind s k) (sym (add-one k));
    }
