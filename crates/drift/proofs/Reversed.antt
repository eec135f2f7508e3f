-- Which way is positive does not matter: displacements with all signs reversed are judged alike, and get the same verdicts.
-- Assumes nothing.
use mathlib.Core.Path.{◌≡◌, refl, sym, ap, ap₂, ◌∙◌}
use mathlib.Core.List.{List, [], ◌∷◌}
use Prim.Native.Nat.{ℕ, zero, suc, ◌+◌, ◌*◌, ◌≤◌, ◌<◌}
use lib.Dec.{leb}
use lib.IntN.{ℤ, neg_ℤ, ◌-ℤ◌}
use lib.ListN.{length, get_or}
use Rattle.std.specs.Prelude.{Ok}
use Rattle.whole.specs.Cells.{cells}
use Rattle.whole.specs.Choice.{pick}
use Rattle.whole.specs.Signed.{size}
use Rattle.whole.proofs.Size.{size_reversed, apart_reversed}
use Rattle.limits.specs.Displacement.{displaced}
use Rattle.limits.specs.DriftLimit.{judged_drift_limit}
use Rattle.limits.specs.DriftJudging.{judged_drift}
use Rattle.limits.specs.Lengths.{same_length, roomy}
use Rattle.limits.specs.Levels.{counted, raised}
use Rattle.limits.specs.Outcome.{Outcome, Answer, Done, accepted, require, ◌>>◌}
use Rattle.drift.specs.Drift.{storey_height, top, under, apart, within_limit, verdicts, drift_of, DriftAnswers}
use Rattle.drift.specs.Reversed.{reversed}
use Rattle.drift.proofs.Drifts.{one_drift, longer_drift, drift_cells}
use Rattle.drift.proofs.Limit.{by_products}

-- ---- the displacements
reversed_length : (zs : List ℤ) → length (reversed zs) ≡ length zs
unfolding reversed
reversed_length [] = refl
reversed_length (z ∷ zs) = ap suc (reversed_length zs)

top_reversed : (zs : List ℤ) (x : ℕ) → top (reversed zs) x ≡ neg_ℤ (top zs x)
unfolding reversed
top_reversed [] x = refl
top_reversed (z ∷ zs) zero = refl
top_reversed (z ∷ zs) (suc x) = top_reversed zs x

under_reversed : (zs : List ℤ) (x : ℕ) → under (reversed zs) x ≡ neg_ℤ (under zs x)
under_reversed zs zero = refl
under_reversed zs (suc x) = top_reversed zs x

-- ---- the storeys
apart_same : (zs : List ℤ) (x : ℕ) → apart (reversed zs) x ≡ apart zs x
apart_same zs x =
    ap₂ (λ (a b : ℤ). size (a -ℤ b)) (top_reversed zs x) (under_reversed zs x) ∙ apart_reversed (top zs x) (under zs x)

-- 'a drift verdict does not depend on the sign of all displacements together'
pub same_verdict : (hs : List ℕ) (zs : List ℤ) (m x : ℕ) → within_limit hs (reversed zs) m x ≡ within_limit hs zs m x
same_verdict hs zs m x =
    by_products hs (reversed zs) m x
    ∙ ap (λ (s : ℕ). leb s (m * storey_height hs x)) (apart_same zs x)
    ∙ sym (by_products hs zs m x)

same_verdicts : (hs : List ℕ) (zs : List ℤ) (m : ℕ) → verdicts hs (reversed zs) m ≡ verdicts hs zs m
same_verdicts hs zs m = λ i. cells (λ x. pick (same_verdict hs zs m x i) 1 0) (length hs)

-- ---- the judgment
displaced_reversed : (p : ℕ) (zs : List ℤ) → displaced p (reversed zs) ≡ displaced p zs
unfolding displaced reversed
displaced_reversed p [] = refl
displaced_reversed p (z ∷ zs) =
    ap₂ (λ (s : ℕ) (o : Outcome Done). require (leb s 1_000_000) 23 p >> o) (size_reversed z) (displaced_reversed (p + 1) zs)

judged_reversed : (hs : List ℕ) (zs : List ℤ) (m room : ℕ) → judged_drift hs (reversed zs) m room ≡ judged_drift hs zs m room
unfolding judged_drift
judged_reversed hs zs m room =
    ap₂ (λ (n : ℕ) (o : Outcome Done). counted (length hs) >> (same_length (length hs) n >> (roomy (length hs) room >> (raised 0 1 hs >> (o >> judged_drift_limit m)))))
    (reversed_length zs) (displaced_reversed 1 zs)

-- ---- so the whole outcome, refusals too, and what any answer to it is
pub same_drift : (hs : List ℕ) (zs : List ℤ) (m room : ℕ) → drift_of hs (reversed zs) m room ≡ drift_of hs zs m room
unfolding drift_of
same_drift hs zs m room =
    ap₂ (λ (o : Outcome Done) (l : List ℕ). o >> accepted l) (judged_reversed hs zs m room) (same_verdicts hs zs m)

pub reversed_outcome : (hs : List ℕ) (zs : List ℤ) (m : ℕ) (old : List ℕ) {a a' : Answer Done} {held held' : List ℕ}
    → DriftAnswers hs (reversed zs) m old a held → DriftAnswers hs zs m old a' held' → (a ≡ a') × (held ≡ held')
reversed_outcome hs zs m old {a} {a'} {held} {held'} p q =
    one_drift hs zs m old (rw (same_drift hs zs m (length old)) at p) q

-- ---- of any two calls, whatever their buffers held and however much longer than the lists they are
module _ (hs : List ℕ) (zs : List ℤ) (m : ℕ) (old old' : List ℕ) where
  as_unreversed : (a : Answer Done) (held : List ℕ) → DriftAnswers hs (reversed zs) m old a held → DriftAnswers hs zs m old a held
  as_unreversed a held p = rw (same_drift hs zs m (length old)) at p

  pub reversed_answer : (a a' : Answer Done) (held held' : List ℕ) → length hs ≤ length old → length hs ≤ length old'
      → DriftAnswers hs (reversed zs) m old a held → DriftAnswers hs zs m old' a' held' → a ≡ a'
  reversed_answer a a' held held' h h' p q = longer_drift hs zs m old old' h h' (as_unreversed a held p) q

  pub reversed_cells : (held held' : List ℕ) → DriftAnswers hs (reversed zs) m old (Ok tt) held → DriftAnswers hs zs m old' (Ok tt) held'
      → (x : ℕ) → x < length hs → get_or held x 0 ≡ get_or held' x 0
  reversed_cells held held' p q x h = drift_cells hs zs m old old' (as_unreversed (Ok tt) held p) q x h
