-- A larger limit never turns yes into no: of a storey, and of two calls; and one of at most 10,000 is accepted where the smaller one was.
-- Assumes nothing.
use mathlib.Core.Path.{◌≡◌, refl, sym, ap, ◌∙◌}
use mathlib.Core.Bool.{true}
use mathlib.Core.List.{List}
use mathlib.Core.Logic.{⊎_elim}
use Prim.Native.Nat.{ℕ, ◌*◌, ◌≤◌, ◌<◌}
use native.Mathlib.Nat.{mul-le-mul_right}
use native.Mathlib.Omega.{arith}
use lib.IntN.{ℤ}
use lib.ListN.{length, get_or}
use borrow.Author.Tests.{leb-true, le-leb}
use Rattle.std.specs.Prelude.{Ok, Err}
use Rattle.limits.specs.DriftAllowed.{AllowedDrift}
use Rattle.limits.specs.Applies.{lists, buffer}
use Rattle.limits.specs.DriftApplies.{limit, DriftApplies, of_height_count, of_drift_lengths, of_drift_heights, of_displacements, of_limit}
use Rattle.limits.proofs.Passed.{never}
use Rattle.limits.specs.Outcome.{Answer, Done, accepted, outcome}
use Rattle.drift.specs.Drift.{storey_height, apart, within_limit, DriftAnswers}
use Rattle.drift.proofs.Limit.{by_products}
use Rattle.drift.proofs.Drifts.{drift_first, passed_allowed, yes_within, within_yes}

-- ---- 'a larger limit never turns yes into no'
pub larger_limit : (hs : List ℕ) (zs : List ℤ) (m m' x : ℕ) → m ≤ m' → within_limit hs zs m x ≡ true → within_limit hs zs m' x ≡ true
larger_limit hs zs m m' x h e =
    let l = leb-true (apart zs x) (m * storey_height hs x) (sym (by_products hs zs m x) ∙ e) in
    by_products hs zs m' x
    ∙ le-leb (apart zs x) (m' * storey_height hs x) (omega (arith, l, mul-le-mul_right (storey_height hs x) h))

-- of two calls that passed, whatever their buffers held
pub yes_stays : (hs : List ℕ) (zs : List ℤ) (m m' : ℕ) (old old' held held' : List ℕ) → DriftAnswers hs zs m old (Ok tt) held
    → DriftAnswers hs zs m' old' (Ok tt) held' → m ≤ m' → (x : ℕ) → x < length hs → get_or held x 0 ≡ 1 → get_or held' x 0 ≡ 1
yes_stays hs zs m m' old old' held held' a b h x l e =
    let within = yes_within hs zs m old held a x l e in
    within_yes hs zs m' old' held' b x l (omega (arith, within, mul-le-mul_right (storey_height hs x) h))

-- ---- and a larger limit, of at most 10,000, is accepted where the smaller one was
pub larger_passes : (hs : List ℕ) (zs : List ℤ) (m m' : ℕ) (old old' held : List ℕ) (a' : Answer Done) (held' : List ℕ) → DriftAnswers hs zs m old (Ok tt) held
    → DriftAnswers hs zs m' old' a' held' → length hs ≤ length old' → m ≤ m' → m' ≤ 10_000 → a' ≡ Ok tt
larger_passes hs zs m m' old old' held a' held' p q room h most =
    let first = drift_first hs zs m old held (Ok tt) p in
    let ok = passed_allowed hs zs m old held p in
    let none : (n r : ℕ) → DriftApplies hs zs m (length old) n r → ⊥ = λ n r w. first.accepted_none tt n r refl w in
    go a' refl ((drift_first hs zs m' old' held' a' q).accepted_unless_refused (other none ok))
  where
    other : ((n r : ℕ) → DriftApplies hs zs m (length old) n r → ⊥) → AllowedDrift hs zs m → (n r : ℕ) → DriftApplies hs zs m' (length old') n r → ⊥
    other none ok n r (of_height_count w) = none n r (of_height_count w)
    other none ok n r (of_drift_lengths (lists o)) = none 2 0 (of_drift_lengths (lists o))
    other none ok n r (of_drift_lengths (buffer o)) = omega (arith, o, room)
    other none ok n r (of_drift_heights w) = none n r (of_drift_heights w)
    other none ok n r (of_displacements w) = none n r (of_displacements w)
    other none ok n r (of_limit (limit o)) = ⊎_elim (λ l. omega (arith, l, h, ok.limit)) (λ l. omega (arith, l, most)) o

    go : (a : Answer Done) → a' ≡ a → ((x : Done) × (outcome a' ≡ accepted x)) → a' ≡ Ok tt
    go (Ok tt) e x = e
    go (Err r) e x = absurd (never (sym (ap outcome e) ∙ x.1))
