-- What a caller with judged levels has: each stage's asking is met by the data or by the stage before it.
-- Assumes nothing.
use mathlib.Core.Path.{◌≡◌, ap, ◌∙◌}
use mathlib.Core.List.{List, ◌++◌}
use Prim.Native.Nat.{ℕ, ◌≤◌, ◌<◌}
use native.Mathlib.Nat.{mul-le-mul_right}
use native.Mathlib.Omega.{arith}
use lib.ListN.{length, get_or, take}
use Rattle.std.proofs.lemmas.List.{append-nil, drop_all}
use Rattle.whole.specs.Cells.{laid}
use Rattle.whole.proofs.Cells.{cells_length, laid_part}
use Rattle.storeys.specs.Reach.{Load, Weighing, Rising, Turning, Standing}
use Rattle.storeys.specs.Storeys.{shear_under, shears, force, forces}
use Rattle.storeys.proofs.Roof.{roof_at_most_one}
use Rattle.storeys.proofs.Sums.{sum_most, sum_positive}
use Rattle.storeys.proofs.Telescope.{forces_sum}

pub load_of : (T v : ℕ) → T ≤ 9_999 → v ≤ 1_400_000_000 → Load T v
load_of T v t s = record { part = roof_at_most_one T; shear = s }

weighing_of : (ws hs : List ℕ) → length ws ≡ length hs → length ws ≤ 50
    → ((x : ℕ) → x < length ws → (get_or ws x 0 ≤ 20_000) × (get_or hs x 0 ≤ 2_000)) → Weighing ws hs
weighing_of ws hs e n b =
    record { same = e; most = omega (arith, sum_most ws hs 20_000 2_000 b, mul-le-mul_right 40_000_000 n) }

pub shears_length : (T v : ℕ) (ws hs : List ℕ) → length (shears T v ws hs) ≡ length ws
shears_length T v ws hs = cells_length (shear_under T v ws hs) (length ws)

pub forces_length : (us : List ℕ) → length (forces us) ≡ length us
forces_length us = cells_length (force us) (length us)

-- ---- the first cells of a lent buffer b in which they were laid, handed on
pub shears_laid : (T v : ℕ) (ws hs old : List ℕ) {b : List ℕ} → b ≡ laid (shears T v ws hs) old → take (length ws) b ≡ shears T v ws hs
shears_laid T v ws hs old e = rw e (laid_part (shears T v ws hs) old (length ws) (shears_length T v ws hs))

-- laid in a buffer of no further cell, they are all that it holds
pub shears_whole : (T v : ℕ) (ws hs old : List ℕ) {b : List ℕ} → length old ≤ length ws → b ≡ laid (shears T v ws hs) old → b ≡ shears T v ws hs
shears_whole T v ws hs old room e =
    let us = shears T v ws hs in
    e ∙ ap (λ (l : List ℕ). us ++ l) (drop_all (length us) old (omega (arith, shears_length T v ws hs))) ∙ append-nil us

pub forces_laid : (T v : ℕ) (ws hs old : List ℕ) {b : List ℕ} → b ≡ laid (forces (shears T v ws hs)) old
    → take (length ws) b ≡ forces (shears T v ws hs)
forces_laid T v ws hs old e =
    let us = shears T v ws hs in rw e (laid_part (forces us) old (length ws) (forces_length us ∙ shears_length T v ws hs))

pub turning_of : (T v : ℕ) (ws hs : List ℕ) → Load T v → Standing ws hs → Turning (forces (shears T v ws hs)) hs
turning_of T v ws hs l s =
    record {
      same = forces_length (shears T v ws hs) ∙ shears_length T v ws hs ∙ s.weighing.same;
      rising = s.rising;
      tall = s.tall;
      load = omega (arith, forces_sum T v ws hs s.some s.positive l.part, l.shear);
    }

pub standing_of : (ws hs : List ℕ) → length ws ≡ length hs → 0 < length ws → length ws ≤ 50 → Rising hs
    → ((x : ℕ) → x < length ws → (0 < get_or ws x 0) × (get_or ws x 0 ≤ 20_000) × (0 < get_or hs x 0) × (get_or hs x 0 ≤ 2_000))
    → Standing ws hs
standing_of ws hs e s n r b =
    record {
      weighing = weighing_of ws hs e n (λ x l. ((b x l).1, (b x l).3));
      some = s;
      positive = sum_positive ws hs (b 0 s).0 (b 0 s).2;
      rising = r;
      tall = λ x l. (b x (omega arith)).3;
    }
