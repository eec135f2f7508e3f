-- How small the printed stages come: of A and B above 0 none is 0.
-- Assumes nothing.
use Prim.Native.Nat.{ℕ, zero, suc, ◌+◌, ◌*◌, ◌≤◌, ◌<◌}
use native.Mathlib.Nat.{mul-pos}
use native.Mathlib.Omega.{arith}
use Rattle.whole.specs.declared.Fraction.{Fraction}
use Rattle.whole.specs.Rounding.{up}
use Rattle.whole.proofs.Choice.{by_leb}
use Rattle.whole.proofs.Rounding.{up_law}
use Rattle.site.specs.declared.lines.Lines.{Lines}
use Rattle.response.specs.Ratio.{bent, ratio, modified}
use Rattle.response.specs.Reach.{Meeting}
use Rattle.response.specs.Spectrum.{exact_spectrum, spectrum}
use Rattle.response.proofs.Bent.{bent_some}
use Rattle.response.proofs.Most.{spectrum_positive}

-- a quotient above 0, rounded up, is above 0
pub up_some : (n d : ℕ) → 0 < d → 0 < n → 0 < up n d
up_some n d p h = some (up n d) (up_law n d p).0
  where
    some : (r : ℕ) → n ≤ d * r → 0 < r
    some zero k = absurd (omega arith)
    some (suc r) k = omega arith

exact_spectrum_some : (A B T : ℕ) → 0 < A → 0 < B → 0 < (exact_spectrum A B T).num
unfolding exact_spectrum
exact_spectrum_some A B T pa pb =
    by_leb (λ (z : Fraction). 0 < z.num) (T * (10 * A)) (2 * (1000 * B) * 1) _ _
    (λ _. mul-pos {n = 4 * (1 * (1000 * B)) + 3 * T * A * 10} pa (omega arith))
    (λ _.
    by_leb (λ (z : Fraction). 0 < z.num) (T * A) (1000 * B * 1) _ _ (λ _. pa)
    (λ _. by_leb (λ (z : Fraction). 0 < z.num) (T * (10 * A)) (25 * (1000 * B) * 1) _ _ (λ _. omega arith) (λ _. omega arith)))

pub spectrum_some : (s A B T : ℕ) → 0 < s → 0 < A → 0 < B → 0 < spectrum s A B T
unfolding spectrum
spectrum_some s A B T ps pa pb =
    up_some _ (exact_spectrum A B T).den (spectrum_positive A B T pb) (mul-pos ps (exact_spectrum_some A B T pa pb))

pub ratio_some : (s Sa F : ℕ) → 0 < s → 0 < Sa → 0 < F → 0 < ratio s Sa F
unfolding ratio
ratio_some s Sa F ps p pf = up_some (s * Sa) F pf (mul-pos ps p)

pub modified_some : (s : ℕ) (l : Lines) (q : ℕ) → Meeting l → 0 < q → 0 < modified s l q
unfolding modified
modified_some s l q m p = up_some (bent l q s) 1000 (omega arith) (bent_some l m q s p)
