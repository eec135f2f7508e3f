-- The spectra of a zone are (10) and (15) of document 000: the branches begin at the same T, and each has the same value.
-- Assumes nothing.
use mathlib.Core.Path.{◌≡◌, refl, sym, ap₂, ◌∙◌}
use mathlib.Core.Bool.{Bool, true, false}
use Prim.Native.Nat.{ℕ, ◌*◌, ◌<◌}
use native.Mathlib.Nat.{mul-le-mul_right, mul-lt-mul_of_pos_right}
use native.Mathlib.Omega.{arith}
use lib.Dec.{leb}
use borrow.Author.Tests.{leb-true, leb-false, le-leb, lt-leb}
use Rattle.whole.specs.declared.Fraction.{Fraction}
use Rattle.whole.specs.Choice.{pick}
use Rattle.whole.specs.Fraction.{Same}
use Rattle.limits.specs.declared.zone.Zone.{Zone}
use Rattle.site.specs.Basin.{basin_design, basin_mce}
use Rattle.site.specs.Table4.{corner_period}
use Rattle.response.specs.Basin.{basin_spectrum}
use Rattle.response.specs.Spectrum.{exact_spectrum}

-- a test of two numbers with one more factor above 0 is the test of the two
scaled : (n m k x y : ℕ) → 0 < k → x ≡ n * k → y ≡ m * k → leb x y ≡ leb n m
scaled n m k x y p ex ey = ap₂ leb ex ey ∙ go (leb n m) refl
  where
    go : (t : Bool) → leb n m ≡ t → leb (n * k) (m * k) ≡ leb n m
    go true e = le-leb _ _ (mul-le-mul_right k (leb-true n m e)) ∙ sym e
    go false e = lt-leb _ _ (mul-lt-mul_of_pos_right (leb-false n m e) p) ∙ sym e

-- two choices by one test, of fractions that are the same
chosen : (t : Bool) {u : Bool} (a b c d : Fraction) → u ≡ t → Same a c → Same b d → Same (pick u a b) (pick t c d)
chosen true a b c d e h k = rw e h
chosen false a b c d e h k = rw e k

basin_spectrum_lem : (a T0 T : ℕ) → 0 < a → Same (exact_spectrum (a * 1000) (a * T0) T) (basin_spectrum (a * 1000) T0 T)
unfolding exact_spectrum
basin_spectrum_lem a T0 T p =
    let A = a * 1000 in
    let B = a * T0 in
    let k : 0 < A = omega arith in
    chosen _ _ _ _ _ (scaled (T * 10) (2 * T0 * 1) A (T * (10 * A)) (2 * (1000 * B) * 1) k (omega arith) (omega arith)) (omega arith)
    (chosen _ _ _ _ _ (scaled (T * 1) (T0 * 1) A (T * A) (1000 * B * 1) k (omega arith) (omega arith)) (omega arith)
    (chosen _ _ _ _ _ (scaled (T * 10) (25 * T0 * 1) A (T * (10 * A)) (25 * (1000 * B) * 1) k (omega arith) (omega arith)) (omega arith)
    (omega arith)))

-- of each zone: S_DS = 0.6 g and S_MS = 0.8 g, T0 of Table 4
module _ (z : Zone) (R T : ℕ) where
  pub design_spectrum : let h = basin_design z R in Same (exact_spectrum h.a h.b T) (basin_spectrum 60_000_000 (corner_period z) T)
  design_spectrum = basin_spectrum_lem 60_000 (corner_period z) T (omega arith)

  pub mce_spectrum : let h = basin_mce z R in Same (exact_spectrum h.a h.b T) (basin_spectrum 80_000_000 (corner_period z) T)
  mce_spectrum = basin_spectrum_lem 80_000 (corner_period z) T (omega arith)
