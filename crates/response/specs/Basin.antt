-- The spectrum of the Taipei Basin as document 000 writes it, by T0 itself: (10) with A = S_DS, (15) with A = S_MS, in 10⁻⁸ g; T0 and T in ms.
--   basin_spectrum A T0 T    in g: A(0.4 + 3T/T0) for T ≤ 0.2·T0; A for T ≤ T0; A·T0/T for T ≤ 2.5·T0; else 0.4·A
-- That the spectra of a zone are these: `design_spectrum`, `mce_spectrum` (proofs/ZoneSpectra.antt).
use Rattle.std.specs.Prelude.{ℕ, ◌*◌}
use Rattle.whole.specs.declared.Fraction.{Fraction}
use Rattle.whole.specs.Choice.{pick}
use Rattle.whole.specs.Fraction.{over, plus, times, at_most}
use Rattle.response.specs.Corner.{ms}
use Rattle.response.specs.Spectrum.{g}

abbrev pub basin_spectrum : ℕ → ℕ → ℕ → Fraction
basin_spectrum A T0 T =
    pick (at_most (ms T) (times (over 2 10) (ms T0))) (times (g A) (plus (over 4 10) (over (3 * T) T0)))
    (pick (at_most (ms T) (ms T0)) (g A)
    (pick (at_most (ms T) (times (over 25 10) (ms T0))) (times (g A) (over T0 T))
    (times (over 4 10) (g A))))
