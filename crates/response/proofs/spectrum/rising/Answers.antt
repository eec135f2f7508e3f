-- `response::spectrum::rising` meets its contract. Assumes nothing.
use mathlib.Core.Path.{ap, ◌∙◌}
use Prim.Native.Nat.{ℕ, ◌+◌, ◌*◌, ◌/◌}
use native.Mathlib.Nat.{mul-le-mul}
use native.Mathlib.Omega.{arith}
use Rattle.response.proofs.Spectra.{in_parts, quotient_most, rest_most}
use Rattle.whole.specs.Rounding.{up}
use Rattle.response.proofs.spectrum.rising.Goals as goal

pub overflow_add-q-2 : goal.overflow_add-q-2
overflow_add-q-2 c =
    omega (
      arith,
      c.up.ensures,
      rest_most (3 * c.args.ta) c.args.a c.args.b c.requires.1,
      mul-le-mul {n₁ = 400 + 3 * c.args.ta / c.args.b} {m₁ = c.args.a} {n₂ = 1000} {m₂ = 200_000_000} (omega (arith, quotient_most c.args.b c.args.ta c.requires.3)) c.requires.0,
    )

pub returns : goal.returns
returns c =
    let a = c.args in
    c.up-2.ensures
    ∙ ap (λ (z : ℕ). up ((400 + 3 * a.ta / a.b) * a.a + z) (1000 * a.d)) c.up.ensures
    ∙ in_parts a.a a.b a.ta a.d c.requires.1 c.requires.4
