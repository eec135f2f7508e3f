-- `text::writing::Writer::decimal` meets its contract. Assumes nothing.
use mathlib.Core.Path.{refl, ap}
use Prim.Native.Nat.{ℕ, ◌+◌}
use native.Mathlib.Omega.{arith}
use Rattle.text.proofs.Decimal.{left_all, left_less}
use Rattle.text.proofs.writing.Writer.decimal.Goals as goal

pub loop-p-init : goal.loop-p-init
loop-p-init c =
    let w = c.args.self.now in
    (omega arith, refl, refl, left_all w.out.now w.at c.args.n _ (ap (λ (k : ℕ). w.at + k) c.digit_count.ensures) (omega arith))

pub loop-p-preserved : goal.loop-p-preserved
loop-p-preserved c =
    let l = c.loop-p.invariant.3 in (
      omega arith,
      c.loop-p.invariant.1,
      c.loop-p.invariant.2,
      left_less l (omega arith) (omega arith) (omega (arith, l.size)) c.digit.result c.digit.ensures (omega arith),
    )
