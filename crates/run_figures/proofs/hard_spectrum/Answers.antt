-- `run_figures::hard_spectrum` asks for a spectrum within its reach. Assumes nothing.
use Rattle.std.proofs.Common.{arith, refl}
use Rattle.limits.specs.declared.class.Class.TheVariants.{Hard}
use Rattle.site.proofs.Bounds.{a_bounds, b_bounds}
use Rattle.run_figures.proofs.hard_spectrum.Goals as goal

pub spectrum-requires : goal.spectrum-requires
spectrum-requires c =
    let a = a_bounds Hard 8000 (omega arith) (omega arith) in
    let b = b_bounds Hard 4500 (omega arith) (omega arith) in
    let ea = c.acceleration_a-a.ensures in
    let eb = c.acceleration_b-b.ensures in (
      record { positive = omega arith; most = omega arith; divides = refl },
      record {
        a_positive = omega (arith, ea, a);
        a_most = omega (arith, ea, a);
        b_positive = omega (arith, eb, b);
        b_most = omega (arith, eb, b);
        t_most = c.requires;
      },
    )
