-- What puts three hazards within reach, whatever made them: A of at most 1.5 g, B, and the capacity. V_D is at most 1,125,000,000 N then.
--   Sized h      such a hazard
--   of_three     three of them with the lines, the divisor 1.4 and a divisor n of V*
-- Assumes nothing.
use mathlib.Core.Path.{◌≡◌, refl}
use Prim.Native.Nat.{ℕ, ◌*◌, ◌/◌, ◌≤◌, ◌<◌}
use native.Mathlib.Omega.{arith}
use Rattle.whole.specs.Rounding.{up}
use Rattle.site.specs.Lines.{lines}
use Rattle.site.specs.declared.hazard.Hazard.{Hazard}
use Rattle.site.specs.declared.hazard.Hazards.{Hazards}
use Rattle.response.specs.Period.{period_most}
use Rattle.response.specs.Ratio.{bent, modified}
use Rattle.response.specs.Reach.{Ductile}
use Rattle.response.specs.Unit.{unit}
use Rattle.response.proofs.Bent.{lines_meet}
use Rattle.response.proofs.Reached.{unit_fine}
use Rattle.base_shear.specs.Ready.{Ready, Within, Bounded, Reached}

pub record Sized (h : Hazard) : Type 0 where
  pub a : (0 < h.a) × (h.a ≤ 150_000_000)
  pub b : (0 < h.b) × (h.b ≤ 200_000_000)
  pub ductile : Ductile unit h.capacity h.square

abbrev of_three : Hazard → Hazard → Hazard → ℕ → Hazards
of_three design mce star n =
    record { design = design; mce = mce; star = star; lines = lines; divisor = 14; stardivisor = n }

ready : (h : Hazard) → Sized h → (T : ℕ) → T ≤ period_most → Ready unit h T
ready h z T t =
    record {
      shape =
          record {
            a_positive = z.a.0;
            a_most = omega (arith, z.a);
            b_positive = z.b.0;
            b_most = z.b.1;
            t_most = omega arith;
          };
      ductile = z.ductile;
    }

-- 1.5 g, and m of it: 0.7 of it
abbrev pub spectrum_most : ℕ
spectrum_most = 3 * unit / 2

m_most : 10 * modified unit lines spectrum_most ≡ 7 * spectrum_most
unfolding modified bent up
m_most = refl

module _ (design mce star : Hazard) (n : ℕ) (d : Sized design) (m : Sized mce) (p : Sized star) where
  pub three_bounded : (v : ℕ) → 1_125_000_000 ≤ v → Within v n spectrum_most → Bounded v (of_three design mce star n)
  three_bounded v h w =
      record {
        most = spectrum_most;
        design = omega (arith, d.a);
        mce = omega (arith, m.a);
        star = omega (arith, p.a);
        shears_within = omega (arith, m_most, h);
        star_within = w;
      }

  pub three_reached : (14 ≤ n) × (n ≤ 100) → Within 1_400_000_000 n spectrum_most → Reached (of_three design mce star n)
  three_reached h w =
      record {
        shearing =
            λ T t.
            record {
              unit = unit_fine;
              ten_thousands = refl;
              lines = record { first = omega arith; second = omega arith; slope = omega arith; add = omega arith; last = omega arith };
              design = ready design d T t;
              mce = ready mce m T t;
              star = ready star p T t;
              divisor = omega arith;
              stardivisor = omega (arith, h);
            };
        meeting = lines_meet;
        star_least = h.0;
        bounded = three_bounded _ (omega arith) w;
      }
