-- The three hazards of a site and an R.
--   Mapped ss s1 na nv  mapped values between the least and the largest of both hazard levels, and near-fault factors as allowed
--   accelerations c ss s1 na nv     A and B from mapped values and near-fault factors
--   hazard_of c ss s1 na nv k q      these, with a capacity k and its square q
--   design_hazard c ss s1 na nv R    with the design capacity of R
--   mce_hazard c ss s1 na nv R       with R itself
--   site_hazards site R  V's with the near-fault factors of the design level, V_M's with those of the MCE level, and V*'s with both taken
--                       as 100; the divisors 1.4 of (7), (17) and 4.2 of (19), in tenths
use Rattle.std.specs.Prelude.{ℕ, ◌≤◌}
use Rattle.whole.specs.declared.Fraction.{Fraction}
use Rattle.limits.specs.declared.class.Class.{Class}
use Rattle.limits.specs.declared.site.Site.{Site}
use Rattle.site.specs.declared.hazard.Hazard.{Hazard}
use Rattle.site.specs.declared.hazard.Hazards.{Hazards}
use Rattle.site.specs.declared.site_hazards.SiteAccelerations.{SiteAccelerations}
use Rattle.site.specs.Coefficients.{factored, acceleration_a, acceleration_b}
use Rattle.site.specs.Lines.{lines}
use Rattle.site.specs.Capacity.{design_capacity, design_square, mce_capacity, mce_square}

pub record Mapped (ss s1 na nv : ℕ) : Type 0 where
  pub s_s : (50 ≤ ss) × (ss ≤ 100)
  pub s_1 : (30 ≤ s1) × (s1 ≤ 55)
  pub n_a : (100 ≤ na) × (na ≤ 150)
  pub n_v : (100 ≤ nv) × (nv ≤ 200)

abbrev pub accelerations : Class → ℕ → ℕ → ℕ → ℕ → SiteAccelerations
accelerations c ss s1 na nv = record { a = acceleration_a c (factored ss na); b = acceleration_b c (factored s1 nv) }

abbrev pub hazard_of : Class → ℕ → ℕ → ℕ → ℕ → Fraction → Fraction → Hazard
hazard_of c ss s1 na nv capacity square =
    record {
      a = (accelerations c ss s1 na nv).a;
      b = (accelerations c ss s1 na nv).b;
      capacity = capacity;
      square = square;
    }

abbrev pub design_hazard : Class → ℕ → ℕ → ℕ → ℕ → ℕ → Hazard
design_hazard c ss s1 na nv R = hazard_of c ss s1 na nv (design_capacity R) (design_square R)

abbrev pub mce_hazard : Class → ℕ → ℕ → ℕ → ℕ → ℕ → Hazard
mce_hazard c ss s1 na nv R = hazard_of c ss s1 na nv (mce_capacity R) (mce_square R)

abbrev pub site_hazards : Site → ℕ → Hazards
site_hazards site R =
    record {
      design = design_hazard site.class site.ssd site.s1d site.nad site.nvd R;
      mce = mce_hazard site.class site.ssm site.s1m site.nam site.nvm R;
      star = design_hazard site.class site.ssd site.s1d 100 100 R;
      lines = lines;
      divisor = 14;
      stardivisor = 42;
    }
