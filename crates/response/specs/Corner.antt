-- The corner T0 = 1000·B/A ms, never rounded: T is compared with it by products.
--   corner A B       T0, a fraction
--   part n d A B     n/d of T0
--   ms T             T, a fraction
use Rattle.std.specs.Prelude.{ℕ, ◌*◌}
use Rattle.whole.specs.declared.Fraction.{Fraction}
use Rattle.whole.specs.Fraction.{over, times}

abbrev pub corner : ℕ → ℕ → Fraction
corner A B = over (1000 * B) A

abbrev pub part : ℕ → ℕ → ℕ → ℕ → Fraction
part n d A B = times (over n d) (corner A B)

abbrev pub ms : ℕ → Fraction
ms T = over T 1
