-- The modified ratio (8), (18), and p of V* (19). Everything is in s-ths; the lines' constants are in thousandths.
--   bent l x y       the three lines l at x, against y: x where x ≤ 0.3·y; 0.52·x + 0.144·y where x ≤ 0.8·y; else 0.7·x;
--                    in thousandths
--   ratio s Sa F     q: the spectrum over the lower factor, rounded up
--   modified s l q   m: q against s, up (in ten-millionths: q up to 3,000,000; 0.52·q + 1,440,000 up to 8,000,000; else 0.7·q)
--   blended l Sa F   p: the spectrum against the upper factor, up
--   exact_ratio x f, exact_modified l q, exact_blended l x f    the same of fractions, with no rounding
use Rattle.std.specs.Prelude.{ℕ, ◌+◌, ◌*◌, leb}
use Rattle.whole.specs.declared.Fraction.{Fraction}
use Rattle.whole.specs.Choice.{pick}
use Rattle.whole.specs.Rounding.{up}
use Rattle.whole.specs.Fraction.{over, quotient}
use Rattle.site.specs.declared.lines.Lines.{Lines}

unfoldable pub bent : Lines → ℕ → ℕ → ℕ
bent l x y =
    pick (leb (1000 * x) (l.first * y)) (1000 * x)
    (pick (leb (1000 * x) (l.second * y)) (l.slope * x + l.add * y)
    (l.last * x))

unfoldable pub ratio : ℕ → ℕ → ℕ → ℕ
ratio s Sa F = up (s * Sa) F

unfoldable pub modified : ℕ → Lines → ℕ → ℕ
modified s l q = up (bent l q s) 1000

unfoldable pub blended : Lines → ℕ → ℕ → ℕ
blended l Sa F = up (bent l Sa F) 1000

abbrev pub exact_ratio : Fraction → Fraction → Fraction
exact_ratio Sa F = quotient Sa F

abbrev pub exact_modified : Lines → Fraction → Fraction
exact_modified l q = over (bent l q.num q.den) (1000 * q.den)

abbrev pub exact_blended : Lines → Fraction → Fraction → Fraction
exact_blended l Sa F = over (bent l (Sa.num * F.den) (Sa.den * F.num)) (1000 * (Sa.den * F.den))
