-- Where a table's values fall slowly, what stands at x, times x, rises with x: over any columns.
--   slow cs    each column stands past the one before it, and the value falls as slowly as the line between them asks (LineRises)
-- Assumes nothing.
use mathlib.Core.Path.{◌≡◌, sym, ap}
use mathlib.Core.Bool.{Bool, true, ◌&&◌}
use mathlib.Core.List.{List, [], ◌∷◌}
use Prim.Native.Nat.{ℕ, ◌+◌, ◌-◌, ◌*◌, ◌≤◌, ◌<◌}
use native.Mathlib.Nat.{mul-le-mul_left, mul-pos, le_of_mul-le-mul_right}
use native.Mathlib.Decide.{dec_le}
use native.Mathlib.Omega.{arith}
use lib.Dec.{T, leb, leb→le, ltb, ltb→lt}
use mir.Facts.{and_yes}
use Rattle.whole.specs.declared.Column.{Column}
use Rattle.whole.specs.declared.Fraction.{Fraction}
use Rattle.whole.specs.Fraction.{over, AtMost, Same, down_in}
use Rattle.whole.specs.Line.{place, value, line, between}
use Rattle.whole.proofs.Choice.{by_leb}
use Rattle.whole.proofs.Line.{first, straight, past, alone, whole_down}
use Rattle.whole.proofs.LineRises.{of, line_rises, from_first, to_second, first_to_second}
use Rattle.whole.proofs.Order.{at_most_trans}
use Rattle.whole.proofs.Table.{fitting, table_whole}

unfoldable pub slow : List Column → Bool
slow [] = true
slow (p ∷ []) = true
slow (p ∷ (q ∷ cs)) =
    ltb (place p) (place q) && (leb (value p * place q) (value q * (place q + (place q - place p))) && slow (q ∷ cs))

record Slow (p q : Column) (cs : List Column) : Type 0 where
  rises : place p < place q
  slowly : value p * place q ≤ value q * (place q + (place q - place p))
  later : T (slow (q ∷ cs))

slowed : (p q : Column) (cs : List Column) → T (slow (p ∷ (q ∷ cs))) → Slow p q cs
unfolding slow
slowed p q cs t =
    let a = and_yes (ltb (place p) (place q)) _ t in
    let b = and_yes (leb (value p * place q) (value q * (place q + (place q - place p)))) (slow (q ∷ cs)) a.1 in
    record { rises = ltb→lt _ _ a.0; slowly = leb→le _ _ b.0; later = b.1 }

-- ---- all columns
at_first_most : (v P x : ℕ) → x ≤ P → AtMost (of (over v 1) x) (over (v * P) 1)
at_first_most v P x h = omega (arith, mul-le-mul_left v h)

-- from the value of the first column on
head_rises : (p : Column) (cs : List Column) (y : ℕ) → T (slow (p ∷ cs)) → place p ≤ y
    → AtMost (over (value p * place p) 1) (of (between (p ∷ cs) y) y)
head_rises p [] y t h = rw (alone p y) (omega (arith, mul-le-mul_left (value p) h))
head_rises p (q ∷ cs) y t h = go (λ far. head_rises q cs y (slowed p q cs t).later far) (dec_le y (place p)) (dec_le y (place q))
  where
    s : Slow p q cs
    s = slowed p q cs t

    go : (place q ≤ y → AtMost (over (value q * place q) 1) (of (between (q ∷ cs) y) y)) → Dec (y ≤ place p) → Dec (y ≤ place q)
        → AtMost (over (value p * place p) 1) (of (between (p ∷ (q ∷ cs)) y) y)
    go later (yes lo) e = rw (first p q cs y lo) (omega (arith, mul-le-mul_left (value p) h))
    go later (no lo) (yes hi) = rw (straight p q cs y (omega arith) hi) (from_first p q s.rises s.slowly y h hi)
    go later (no lo) (no hi) =
        let far : place q ≤ y = omega arith in
        rw (past p q cs y (omega arith) (omega arith))
        (at_most_trans (over (value p * place p) 1) (over (value q * place q) 1) (of (between (q ∷ cs) y) y) (omega arith)
        (first_to_second p q s.rises s.slowly)
        (later far))

lines_rise : (p : Column) (cs : List Column) (x y : ℕ) → T (slow (p ∷ cs)) → x ≤ y
    → AtMost (of (between (p ∷ cs) x) x) (of (between (p ∷ cs) y) y)
lines_rise p [] x y t h = rw (alone p x, alone p y) (omega (arith, mul-le-mul_left (value p) h))
lines_rise p (q ∷ cs) x y t h = go (lines_rise q cs x y (slowed p q cs t).later h) (dec_le x (place p)) (dec_le x (place q)) (dec_le y (place q))
  where
    s : Slow p q cs
    s = slowed p q cs t

    all : ℕ → Fraction
    all z = of (between (p ∷ (q ∷ cs)) z) z

    up_to_first : x ≤ place p → Dec (y ≤ place p) → AtMost (all x) (all y)
    up_to_first lo (yes k) = rw (first p q cs x lo, first p q cs y k) (omega (arith, mul-le-mul_left (value p) h))
    up_to_first lo (no k) =
        rw (first p q cs x lo)
        (at_most_trans (of (over (value p) 1) x) (over (value p * place p) 1) (all y) (omega arith)
        (at_first_most (value p) (place p) x lo)
        (head_rises p (q ∷ cs) y t (omega arith)))

    go : AtMost (of (between (q ∷ cs) x) x) (of (between (q ∷ cs) y) y)
        → Dec (x ≤ place p) → Dec (x ≤ place q) → Dec (y ≤ place q) → AtMost (all x) (all y)
    go later (yes lo) e f = up_to_first lo (dec_le y (place p))
    go later (no lo) (yes hi) (yes k) =
        rw (straight p q cs x (omega arith) hi, straight p q cs y (omega arith) k)
        (line_rises p q s.rises s.slowly x y (omega arith) h k)
    go later (no lo) (yes hi) (no k) =
        let far : place q ≤ y = omega arith in
        let here : place p ≤ x = omega arith in
        let rises : place p < place q = s.rises in
        rw (straight p q cs x (omega arith) hi, past p q cs y (omega arith) (omega arith))
        (at_most_trans (of (line p q x) x) (over (value q * place q) 1) (of (between (q ∷ cs) y) y) (omega arith)
        (to_second p q rises s.slowly x here hi)
        (head_rises q cs y s.later far))
    go later (no lo) (no hi) f =
        rw (past p q cs x (omega arith) (omega arith), past p q cs y (omega arith) (omega arith)) later

-- ---- what stands at a place as a whole number, where it comes out whole
positive : (p : Column) (cs : List Column) (x : ℕ) → T (slow (p ∷ cs)) → 0 < (between (p ∷ cs) x).den
unfolding between
positive p [] x t = omega arith
positive p (q ∷ cs) x t =
    let s = slowed p q cs t in
    let rises : place p < place q = s.rises in
    by_leb (λ (z : Fraction). 0 < z.den) x (place p) _ _ (λ _. omega arith)
    (λ _. by_leb (λ (z : Fraction). 0 < z.den) x (place q) _ _ (λ _. omega arith) (λ _. positive q cs x s.later))

without_divisors : (f g : Fraction) (m n x y : ℕ) → 0 < f.den → 0 < g.den → Same f (over m 1) → Same g (over n 1)
    → AtMost (of f x) (of g y) → m * x ≤ n * y
without_divisors f g m n x y pf pg ef eg h =
    le_of_mul-le-mul_right {k = f.den * g.den}
    (omega (arith, h, ap (λ (z : ℕ). z * (x * g.den)) ef, ap (λ (z : ℕ). z * (y * f.den)) eg))
    (mul-pos pf pg)

none : (z : ℕ) → down_in 1 (between [] z) ≡ 0
unfolding between
none z = sym (whole_down 0)

pub table_rises : (cs : List Column) (x y : ℕ) → T (fitting cs) → T (slow cs) → x ≤ y
    → down_in 1 (between cs x) * x ≤ down_in 1 (between cs y) * y
table_rises [] x y f t h = rw (none x, none y) (omega arith)
table_rises (p ∷ cs) x y f t h =
    without_divisors (between (p ∷ cs) x) (between (p ∷ cs) y) _ _ x y (positive p cs x t) (positive p cs y t)
    (table_whole (p ∷ cs) x f) (table_whole (p ∷ cs) y f)
    (lines_rise p cs x y t h)
