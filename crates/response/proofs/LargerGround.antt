-- Two grounds at one T, the second of no smaller A and B, with one root and one capacity. While the factor of the first is at most e, the factor of the
-- second times the spectrum of the first is at most e times the spectrum of the second: where a shorter T0 makes the factor of the second the larger,
-- a larger A makes its spectrum larger still.
--   Rooted e r c    a root r of at most e, not above the capacity c and at least 0.6 of it; e at least 3
-- The cases, by where T lies on each ground, stand in one file: they share what is known of both.
-- Assumes nothing.
use mathlib.Core.Path.{◌≡◌, sym, ap, subst, subst₂}
use Prim.Native.Nat.{ℕ, ◌+◌, ◌-◌, ◌*◌, ◌≤◌, ◌<◌}
use native.Mathlib.Nat.{mul-le-mul, mul-le-mul_left, mul-le-mul_right, mul-pos, le_of_mul-le-mul_right}
use native.Mathlib.Decide.{dec_le}
use native.Mathlib.Omega.{arith}
use Rattle.whole.specs.declared.Fraction.{Fraction}
use Rattle.whole.specs.Fraction.{over, times, AtMost}
use Rattle.whole.proofs.Order.{at_most_trans, times_rises}
use Rattle.response.specs.Spectrum.{g, exact_spectrum}
use Rattle.response.proofs.Branches.{mean_positive, beyond, rising, level, below}
use Rattle.response.proofs.LargerProducts.{far_below, flat, rising_twice, rising_once, far_past}
use Rattle.response.proofs.LeastSpectrum.{low_rising, low_flat, low_past, both_past}
use Rattle.response.proofs.Mean.{Weights, mean, weights}
use Rattle.response.proofs.Most.{spectrum_within, spectrum_positive}
use Rattle.response.proofs.Spectra.{left_positive}

pub record Rooted (e : ℕ) (r c : Fraction) : Type 0 where
  pub three : 3 ≤ e
  pub root_positive : 0 < r.den
  pub cap_positive : 0 < c.den
  pub root_most : r.num ≤ e * r.den
  pub root_least : 3 * (c.num * r.den) ≤ 5 * (r.num * c.den)
  pub root_below : AtMost r c

module _ (e A B A' B' T : ℕ) (r c : Fraction) (o : Rooted e r c) (pb : 0 < B) (la : A ≤ A') (lb : B ≤ B')
    (within : (mean (weights A B T) r c).num ≤ e * (mean (weights A B T) r c).den) where
  abbrev α : ℕ
  α = r.num * c.den

  abbrev β : ℕ
  β = c.num * r.den

  abbrev γ : ℕ
  γ = r.den * c.den

  root_within : α ≤ e * γ
  root_within = omega (arith, mul-le-mul_right c.den o.root_most)

  -- past its corner the first factor is the capacity
  cap_within : 1000 * B ≤ T * A → β ≤ e * γ
  cap_within h =
      let f = subst (λ (w : Weights). (mean w r c).num ≤ e * (mean w r c).den) (beyond A B T h) within in
      omega (arith, f)

  -- and from 0.6 of it on between root and capacity
  tens_within : T * A < 1000 * B → 600 * B ≤ T * A → (1000 * B - T * A) * α + (T * A - 600 * B) * β ≤ e * (400 * B * γ)
  tens_within h l =
      of_tens α β γ (1000 * B - T * A) (T * A - 600 * B) (omega arith)
      (subst (λ (w : Weights). (mean w r c).num ≤ e * (mean w r c).den) (rising A B T h l) within)
    where
      of_tens : (α β γ y z : ℕ) → y + z ≡ 400 * B → 0 * γ + 10 * y * α + 10 * z * β ≤ e * ((0 + 10 * y + 10 * z) * γ)
          → y * α + z * β ≤ e * (400 * B * γ)
      of_tens α β γ y z g k = omega (arith, k, ap (λ (v : ℕ). e * γ * v) g)

  abbrev x' : Fraction
  x' = exact_spectrum A' B' T

  abbrev Enough : Weights → Type 0
  Enough w = AtMost (times (mean w r c) (g A)) (times (over e 1) x')

  enough_below : T * A' < 200 * B' → Enough (weights A' B' T)
  enough_below h =
      let y = 200 * B' - T * A' in
      let t = T * A' in
      let a : 400 * B' + 3 * t ≡ 2 * y + 5 * t = omega arith in
      let b : 1000 * B' ≡ 5 * (y + t) = omega arith in
      let low = subst₂ (λ (m n : ℕ). A' * m * x'.den ≤ x'.num * (n * 100_000_000)) a b (low_rising A' B' T (omega arith)) in
      subst Enough (sym (below A' B' T h)) (far_below e A A' α γ y t x'.num x'.den o.three la root_within low β)

  enough_level : T * A' < 600 * B' → 200 * B' ≤ T * A' → Enough (weights A' B' T)
  enough_level h l =
      subst Enough (sym (level A' B' T h l))
      (flat e A A' (0 * γ + 1 * α + 0 * β) ((0 + 1 + 0) * γ) x'.num x'.den (omega (arith, mul-le-mul root_within la))
      (low_flat A' B' T l (omega arith)))

  module _ (h : T * A' < 1000 * B') (l : 600 * B' ≤ T * A') where
    abbrev y' : ℕ
    y' = 1000 * B' - T * A'

    abbrev z' : ℕ
    z' = T * A' - 600 * B'

    by_tens : (y' * α + z' * β) * A ≤ e * A' * (400 * B' * γ) → Enough (weights A' B' T)
    by_tens k =
        subst Enough (sym (rising A' B' T h l))
        (flat e A A' (0 * γ + 10 * y' * α + 10 * z' * β) ((0 + 10 * y' + 10 * z') * γ) x'.num x'.den
        (spread e A A' α β γ y' z' B' (omega arith) k)
        (low_flat A' B' T (omega arith) (omega arith)))
      where
        spread : (e A A' α β γ y z B : ℕ) → y + z ≡ 400 * B → (y * α + z * β) * A ≤ e * A' * (400 * B * γ)
            → (0 * γ + 10 * y * α + 10 * z * β) * A ≤ e * A' * ((0 + 10 * y + 10 * z) * γ)
        spread e A A' α β γ y z B g k = omega (arith, k, ap (λ (v : ℕ). e * A' * γ * v) g)

    enough_rising : Dec (1000 * B ≤ T * A) → Dec (600 * B ≤ T * A) → Enough (weights A' B' T)
    enough_rising (yes f) n =
        by_tens (past e A A' α β γ y' z' B' (omega arith) la o.root_below (cap_within f))
      where
        past : (e A A' α β γ y z B : ℕ) → y + z ≡ 400 * B → A ≤ A' → α ≤ β → β ≤ e * γ → (y * α + z * β) * A ≤ e * A' * (400 * B * γ)
        past e A A' α β γ y z B g la cap most =
            let n : y * α + z * β ≤ 400 * B * β = omega (arith, mul-le-mul_left y cap, ap (λ (v : ℕ). v * β) g) in
            omega (arith, mul-le-mul n la, mul-le-mul_right (400 * B * A') most)
    enough_rising (no f) (yes m) =
        let y = 1000 * B - T * A in
        let z = T * A - 600 * B in
        by_tens
        (divided e A A' B B' γ (y' * α + z' * β) (y * α + z * β) pb (tens_within (omega arith) m)
        (rising_twice A B A' B' T α β la lb o.root_least o.root_below y' z' (omega arith) (omega arith) y z (omega arith) (omega arith)))
      where
        divided : (e A A' B B' γ m' m : ℕ) → 0 < B → m ≤ e * (400 * B * γ) → m' * A * B ≤ m * A' * B' → m' * A ≤ e * A' * (400 * B' * γ)
        divided e A A' B B' γ m' m p k n = le_of_mul-le-mul_right {k = B} (omega (arith, n, mul-le-mul_right (A' * B') k)) p
    enough_rising (no f) (no m) =
        let n = rising_once A B A' B' T α β la lb o.root_least o.root_below y' z' (omega arith) (omega arith) (omega arith) in
        by_tens (omega (arith, n, mul-le-mul_left (400 * B' * A') root_within))

  module _ (h : 1000 * B' ≤ T * A') where
    t_positive : 0 < T
    t_positive = left_positive T A' (T * A') (λ i. T * A') (omega arith)

    by_factor : T * A * β ≤ 1000 * e * B' * γ → Enough (weights A' B' T)
    by_factor k =
        subst Enough (sym (beyond A' B' T h))
        (far_past e A B' T α β γ x'.num x'.den t_positive k (low_past A' B' T (omega arith) h).0)

    enough_past : T * A < 1000 * B → Dec (600 * B ≤ T * A) → Enough (weights A' B' T)
    enough_past f (yes m) =
        by_factor
        (on_line_past (T * A) α β γ (1000 * B - T * A) (T * A - 600 * B) (omega arith) (omega arith) o.root_least (tens_within f m))
      where
        on_line_past : (t α β γ y z : ℕ) → y + t ≡ 1000 * B → z + 600 * B ≡ t → 3 * β ≤ 5 * α → y * α + z * β ≤ e * (400 * B * γ)
            → t * β ≤ 1000 * e * B' * γ
        on_line_past t α β γ y z ey ez least k =
            omega (
              arith,
              ap (λ (v : ℕ). v * β) ey,
              ap (λ (v : ℕ). v * β) ez,
              mul-le-mul_left y least,
              k,
              mul-le-mul_right (e * γ) lb,
            )
    enough_past f (no m) =
        let t : T * A ≤ 600 * B = omega arith in
        by_factor
        (omega (
          arith,
          mul-le-mul_right β t,
          mul-le-mul_left B o.root_least,
          mul-le-mul_left B root_within,
          mul-le-mul_right (e * γ) lb,
        ))

  -- ---- all together
  abbrev x : Fraction
  x = exact_spectrum A B T

  abbrev second : Fraction
  second = mean (weights A' B' T) r c

  enough : Enough (weights A' B' T) → AtMost (times second x) (times (over e 1) x')
  enough k =
      at_most_trans (times second x) (times second (g A)) (times (over e 1) x')
      (mul-pos (mean_positive A' B' T r c (omega arith) o.root_positive o.cap_positive) (omega arith))
      (times_rises second x (g A) (omega (arith, spectrum_within A 100_000_000 A B T (omega arith))))
      k

  past_both : 1000 * B ≤ T * A → 1000 * B' ≤ T * A' → AtMost (times second x) (times (over e 1) x')
  past_both h h' =
      let cap = cap_within h in
      let most : second.num ≤ e * second.den =
      subst (λ (w : Weights). (mean w r c).num ≤ e * (mean w r c).den) (sym (beyond A' B' T h')) (omega (arith, cap)) in
      at_most_trans (times second x) (times (over e 1) x) (times (over e 1) x')
      (mul-pos {m = 1} (omega arith) (spectrum_positive A B T pb))
      (omega (arith, mul-le-mul_right (x.num * x.den) most))
      (times_rises (over e 1) x x' (both_past A B A' B' T pb la lb h h'))

  pub larger_ground : AtMost (times (mean (weights A' B' T) r c) (exact_spectrum A B T)) (times (over e 1) (exact_spectrum A' B' T))
  larger_ground = go (dec_le (200 * B') (T * A')) (dec_le (600 * B') (T * A')) (dec_le (1000 * B') (T * A')) (dec_le (1000 * B) (T * A))
    where
      go : Dec (200 * B' ≤ T * A') → Dec (600 * B' ≤ T * A') → Dec (1000 * B' ≤ T * A') → Dec (1000 * B ≤ T * A)
          → AtMost (times second x) (times (over e 1) x')
      go (no h) k m n = enough (enough_below (omega arith))
      go (yes h) (no k) m n = enough (enough_level (omega arith) h)
      go (yes h) (yes k) (no m) n = enough (enough_rising (omega arith) k n (dec_le (600 * B) (T * A)))
      go (yes h) (yes k) (yes m) (yes n) = past_both n m
      go (yes h) (yes k) (yes m) (no n) = enough (enough_past m (omega arith) (dec_le (600 * B) (T * A)))
