-- V is ahead while V* can still rise with R: of hazards where V's is V*'s own, as in the Taipei Basin, and of hazards where V's has no smaller A and B, as
-- near-fault factors make it. Over any unit, lines and divisors.
--   Ahead s k T    V* is divided by e times what V is divided by. Sa of V* is at most e times the end of the first line, 0.3, so that V* is at its end once
--                  its factor is e (`soon`). While its factor is below e, q of V is at least Sa/e (`ratio`)
-- Assumes nothing.
use mathlib.Core.Path.{◌≡◌, sym, subst}
use Prim.Native.Nat.{ℕ, ◌*◌, ◌≤◌, ◌<◌}
use native.Mathlib.Nat.{lt_of_lt_of_le, mul_comm, mul-le-mul_left, mul-le-mul_right, mul-pos, le_of_mul-le-mul_left}
use native.Mathlib.Omega.{arith}
use Rattle.whole.specs.declared.Fraction.{Fraction}
use Rattle.whole.specs.Fraction.{over, AtMost, up_in, down_in}
use Rattle.whole.specs.Root.{lower_root, upper_root}
use Rattle.whole.proofs.Order.{at_most_trans}
use Rattle.whole.proofs.Rounding.{up_law, down_law, up_most}
use Rattle.site.specs.declared.hazard.Hazard.{Hazard}
use Rattle.site.specs.declared.hazard.Hazards.{Hazards}
use Rattle.response.specs.Factor.{lower_factor}
use Rattle.response.specs.Ratio.{ratio}
use Rattle.response.specs.Reach.{FineUnit}
use Rattle.response.specs.Spectrum.{exact_spectrum, spectrum}
use Rattle.response.proofs.Branches.{mean_positive, lower_is_mean, upper_is_mean}
use Rattle.response.proofs.Ductility.{lower_below_upper}
use Rattle.response.proofs.Exact.{mean_rises}
use Rattle.response.proofs.LargerGround.{Rooted, larger_ground}
use Rattle.response.proofs.Mean.{mean, weights}
use Rattle.response.proofs.Most.{spectrum_positive}
use Rattle.response.proofs.Reached.{roots_ordered}
use Rattle.response.proofs.Spectra.{left_positive}
use Rattle.base_shear.specs.Ready.{Ready}
use Rattle.base_shear.specs.Shears.{ratio_at, spectrum_at, lower_at, upper_at}
use Rattle.base_shear.proofs.LowerSome.{lower_some}

pub record Ahead (s : ℕ) (k : Hazards) (T : ℕ) : Type 0 where
  pub soon : k.divisor * (1000 * spectrum_at s k.star T) ≤ k.stardivisor * (k.lines.first * s)
  pub ratio : k.divisor * upper_at s k.star T < k.stardivisor * s
      → k.divisor * spectrum_at s k.star T ≤ k.stardivisor * ratio_at s k.design T

-- q is at least the spectrum over the lower factor
ratio_least : (s : ℕ) (h : Hazard) (T : ℕ) → FineUnit s → Ready s h T → s * spectrum_at s h T ≤ lower_at s h T * ratio_at s h T
unfolding ratio
ratio_least s h T u y =
    (up_law (s * spectrum_at s h T) (lower_at s h T) (lower_some s h T u y)).0

-- ---- one hazard h for both, n and d the divisors of V and V*
pub own_hazard : (s : ℕ) (h : Hazard) (T n d : ℕ) → FineUnit s → Ready s h T → n * upper_at s h T < d * s
    → n * spectrum_at s h T ≤ d * ratio_at s h T
own_hazard s h T n d u y below =
    let F = lower_at s h T in
    let q = ratio_at s h T in
    let order : F ≤ upper_at s h T = lower_below_upper s h.a h.b T h.capacity h.square u y.shape y.ductile in
    let most : n * F ≤ d * s = omega (arith, below, mul-le-mul_left n order) in
    le_of_mul-le-mul_left {k = s} (omega (arith, mul-le-mul_left n (ratio_least s h T u y), mul-le-mul_right q most)) u.positive

-- ---- h of V*, and h' of V with no smaller A and B and with the capacity and the square of h; V* is divided by e times as much
module _ (s : ℕ) (h h' : Hazard) (T e : ℕ) (u : FineUnit s) (y : Ready s h T) (y' : Ready s h' T)
    (la : h.a ≤ h'.a) (lb : h.b ≤ h'.b) (sc : h.capacity ≡ h'.capacity) (sq : h.square ≡ h'.square)
    (o : Rooted e (over (lower_root s h.square) s) h.capacity) where
  abbrev root : Fraction
  root = over (lower_root s h.square) s

  abbrev first : Fraction
  first = mean (weights h.a h.b T) root h.capacity

  abbrev second : Fraction
  second = mean (weights h'.a h'.b T) root h.capacity

  -- the factor of V* at the lower root is at most e while its upper factor is
  first_within : upper_at s h T ≤ e * s → first.num ≤ e * first.den
  first_within below =
      let upper = over (upper_root s h.square) s in
      let m = mean (weights h.a h.b T) upper h.capacity in
      let is = upper_is_mean s h.a h.b T h.capacity h.square u.positive y.shape.a_positive y.shape.b_positive
      y.ductile.cap_positive in
      let p = mean_positive h.a h.b T upper h.capacity y.shape.b_positive u.positive y.ductile.cap_positive in
      let law = (up_law (s * m.num) m.den p).0 in
      let most : up_in s m ≤ e * s = subst (λ (z : ℕ). z ≤ e * s) is below in
      let within : AtMost m (over e 1) =
      le_of_mul-le-mul_left {k = s} (omega (arith, law, mul-le-mul_left m.den most)) u.positive in
      let rises : AtMost first m =
      mean_rises (weights h.a h.b T) root upper h.capacity (mul-le-mul_right s (roots_ordered s h.capacity h.square u y.ductile)) in
      omega (arith, at_most_trans first m (over e 1) p rises within)

  lower_is : lower_at s h' T ≡ down_in s second
  lower_is =
      subst (λ (c : Fraction). lower_factor s h'.a h'.b T c h'.square ≡ down_in s second) sc
      (subst (λ (ρ : Fraction). lower_factor s h'.a h'.b T h.capacity ρ ≡ down_in s second) sq
      (lower_is_mean s h'.a h'.b T h.capacity h.square u.positive y'.shape.a_positive y'.shape.b_positive
      y.ductile.cap_positive))

  pub larger_hazard : upper_at s h T ≤ e * s → spectrum_at s h T ≤ e * ratio_at s h' T
  unfolding spectrum
  larger_hazard below =
      let x = exact_spectrum h.a h.b T in
      let x' = exact_spectrum h'.a h'.b T in
      let p = mean_positive h'.a h'.b T root h.capacity y'.shape.b_positive u.positive y.ductile.cap_positive in
      up_most (s * x.num) x.den (e * ratio_at s h' T) (spectrum_positive h.a h.b T y.shape.b_positive)
      (chain e s (lower_at s h' T) (ratio_at s h' T) (up_in s x') second.num second.den x.num x.den x'.num x'.den
      u.positive (lower_some s h' T u y') p
      (spectrum_positive h'.a h'.b T y'.shape.b_positive)
      (ratio_least s h' T u y')
      (subst (λ (z : ℕ). second.den * z ≤ s * second.num) (sym lower_is) (down_law (s * second.num) second.den p).0)
      (up_law (s * x'.num) x'.den (spectrum_positive h'.a h'.b T y'.shape.b_positive)).0
      (larger_ground e h.a h.b h'.a h'.b T root h.capacity o y.shape.b_positive la lb (first_within below)))
    where
      -- q·F ≥ s·Sa', F ≤ s·N/D, Sa' ≥ s·p'/u' and N/D·p/u ≤ e·p'/u' leave s·p/u ≤ e·q
      chain : (e s F q S N D p u p' u' : ℕ) → 0 < s → 0 < F → 0 < D → 0 < u' → s * S ≤ F * q → D * F ≤ s * N → s * p' ≤ u' * S
          → N * p * (1 * u') ≤ e * p' * (D * u) → s * p ≤ u * (e * q)
      chain e s F q S N D p u p' u' ps pf pd pu one two three four =
          let some : 0 < N = left_positive N s (s * N) (mul_comm N s) (lt_of_lt_of_le (mul-pos pd pf) two) in
          let ratio : D * S ≤ N * q = le_of_mul-le-mul_left {k = s} (omega (arith, mul-le-mul_left D one, mul-le-mul_right q two)) ps in
          let spread : s * p' * D ≤ u' * (N * q) = omega (arith, mul-le-mul_right D three, mul-le-mul_left u' ratio) in
          le_of_mul-le-mul_left {k = N * u'} (omega (arith, mul-le-mul_left s four, mul-le-mul_left (e * u) spread)) (mul-pos some pu)
