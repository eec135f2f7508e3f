-- A larger R never raises V_D, at one T. V* rises with R only while F is below Sa over the end of the first line, which is Sa/0.3, and never above
-- I·Sa·W over its divisor and alpha-y. Where V is `Ahead`, V is at least that while V* rises. And as V* never falls, V_D stays where V* is the largest. Over
-- any unit, lines that meet, divisors, and hazards within reach.
-- Assumes nothing.
use mathlib.Core.Path.{◌≡◌, sym, subst₂}
use Prim.Native.Nat.{ℕ, ◌*◌, ◌≤◌, ◌<◌}
use native.Mathlib.Nat.{le_refl, le_trans, mul-le-mul_left, mul-le-mul_right, mul-pos, le_of_mul-le-mul_left}
use native.Mathlib.Decide.{dec_le}
use native.Mathlib.Omega.{arith}
use Rattle.whole.specs.Rounding.{up}
use Rattle.whole.proofs.Rounding.{up_law, up_at_most_times}
use Rattle.limits.specs.declared.frame.Frame.{Frame}
use Rattle.site.specs.declared.hazard.Hazards.{Hazards}
use Rattle.response.specs.Factor.{upper_factor}
use Rattle.response.specs.Ratio.{bent, modified, blended}
use Rattle.response.specs.Reach.{Meeting}
use Rattle.response.specs.Spectrum.{spectrum}
use Rattle.response.proofs.Bent.{bent_first, bent_past_first}
use Rattle.response.proofs.Ductility.{blended_full}
use Rattle.response.proofs.Most.{blended_within}
use Rattle.base_shear.specs.Moves.{MoreDuctileAll}
use Rattle.base_shear.specs.Ready.{Shearing}
use Rattle.base_shear.specs.Shears.{newtons, ratio_at, shear, star, base, spectrum_at, upper_at}
use Rattle.base_shear.proofs.Ahead.{Ahead}
use Rattle.base_shear.proofs.Moves.{no_lighter_itself, newtons_rise, shear_never_higher, star_never_falls}

-- ---- newtons of x over d tenths and of m over n tenths
newtons_across : (s n d : ℕ) (f : Frame) (W x m : ℕ) → 0 < s → 0 < n → 0 < d → 0 < f.alpha → n * x ≤ d * m
    → newtons s d f W x ≤ newtons s n f W m
unfolding newtons
newtons_across s n d f W x m ps pn pd pa h =
    let once = up_at_most_times 1 (10_000 * (f.i * m * W)) (n * s * f.alpha) (10_000 * (f.i * x * W)) (d * s * f.alpha)
    (mul-pos (mul-pos pn ps) pa) (mul-pos (mul-pos pd ps) pa) (omega (arith, mul-le-mul_right (10_000 * (f.i * W) * (s * f.alpha)) h)) in
    omega (arith, once)

star_within_base : (s : ℕ) (k : Hazards) (f : Frame) (W T : ℕ) → star s k f W T ≤ base s k f W T
unfolding base
star_within_base s k f W T = omega arith

-- ---- V* at one R, and V at another
module _ (s : ℕ) (k k' : Hazards) (T : ℕ) (d : MoreDuctileAll k k') (g : Shearing s k T) (g' : Shearing s k' T) (meet : Meeting k.lines)
    (f : Frame) (pa : 0 < f.alpha) (W : ℕ) where
  abbrev sa : ℕ
  sa = spectrum_at s k.star T

  -- how far V* can rise
  abbrev end : ℕ
  end = newtons s k.stardivisor f W sa

  star_to_end : star s k' f W T ≤ end
  unfolding star
  star_to_end =
      let h = k'.star in
      rw (sym d.stardivisor, sym d.lines)
      (newtons_rise s k.stardivisor g.unit.positive g.stardivisor.0 f f W W pa (no_lighter_itself f W) _ _
      (subst₂ (λ (a b : ℕ). blended k.lines (spectrum s a b T) (upper_factor s a b T h.capacity h.square) ≤ sa) d.star.a d.star.b
      (blended_within k.lines meet sa (upper_factor s k.star.a k.star.b T h.capacity h.square))))

  -- where F is at least Sa/0.3 it is there
  star_at_end : 1000 * sa ≤ k.lines.first * upper_at s k.star T → end ≤ star s k f W T
  unfolding star
  star_at_end h = rw (blended_full k.lines sa (upper_at s k.star T) h) (le_refl end)

  -- and so a larger R leaves it as it is
  pub star_stays : 1000 * sa ≤ k.lines.first * upper_at s k.star T → star s k' f W T ≤ star s k f W T
  star_stays h = le_trans star_to_end (star_at_end h)

  module _ (b : Ahead s k T) where
    -- where q is at least Sa/e, so is m: on the first line m is q, and past it m is no lower than its end, which Sa/e does not exceed (`soon`)
    bent_enough : k.divisor * sa ≤ k.stardivisor * ratio_at s k.design T
        → k.divisor * (1000 * sa) ≤ k.stardivisor * bent k.lines (ratio_at s k.design T) s
    bent_enough h = go (dec_le (1000 * q) (k.lines.first * s))
      where
        q : ℕ
        q = ratio_at s k.design T

        go : Dec (1000 * q ≤ k.lines.first * s) → k.divisor * (1000 * sa) ≤ k.stardivisor * bent k.lines q s
        go (yes n) = rw (bent_first k.lines q s n) (omega (arith, h))
        go (no n) =
            let past : k.lines.first * s ≤ 1000 * q = omega arith in
            le_trans b.soon (mul-le-mul_left k.stardivisor (bent_past_first k.lines meet q s past))

    -- while F is below the one divisor over the other, V is at least the end
    v_at_end : k.divisor * upper_at s k.star T < k.stardivisor * s → end ≤ shear s k k.design f W T
    unfolding shear modified
    v_at_end h =
        let z = bent k.lines (ratio_at s k.design T) s in
        newtons_across s k.divisor k.stardivisor f W sa (up z 1000) g.unit.positive g.divisor.0 g.stardivisor.0 pa
        (le_of_mul-le-mul_left {k = 1000}
        (omega (arith, bent_enough (b.ratio h), mul-le-mul_left k.stardivisor (up_law z 1000 (omega arith)).0))
        (omega arith))

    -- where V* rises, it does not come above what V was
    pub risen_below_v : star s k f W T < star s k' f W T → star s k' f W T ≤ shear s k k.design f W T
    risen_below_v risen = go (dec_le (k.stardivisor * s) (k.divisor * upper_at s k.star T))
      where
        go : Dec (k.stardivisor * s ≤ k.divisor * upper_at s k.star T) → star s k' f W T ≤ shear s k k.design f W T
        go (yes h) =
            let F = upper_at s k.star T in
            let full : 1000 * sa ≤ k.lines.first * F =
            le_of_mul-le-mul_left {k = k.divisor} (omega (arith, b.soon, mul-le-mul_left k.lines.first h)) g.divisor.0 in
            absurd (omega (arith, risen, star_stays full))
        go (no h) = le_trans star_to_end (v_at_end (omega arith))

    pub base_never_rises : base s k' f W T ≤ base s k f W T
    unfolding base
    base_never_rises =
        let v = shear_never_higher s k k' T d g g' meet f pa W k.design k'.design g.design g'.design d.design in
        let vm = shear_never_higher s k k' T d g g' meet f pa W k.mce k'.mce g.mce g'.mce d.mce in
        go v vm (dec_le (star s k' f W T) (star s k f W T))
      where
        go : shear s k' k'.design f W T ≤ shear s k k.design f W T → shear s k' k'.mce f W T ≤ shear s k k.mce f W T
            → Dec (star s k' f W T ≤ star s k f W T) → base s k' f W T ≤ base s k f W T
        go v vm (yes h) = omega (arith, v, vm, h)
        go v vm (no h) = omega (arith, v, vm, risen_below_v (omega arith))

    -- where V* is the largest, V_D stays as it is
    pub base_stays : base s k f W T ≡ star s k f W T → base s k' f W T ≡ base s k f W T
    base_stays e =
        let rises = star_never_falls s k k' T d g g' meet f pa W in
        let within = star_within_base s k' f W T in
        omega (arith, e, rises, within, base_never_rises)
