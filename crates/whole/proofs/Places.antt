-- Places, 1, 10, 100, ..: each but 1 is ten times the next, and zeros behind a place are zeros behind the next.
-- Assumes nothing.
use mathlib.Core.Path.{◌≡◌, refl, subst}
use Prim.Native.Nat.{ℕ, zero, suc, ◌*◌, ◌/◌, ◌^◌, ◌≤◌, ◌<◌, ◌∣◌}
use native.Mathlib.Nat.{lt_of_not-le, pow-zero, pow-suc, pow-le-pow_right, one-le-pow, mul-div_cancel, dvd-mul_left, dvd-mul_left_of_dvd, div-mul_cancel}
use native.Mathlib.Decide.{dec_le}
use native.Mathlib.Omega.{arith}
use Rattle.whole.specs.Digits.{Place}

pub place_positive : {p : ℕ} → Place p → 0 < p
place_positive h = rw h.place (one-le-pow h.zeros 10 (omega arith))

pub place_one : Place 1
place_one = record { zeros = 0; place = refl }

-- a place larger than `last` is ten times a place that is at least `last`
pub tenth : (last p : ℕ) → Place last → Place p → last < p → (Place (p / 10)) × (p ≡ 10 * (p / 10)) × (last ≤ p / 10)
tenth last p l h lt = go h.zeros h.place
  where
    go : (e : ℕ) → p ≡ 10 ^ e → (Place (p / 10)) × (p ≡ 10 * (p / 10)) × (last ≤ p / 10)
    go zero q = absurd (omega (arith, q, pow-zero 10, place_positive l))
    go (suc e) q =
        let t : p ≡ 10 ^ e * 10 = rw (q, pow-suc) in
        let d : p / 10 ≡ 10 ^ e = rw t (mul-div_cancel (10 ^ e) {n = 10} (omega arith)) in
        (record { zeros = e; place = d }, omega (arith, t, d), omega (arith, d, below e (dec_le l.zeros e) (omega (arith, t, l.place))))
      where
        below : (e : ℕ) → Dec (l.zeros ≤ e) → 10 ^ l.zeros < 10 ^ e * 10 → last ≤ 10 ^ e
        below e (yes m) k = rw l.place (pow-le-pow_right (omega arith) m)
        below e (no m) k = absurd (omega (arith, k, pow-suc 10 e, pow-le-pow_right {n = 10} (omega arith) {i = suc e} {j = l.zeros} (omega (arith, lt_of_not-le m))))

pub zeros_next : (p k : ℕ) → 10 * p ∣ k → p ∣ k
zeros_next p k z = subst (λ (j : ℕ). p ∣ j) (div-mul_cancel (10 * p) z) (dvd-mul_left_of_dvd p (dvd-mul_left p 10) (k / (10 * p)))
