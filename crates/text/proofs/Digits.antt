-- The digits at the front, counted and added up one by one: those up to the i-th are.
-- Assumes nothing.
use mathlib.Core.Path.{◌≡◌, ap}
use mathlib.Core.Bool.{true, false}
use mathlib.Core.List.{List, [], ◌∷◌}
use Prim.Native.Nat.{ℕ, zero, suc, ◌+◌, ◌-◌, ◌*◌, ◌^◌, ◌≤◌, ◌<◌}
use native.Mathlib.Nat.{add-zero, zero-add, pow-suc, pow-le-pow_right, lt_of_lt_of_le}
use native.Mathlib.Numerals.{add-one}
use native.Mathlib.Omega.{arith}
use lib.Dec.{lit<}
use lib.ListN.{length, get_or, take, drop, drop_of_length-le}
use lib.Seq.{drop-cons}
use Rattle.limits.specs.Ranges.{in_range}
use Rattle.text.specs.declared.number.Digits.{Digits}
use Rattle.text.specs.Number.{digits, value_from, counted}

module _ (l : List ℕ) (i : ℕ) where
  pub digits_end : length l ≤ i → digits (drop i l) ≡ []
  unfolding digits
  digits_end h = rw (drop_of_length-le l {i = i} h)

  pub digits_stop : i < length l → in_range 48 57 (get_or l i 0) ≡ false → digits (drop i l) ≡ []
  unfolding digits
  digits_stop h e = rw (drop-cons l i 0 h, e)

  pub digits_more : i < length l → in_range 48 57 (get_or l i 0) ≡ true → digits (drop i l) ≡ get_or l i 0 ∷ digits (drop (i + 1) l)
  unfolding digits
  digits_more h e = rw (add-one i, drop-cons l i 0 h, e)

-- a value of u digits, with one digit more
pub ten_more : (v u d : ℕ) → v < 10 ^ u → d ≤ 9 → 10 * v + d < 10 ^ (u + 1)
ten_more v u d h e = rw (add-one u, pow-suc 10 u) (omega arith)

pub ten_most : (v u : ℕ) → v < 10 ^ u → u ≤ 10 → v < 10_000_000_000
ten_most v u h e = lt_of_lt_of_le h (pow-le-pow_right (lit< tt) e)

-- what is counted where n digits that write v came before
abbrev pub counted_from : ℕ → ℕ → List ℕ → Digits
counted_from n v ds = record { count = n + length ds; value = value_from v ds }

pub counted_none : (ds : List ℕ) → counted ds ≡ counted_from 0 0 ds
counted_none ds = rw (zero-add (length ds))

module _ (n v : ℕ) where
  pub counted_end : (r : ℕ) (ds : List ℕ) → ds ≡ [] → counted_from n v (take r ds) ≡ record { count = n; value = v }
  unfolding value_from
  counted_end zero ds e = rw (add-zero n)
  counted_end (suc r) ds e = rw (e, add-zero n)

  pub counted_full : (r : ℕ) (ds : List ℕ) → r ≡ 0 → counted_from n v (take r ds) ≡ record { count = n; value = v }
  unfolding value_from
  counted_full r ds e = rw (e, add-zero n)

  pub counted_more : (r q b : ℕ) (ds more : List ℕ) → r ≡ suc q → ds ≡ b ∷ more
      → counted_from n v (take r ds) ≡ counted_from (n + 1) (10 * v + (b - 48)) (take q more)
  unfolding value_from
  counted_more r q b ds more er ed =
      rw (er, ed) (ap (λ (k : ℕ). record { count = k; value = value_from (10 * v + (b - 48)) (take q more) }) (omega arith))
