-- `whole::paper::digit` meets its contract. The invariant: c is at most 9, and no digit above it fits. The measure is c. Assumes nothing.
use mathlib.Core.Path.{◌≡◌, ap}
use Prim.Native.Nat.{ℕ, zero, suc, ◌-◌, ◌*◌, ◌/◌, ◌≤◌, ◌<◌}
use native.Mathlib.Nat.{zero-lt-suc}
use native.Mathlib.Decide.{dec_le}
use native.Mathlib.Omega.{arith}
use Rattle.whole.specs.Digits.{taken}
use Rattle.whole.proofs.Taken.{digit_trial, digit_most}
use Rattle.whole.proofs.paper.digit.Invariants.{Above}
use Rattle.whole.proofs.paper.digit.Goals as goal

module _ (d k p left c : ℕ) (t : left < taken d k (c * p)) where
  -- 0 takes nothing
  takes_more : 0 < c
  takes_more = go c t
    where
      go : (c : ℕ) → left < taken d k (c * p) → 0 < c
      go zero h = absurd (omega (arith, h))
      go (suc c) h = zero-lt-suc c

  -- a digit that fits is below one that does not
  one_less : Above d k p left c → Above d k p left (c - 1)
  one_less inv = (omega (arith, inv.0), λ j h. go j h (dec_le c j))
    where
      go : (j : ℕ) → taken d k (j * p) ≤ left → Dec (c ≤ j) → j ≤ c - 1
      go j h (yes m) =
          let e : j ≡ c = omega (arith, m, inv.1 j h) in
          absurd (omega (arith, t, h, ap (λ (i : ℕ). taken d k (i * p)) e))
      go j h (no n) = omega (arith, n)

pub loop-c-init : goal.loop-c-init
loop-c-init c =
    let a = c.args in
    let p = c.requires in
    let t = digit_trial a.d a.k a.p a.left p.0 p.3 in
    let m = digit_most a.d a.k a.p a.left p.5 in
    let e = c.taken.ensures in
    let f : a.left / c.taken.result ≡ a.left / taken a.d a.k a.p = ap (λ (r : ℕ). a.left / r) e in
    (omega (arith, c.min-c.ensures), λ j h. omega (arith, c.min-c.ensures, f, t j h, m j h))
