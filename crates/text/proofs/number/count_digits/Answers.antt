-- `text::number::count_digits` meets its contract. Assumes nothing.
use mathlib.Core.Path.{◌≡◌, sym, ◌∙◌}
use mathlib.Core.Bool.{true, false}
use Prim.Native.Nat.{◌+◌, ◌-◌, ◌*◌, ◌≤◌}
use native.Mathlib.Omega.{arith}
use lib.ListN.{get_or, take, drop}
use Rattle.limits.specs.Ranges.{in_range}
use Rattle.text.proofs.Digital.{within_digit}
use Rattle.text.proofs.Digits.{counted_from, counted_end, counted_more, counted_full, digits_end, digits_stop, digits_more, ten_more}
use Rattle.text.specs.Number.{digits}
use Rattle.text.proofs.number.count_digits.Goals as goal
use Rattle.text.proofs.number.count_digits.Goals.{then-count-gt-DIGITS_MOST-via-then-count-gt-DIGITS_MOST, then-count-gt-DIGITS_MOST-via-else-count-gt-DIGITS_MOST+then-not-is_ascii_digit}

pub returns-then-count-gt-DIGITS_MOST : goal.returns-then-count-gt-DIGITS_MOST
unfolding in_range
returns-then-count-gt-DIGITS_MOST c =
    let s = c.args.s.now in
    let at = c.loop-b in
    let n = at.count in
    elim c.then-count-gt-DIGITS_MOST.branch [
      | then-count-gt-DIGITS_MOST-via-then-count-gt-DIGITS_MOST w ↦ sym (at.invariant.3 ∙ counted_full n at.value (10 - n) _ (omega arith))
      | then-count-gt-DIGITS_MOST-via-else-count-gt-DIGITS_MOST+then-not-is_ascii_digit w ↦
          let other : in_range 48 57 (get_or s n 0) ≡ false = rw at.invariant.0 (sym w.is_ascii_digit.ensures.value ∙ w.if-not-is_ascii_digit.true) in
          sym (at.invariant.3 ∙ counted_end n at.value (10 - n) _ (digits_stop s n (omega arith) other))
    ]

pub loop-b-preserved : goal.loop-b-preserved
unfolding in_range
loop-b-preserved c =
    let s = c.args.s.now in
    let at = c.loop-b in
    let n = at.count in
    let v = at.value in
    let d : c.from.result ≡ get_or s n 0 - 48 = rw at.invariant.0 c.from.ensures in
    let is : in_range 48 57 (get_or s n 0) ≡ true = rw at.invariant.0 (sym c.is_ascii_digit.ensures.value ∙ c.if-not-is_ascii_digit.false) in
    let low : get_or s n 0 ≤ 57 = (within_digit (get_or s n 0) is).1 in
    let step : counted_from n v (take (10 - n) (digits (drop n s))) ≡ counted_from (n + 1) (10 * v + c.from.result) (take (10 - (n + 1)) (digits (drop (n + 1) s))) =
    rw d (counted_more n v (10 - n) (10 - (n + 1)) _ _ _ (omega arith) (digits_more s n (omega arith) is)) in
    (omega arith, omega arith, ten_more v n c.from.result at.invariant.2 (omega arith), at.invariant.3 ∙ step)

pub returns : goal.returns
returns c =
    let at = c.loop-b in
    sym (at.invariant.3 ∙ counted_end at.count at.value (10 - at.count) _ (digits_end c.args.s.now at.count (omega arith)))
