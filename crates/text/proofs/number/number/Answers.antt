-- `text::number::number` meets its contract. Assumes nothing.
use mathlib.Core.Path.{refl, sym, ap, ◌∙◌}
use mathlib.Core.List.{List}
use Prim.Native.Nat.{ℕ}
use native.Mathlib.Omega.{arith}
use Rattle.std.specs.Prelude.{Some}
use Rattle.std.proofs.lemmas.Slice.{between_to_end}
use Rattle.text.proofs.Numbers.{count_none, count_many, count_short, count_led, count_found}
use Rattle.text.proofs.Readings.{no_answer}
use Rattle.text.specs.Reading.{left}
use Rattle.text.proofs.number.number.Goals as goal

pub returns-then-count-lt-DIGITS_FEWEST : goal.returns-then-count-lt-DIGITS_FEWEST
returns-then-count-lt-DIGITS_FEWEST c =
    no_answer _ _ (count_none c.args.s.now _ c.count_digits-count.ensures c.if-count-lt-DIGITS_FEWEST.true)

pub returns-then-count-gt-DIGITS_MOST : goal.returns-then-count-gt-DIGITS_MOST
returns-then-count-gt-DIGITS_MOST c =
    no_answer _ _ (count_many c.args.s.now _ c.count_digits-count.ensures c.if-count-gt-DIGITS_MOST.true)

pub bounds-s-0 : goal.bounds-s-0
bounds-s-0 c = omega (arith, count_short c.args.s.now _ c.count_digits-count.ensures (omega arith) (omega arith))

pub returns-then-leading_zero : goal.returns-then-leading_zero
returns-then-leading_zero c =
    no_answer _ _ (count_led c.args.s.now _ c.count_digits-count.ensures (omega arith) (omega arith) _ refl (sym c.leading_zero.ensures ∙ c.if-leading_zero.true))

pub slice_bounds-result-count : goal.slice_bounds-result-count
slice_bounds-result-count c = omega (arith, count_short c.args.s.now _ c.count_digits-count.ensures (omega arith) (omega arith))

pub slice_bounds-result-start : goal.slice_bounds-result-start
slice_bounds-result-start c = omega (arith, count_short c.args.s.now _ c.count_digits-count.ensures (omega arith) (omega arith))

pub returns : goal.returns
unfolding left
returns c =
    let found = count_found c.args.s.now _ c.count_digits-count.ensures (omega arith) (omega arith) _ refl (sym c.leading_zero.ensures ∙ c.if-leading_zero.false) in
    rw found (ap (λ (l : List ℕ). Some (c.count_digits-count.result.value, l)) (between_to_end c.args.s.now _ _ (omega arith)))
