-- `text::line::field` meets its contract. Assumes nothing.
use mathlib.Core.Path.{sym, ap, ◌∙◌}
use Rattle.text.proofs.Readings.{first_missed, no_answer, onward, word_missed, word_went}
use Rattle.text.specs.Line.{tab, field}
use Rattle.text.specs.Number.{number}
use Rattle.text.specs.Reading.{word, and_rest}
use Rattle.text.proofs.line.field.Goals as goal

pub returns-in_err-word : goal.returns-in_err-word
unfolding field
returns-in_err-word c =
    let missed = word_missed _ _ _ c.word.ensures c.in_err-word.was in
    ap and_rest c.from_residual.ensures ∙ no_answer c.args.s.now _ (first_missed (word tab) (λ _. number) missed)

pub returns : goal.returns
unfolding field
returns c =
    c.number.ensures ∙ sym (onward (word_went _ _ _ _ c.word.ensures c.in_ok-word.was) (λ _. number))
