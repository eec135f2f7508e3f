-- `Tabbed` prints each of its numbers behind a tab. Assumes nothing.
use Rattle.std.proofs.Common.{◌≡◌, ◌+◌, ◌++◌, ◌∷◌, [], Ok, take, ap, sym, ◌∙◌}
use Rattle.std.proofs.lemmas.List.{take_more}
use Rattle.std.proofs.Output.{displays_on_ok_of_eq, displays_on_IsOk_append, writes_in_calls_nil}
use Rattle.cases.specs.Said.{tabbed}
use Rattle.cases.proofs.Tabs.{tabbed_more}
use Rattle.cases.proofs.said.TabbedDisplay.fmt.Goals as goal

pub loop-number-init : goal.loop-number-init
unfolding tabbed
loop-number-init g c = λ plain _. record { wrote = writes_in_calls_nil _ _; plain = plain }

pub loop-number-preserved : goal.loop-number-preserved
loop-number-preserved g c =
    let xs = c.args.self.now.0.now in
    let i = c.loop-number.number-index in
    let x = c.number-item.result in
    let out = g.T.Display.output in
    let more : take (i + 1) xs ≡ take i xs ++ x ∷ [] = take_more xs i x c.loop-number-test.true ∙ ap (λ y. take i xs ++ y ∷ []) (sym c.number-item.is) in
    displays_on_ok_of_eq g.W.Write.write_str_gives c.args.f.now c.write.new.self (Ok tt) _ _ (sym (tabbed_more out (take i xs) x) ∙ ap (tabbed out) (sym more))
    (displays_on_IsOk_append _ _ c.loop-number.f _ (Ok tt) (Ok tt) _ _ (λ y. y) c.loop-number.invariant c.in_ok-write.ensures.writes)
