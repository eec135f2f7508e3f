-- `district_call::report::Totals::with_taken` meets its contract. Assumes nothing.
use mathlib.Core.Path.{sym, ◌∙◌}
use Rattle.district_call.proofs.Governed.{v_counted, vm_counted, star_counted}
use Rattle.district_call.proofs.report.Totals.with_taken.Goals as goal

pub returns-in-V : goal.returns-in-V
returns-in-V c = sym (v_counted c.args.self c.args.n (sym c.of.ensures ∙ c.in-V.is))

pub returns-in-Vm : goal.returns-in-Vm
returns-in-Vm c = sym (vm_counted c.args.self c.args.n (sym c.of.ensures ∙ c.in-Vm.is))

pub returns-in-Star : goal.returns-in-Star
returns-in-Star c = sym (star_counted c.args.self c.args.n (sym c.of.ensures ∙ c.in-Star.is))
