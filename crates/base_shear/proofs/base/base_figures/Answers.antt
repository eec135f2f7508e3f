-- `base_shear::base::base_figures` meets its contract. Assumes nothing.
use mathlib.Core.Path.{sym, subst}
use Prim.Native.Nat.{ℕ}
use Rattle.base_shear.specs.Ready.{Shearing}
use Rattle.response.proofs.Periods.{period_bounds}
use Rattle.response.specs.Unit.{unit}
use Rattle.base_shear.proofs.base.base_figures.Goals as goal

pub figures_at-requires : goal.figures_at-requires
figures_at-requires c =
    let a = c.args in
    let p = c.requires in
    let t = period_bounds a.frame.kind a.frame.calculated a.height p.3 p.4 in
    (subst (λ (t : ℕ). Shearing unit a.hazards t) (sym c.period_of-t.ensures) (p.0.shearing _ t.1), p.1, p.2)
