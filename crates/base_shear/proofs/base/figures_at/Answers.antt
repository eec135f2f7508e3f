-- `base_shear::base::figures_at` meets its contract, figure by figure. Assumes nothing.
use mathlib.Core.Path.{ap, ap₂, ◌∙◌}
use Prim.Native.Nat.{max}
use Rattle.base_shear.specs.Shears.{newtons, shear, star, base, figures_at}
use Rattle.base_shear.proofs.base.figures_at.Goals as goal

pub returns : goal.returns
unfolding figures_at base shear star
returns c =
    let a = c.args in
    let k = a.k in
    let v = c.newtons-v.ensures ∙ ap (newtons a.s k.divisor a.f a.w) c.modified_at.ensures.0 in
    let vm = c.newtons-vm.ensures ∙ ap (newtons a.s k.divisor a.f a.w) c.modified_at-2.ensures.0 in
    let star = c.newtons-star.ensures ∙ ap (newtons a.s k.stardivisor a.f a.w) c.blended_at.ensures.0 in
    let vd = c.max-vd.ensures ∙ ap₂ max (c.max.ensures ∙ ap₂ max v vm) star in
    λ i. record { v = v i; vm = vm i; star = star i; vd = vd i; t = a.t }
