-- The totals with one job more, by the shear that governs it.
-- Assumes nothing.
use mathlib.Core.Path.{◌≡◌, subst}
use mathlib.Core.Bool.{Bool, true, false, ◌&&◌, not}
use Prim.Native.Nat.{◌+◌}
use native.Mathlib.Nat.{add-zero}
use lib.Dec.{eqb}
use Rattle.whole.specs.Choice.{pick}
use Rattle.base_shear.specs.declared.Figures.{Figures}
use Rattle.district_call.specs.declared.report.Governs.{Governs}
use Rattle.district_call.specs.declared.report.Governs.TheVariants.{V, Vm, Star}
use Rattle.district_call.specs.declared.report.Totals.{Totals}
use Rattle.district_call.specs.Report.{one_if, by_v, by_vm, by_star, governs, with_figures}

module _ (t : Totals) (n : Figures) where
  abbrev counted : Governs → Totals
  counted V = record { accepted = t.accepted + 1; refused = t.refused; sum = t.sum + n.vd; v = t.v + 1; vm = t.vm; star = t.star }
  counted Vm = record { accepted = t.accepted + 1; refused = t.refused; sum = t.sum + n.vd; v = t.v; vm = t.vm + 1; star = t.star }
  counted Star = record { accepted = t.accepted + 1; refused = t.refused; sum = t.sum + n.vd; v = t.v; vm = t.vm; star = t.star + 1 }

  by_governs : with_figures t n ≡ counted (governs n)
  unfolding by_v by_vm by_star governs
  by_governs = go (eqb n.v n.vd) (eqb n.vm n.vd)
    where
      go : (a b : Bool)
          → record {
            accepted = t.accepted + 1;
            refused = t.refused;
            sum = t.sum + n.vd;
            v = t.v + one_if a;
            vm = t.vm + one_if (not a && b);
            star = t.star + one_if (not a && not b);
          }
          ≡ counted (pick a V (pick b Vm Star))
      go true b = simp add-zero
      go false true = simp add-zero
      go false false = simp add-zero

  pub v_counted : governs n ≡ V → with_figures t n ≡ counted V
  v_counted e = subst (λ (g : Governs). with_figures t n ≡ counted g) e by_governs

  pub vm_counted : governs n ≡ Vm → with_figures t n ≡ counted Vm
  vm_counted e = subst (λ (g : Governs). with_figures t n ≡ counted g) e by_governs

  pub star_counted : governs n ≡ Star → with_figures t n ≡ counted Star
  star_counted e = subst (λ (g : Governs). with_figures t n ≡ counted g) e by_governs
