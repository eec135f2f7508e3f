-- The report of a district, of the answers to its jobs in order.
--   one_if t            1 where the test t holds, else 0
--   how_many t l        how many of l a test takes
--   taken o, untaken o     whether a job was accepted, and whether it was refused
--   of_taken t o        whether a job was accepted with figures that t takes
--   thousandths w      'V_D over W, in thousandths rounded down': V_D in N over W in kN
--   cell_of w           its cell, 'of ten thousandths each', counted from 0
--   by_v n, by_vm n, by_star n    'which shear governed .., ties going to V, then V_M': V where it is V_D, else V_M where it is, else V*
--   governs n                 the same as the one that does
--   vd_of o             V_D of an accepted job, else 0
--   cells_most          how many cells there are
--   totals_of os        accepted, refused, the sum of V_D, how often each shear governed
--   in_cell k o         whether a job was accepted and belongs to cell k
--   report_of os        the totals; and cell k holds 'the count of rows that belong there'
--   with_figures t n, with_answer t o, counted_in o cells    totals and cells with one job more, as the code counts them
use Rattle.std.specs.Prelude.{Bool, true, false, ◌&&◌, not, List, [], ◌∷◌, map, ℕ, ◌+◌, eqb, get_or, set}
use Rattle.whole.specs.Cells.{cells, sum}
use Rattle.whole.specs.Choice.{pick}
use Rattle.whole.specs.Rounding.{down}
use Rattle.limits.specs.Outcome.{Outcome, accepted, refused}
use Rattle.base_shear.specs.declared.Figures.{Figures}
use Rattle.district_call.specs.declared.report.Governs.{Governs}
use Rattle.district_call.specs.declared.report.Governs.TheVariants.{V, Vm, Star}
use Rattle.district_call.specs.declared.report.Report.{Report}
use Rattle.district_call.specs.declared.report.Totals.{Totals}
use Rattle.district_call.specs.declared.weighed.Weighed.{Weighed}

abbrev pub one_if : Bool → ℕ
one_if true = 1
one_if false = 0

unfoldable pub how_many : {A : Type 0} → (A → Bool) → List A → ℕ
how_many t [] = 0
how_many t (a ∷ l) = one_if (t a) + how_many t l

abbrev pub of_taken : (Weighed → Bool) → Outcome Weighed → Bool
of_taken t (accepted w) = t w
of_taken t (refused n p) = false

abbrev pub taken : Outcome Weighed → Bool
taken = of_taken (λ w. true)

abbrev pub untaken : Outcome Weighed → Bool
untaken o = not (taken o)

unfoldable pub thousandths : Weighed → ℕ
thousandths w = down w.figures.vd w.weight

unfoldable pub cell_of : Weighed → ℕ
cell_of w = down (thousandths w) 10

unfoldable pub by_v : Figures → Bool
by_v n = eqb n.v n.vd

unfoldable pub by_vm : Figures → Bool
by_vm n = not (eqb n.v n.vd) && eqb n.vm n.vd

unfoldable pub by_star : Figures → Bool
by_star n = not (eqb n.v n.vd) && not (eqb n.vm n.vd)

unfoldable pub governs : Figures → Governs
governs n = pick (eqb n.v n.vd) V (pick (eqb n.vm n.vd) Vm Star)

abbrev pub vd_of : Outcome Weighed → ℕ
vd_of (accepted w) = w.figures.vd
vd_of (refused n p) = 0

abbrev pub cells_most : ℕ
cells_most = 113

abbrev pub totals_of : List (Outcome Weighed) → Totals
totals_of os =
    record {
      accepted = how_many taken os;
      refused = how_many untaken os;
      sum = sum (map vd_of os);
      v = how_many (of_taken (λ w. by_v w.figures)) os;
      vm = how_many (of_taken (λ w. by_vm w.figures)) os;
      star = how_many (of_taken (λ w. by_star w.figures)) os;
    }

abbrev pub in_cell : ℕ → Outcome Weighed → Bool
in_cell k = of_taken (λ w. eqb (cell_of w) k)

unfoldable pub report_of : List (Outcome Weighed) → Report
report_of os = record { totals = totals_of os; cells = cells (λ k. how_many (in_cell k) os) cells_most }

abbrev pub with_figures : Totals → Figures → Totals
with_figures t n =
    record {
      accepted = t.accepted + 1;
      refused = t.refused;
      sum = t.sum + n.vd;
      v = t.v + one_if (by_v n);
      vm = t.vm + one_if (by_vm n);
      star = t.star + one_if (by_star n);
    }

unfoldable pub with_answer : Totals → Outcome Weighed → Totals
with_answer t (accepted w) = with_figures t w.figures
with_answer t (refused n p) =
    record { accepted = t.accepted; refused = t.refused + 1; sum = t.sum; v = t.v; vm = t.vm; star = t.star }

unfoldable pub counted_in : Outcome Weighed → List ℕ → List ℕ
counted_in (accepted w) cs = set cs (cell_of w) (get_or cs (cell_of w) 0 + 1)
counted_in (refused n p) cs = cs
