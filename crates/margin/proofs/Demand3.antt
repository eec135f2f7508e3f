-- Demand 3 in its two parts, over any unit, hazards within reach and lines that meet. Of the base shear by itself. Of a base shear that is
-- handed in, whatever it is. And of the two together: where V is close to an exact base shear, and the storeys to V, they are close to
-- what that exact one makes of them.
-- Assumes nothing.
use mathlib.Core.Path.{◌≡◌}
use mathlib.Core.List.{List}
use Prim.Native.Nat.{ℕ, ◌*◌, ◌-◌, ◌≤◌, ◌<◌}
use native.Mathlib.Nat.{mul-pos}
use native.Mathlib.Omega.{arith}
use lib.ListN.{length, drop}
use Rattle.whole.specs.Cells.{sum}
use Rattle.whole.specs.Fraction.{over}
use Rattle.whole.specs.Rounding.{up}
use Rattle.whole.proofs.Rounding.{up_law}
use Rattle.limits.specs.declared.frame.Frame.{Frame}
use Rattle.site.specs.declared.hazard.Hazards.{Hazards}
use Rattle.response.specs.Reach.{Meeting}
use Rattle.base_shear.specs.Exact.{exact_base}
use Rattle.base_shear.specs.Ready.{Shearing}
use Rattle.base_shear.specs.Shears.{base}
use Rattle.storeys.specs.Storeys.{roof_part, roof_force, weight_height, shear_under}
use Rattle.storeys.proofs.Roof.{roof_at_most_one, roof_most}
use Rattle.storeys.proofs.Sums.{part_sum}
use Rattle.margin.specs.Demand3.{base_margin, BaseDemand3, StoreyDemand3, Demand3, HandedDemand3}
use Rattle.margin.proofs.Base.{base_above, base_over, lowering_numbers, raising_numbers, lowering_sound, raising_sound}
use Rattle.margin.proofs.Bound.{margin_positive}
use Rattle.margin.proofs.Storey.{shared_positive, handed_above, handed_over, storey_above, storey_over}

-- ---- the base shear
module _ (s : ℕ) (k : Hazards) (f : Frame) (W T : ℕ) where
  pub base_demand3 : Shearing s k T → Meeting k.lines → 0 < f.alpha → k.divisor ≤ k.stardivisor
      → BaseDemand3 s k f W T (base s k f W T)
  base_demand3 g m pa more =
      record {
        margin = margin_positive 6 s k.divisor f W g.unit.positive g.divisor.0 pa;
        lowered = λ r w. lowering_numbers s k T g m f pa W r w;
        raised = λ r w. raising_numbers s k T g m f pa W r w;
        never_below = λ r w. (lowering_sound s k T g m f pa W r w, base_above s k T g m f pa W r w);
        close = λ r w. (raising_sound s k T g m f pa W r w, base_over s k T g m f pa W r _ (omega arith) more w);
      }

-- ---- a base shear that is handed in
module _ (T : ℕ) (ws hs : List ℕ) (p : 0 < weight_height ws hs) where
  pub handed_demand3 : (v : ℕ) → HandedDemand3 T v ws hs (shear_under T v ws hs)
  handed_demand3 v =
      let t = roof_part T in
      let ft = roof_force T v in
      let P = weight_height ws hs in
      let Px : ℕ → ℕ = λ x. weight_height (drop x ws) (drop x hs) in
      let pt : 0 < t.den = omega arith in
      let roof = roof_at_most_one T in
      let force = up_law (t.num * v) t.den pt in
      record {
        never_below =
            λ x _. (
              shared_positive t (Px x) P pt p (over v 1) (omega arith),
              handed_above t (Px x) P v ft (up ((v - ft) * Px x) P) roof (part_sum ws hs x) (roof_most T v roof) pt p force.0
                  (up_law ((v - ft) * Px x) P p).0,
            );
        close =
            λ x _.
            handed_over t (Px x) P v ft (up ((v - ft) * Px x) P) roof (part_sum ws hs x) (roof_most T v roof) pt p force.1
            (up_law ((v - ft) * Px x) P p).1;
      }

  -- ---- the two together
  pub together : (s : ℕ) (k : Hazards) (f : Frame) (W v : ℕ) (u : ℕ → ℕ) → BaseDemand3 s k f W T v → HandedDemand3 T v ws hs u
      → StoreyDemand3 s k f W ws hs T u
  together s k f W v u d h =
      let t = roof_part T in
      let P = weight_height ws hs in
      let Px : ℕ → ℕ = λ x. weight_height (drop x ws) (drop x hs) in
      let pt : 0 < t.den = omega arith in
      let roof = roof_at_most_one T in
      record {
        margin = mul-pos d.margin (omega arith);
        never_below =
            λ x l r w.
            let b = d.never_below r w in (
              shared_positive t (Px x) P pt p (exact_base k f W T r) b.0,
              storey_above t (Px x) P v (u x) roof (part_sum ws hs x) pt p (exact_base k f W T r) b.0 (h.never_below x l).1 b.1,
            );
        close =
            λ x l r w.
            let b = d.close r w in (
              shared_positive t (Px x) P pt p (exact_base k f W T r) b.0,
              storey_over t (Px x) P v (u x) roof (part_sum ws hs x) pt p (exact_base k f W T r) b.0 (base_margin s k f W) 2 d.margin
                  (h.close x l) b.1,
            );
      }

module _ (s : ℕ) (k : Hazards) (f : Frame) (ws hs : List ℕ) (T : ℕ) where
  pub demand3 : Shearing s k T → Meeting k.lines → 0 < f.alpha → k.divisor ≤ k.stardivisor → 0 < weight_height ws hs
      → Demand3 s k f ws hs T (base s k f (sum ws) T) (shear_under T (base s k f (sum ws) T) ws hs)
  demand3 g m pa more p =
      let v = base s k f (sum ws) T in
      let d = base_demand3 s k f (sum ws) T g m pa more in
      record { base = d; storeys = together T ws hs p s k f (sum ws) v (shear_under T v ws hs) d (handed_demand3 T ws hs p v) }

-- ---- it speaks of each level's shear alone
module _ (ws hs : List ℕ) (T : ℕ) {u u' : ℕ → ℕ} (same : (x : ℕ) → x < length ws → u x ≡ u' x) where
  storeys_of_cells : (s : ℕ) (k : Hazards) (f : Frame) (W : ℕ) → StoreyDemand3 s k f W ws hs T u → StoreyDemand3 s k f W ws hs T u'
  storeys_of_cells s k f W d =
      record {
        margin = d.margin;
        never_below = λ x h r w. let a = d.never_below x h r w in (a.0, rw (same x h) at a.1);
        close = λ x h r w. let a = d.close x h r w in (a.0, rw (same x h) at a.1);
      }

  pub handed_of_cells : (v : ℕ) → HandedDemand3 T v ws hs u → HandedDemand3 T v ws hs u'
  handed_of_cells v d =
      record {
        never_below = λ x h. let a = d.never_below x h in (a.0, rw (same x h) at a.1);
        close = λ x h. rw (same x h) at (d.close x h);
      }

pub of_cells : (s : ℕ) (k : Hazards) (f : Frame) (ws hs : List ℕ) (T : ℕ) {v : ℕ} {u u' : ℕ → ℕ} → Demand3 s k f ws hs T v u
    → ((x : ℕ) → x < length ws → u x ≡ u' x) → Demand3 s k f ws hs T v u'
of_cells s k f ws hs T d same = record { base = d.base; storeys = storeys_of_cells ws hs T same s k f (sum ws) d.storeys }
