-- The velocity of a layer by its judged kind.
-- Assumes nothing.
use mathlib.Core.Path.{◌≡◌, refl, sym, ap, ◌∙◌}
use mathlib.Core.Bool.{Bool, true, false}
use Prim.Native.Nat.{ℕ}
use lib.Dec.{eqb}
use Rattle.whole.specs.Choice.{pick}
use Rattle.limits.specs.LayerKind.{judged_layer_kind}
use Rattle.limits.specs.declared.layer.LayerKind.{LayerKind}
use Rattle.limits.specs.declared.layer.LayerKind.TheVariants.{Measured, Cohesive, Cohesionless, SoftClay}
use Rattle.limits.specs.Outcome.{Outcome, accepted, refused}
use Rattle.soil.specs.declared.tables.TheConstants.{COHESIVE, COHESIONLESS, SOFT_CLAY}
use Rattle.soil.specs.Velocity.{cube_root, strength_root, measured, by_rule, from_table, velocity}
use Rattle.soil.proofs.ByTable.{by_table}
use Rattle.soil.proofs.TablesHold.{tables}

module _ (k x p : ℕ) where
  abbrev of_kind : LayerKind → Outcome ℕ
  of_kind Measured = measured x p
  of_kind Cohesive = from_table 2 25 COHESIVE x p
  of_kind Cohesionless = from_table 1 50 COHESIONLESS x p
  of_kind SoftClay = from_table 1 400 SOFT_CLAY x p

  abbrev of_judged : Outcome LayerKind → Outcome ℕ
  of_judged (accepted m) = of_kind m
  of_judged (refused n q) = refused n p

  by_kind : velocity k x p ≡ of_judged (judged_layer_kind k)
  unfolding velocity judged_layer_kind
  by_kind = go (eqb k 1) (eqb k 2) (eqb k 3) (eqb k 4)
    where
      go : (a b c d : Bool)
          → pick a (measured x p) (pick b (by_rule (cube_root 1_000) 2 25 x p) (pick c (by_rule (cube_root 800) 1 50 x p)
          (pick d (by_rule strength_root 1 400 x p) (refused 15 p))))
          ≡ of_judged (pick a (accepted Measured) (pick b (accepted Cohesive) (pick c (accepted Cohesionless) (pick d (accepted SoftClay) (refused 15 0)))))
      go true b c d = refl
      go false true c d = sym (by_table (cube_root 1_000) 2 25 COHESIVE x p tables.cohesive)
      go false false true d = sym (by_table (cube_root 800) 1 50 COHESIONLESS x p tables.cohesionless)
      go false false false true = sym (by_table strength_root 1 400 SOFT_CLAY x p tables.soft_clay)
      go false false false false = refl

  pub of_measured : judged_layer_kind k ≡ accepted Measured → velocity k x p ≡ measured x p
  of_measured e = by_kind ∙ ap of_judged e

  pub of_cohesive : judged_layer_kind k ≡ accepted Cohesive → velocity k x p ≡ from_table 2 25 COHESIVE x p
  of_cohesive e = by_kind ∙ ap of_judged e

  pub of_cohesionless : judged_layer_kind k ≡ accepted Cohesionless → velocity k x p ≡ from_table 1 50 COHESIONLESS x p
  of_cohesionless e = by_kind ∙ ap of_judged e

  pub of_soft_clay : judged_layer_kind k ≡ accepted SoftClay → velocity k x p ≡ from_table 1 400 SOFT_CLAY x p
  of_soft_clay e = by_kind ∙ ap of_judged e

  pub of_none : {n q : ℕ} → judged_layer_kind k ≡ refused n q → velocity k x p ≡ refused n p
  of_none e = by_kind ∙ ap of_judged e
