-- The three columns laid over lent buffers: one cell a level, the rest as it was. Of a base shear v at a period T, whoever worked them out: forces
-- that add up to v to the newton, shears that never fall on the way down, so that no force is below zero, and a lowest shear that is v.
-- Assumes nothing.
use mathlib.Core.Path.{◌≡◌, sym, ap, subst, ◌∙◌}
use mathlib.Core.List.{List}
use Prim.Native.Nat.{ℕ, ◌+◌, ◌≤◌, ◌<◌}
use native.Mathlib.Omega.{arith}
use lib.ListN.{length, take, drop, get_or}
use Rattle.whole.specs.Cells.{sum}
use Rattle.whole.proofs.Cells.{cells_at, cells_length, laid_at, laid_part, laid_rest}
use Rattle.storeys.specs.Storeys.{weight_height, shear_under, shears, force, forces, overturning, overturnings}
use Rattle.storeys.proofs.Chain.{shears_length, forces_length}
use Rattle.storeys.proofs.Roof.{roof_at_most_one}
use Rattle.storeys.proofs.Telescope.{shear_lowest, shears_fall, force_whole, forces_sum}
use Rattle.job.specs.Distribution.{columns_at, Buffers, laid_over}

module _ (T v : ℕ) (ws hs : List ℕ) where
  pub shears_cells : length (columns_at T v ws hs).shears ≡ length ws
  shears_cells = shears_length T v ws hs

  pub forces_cells : length (columns_at T v ws hs).forces ≡ length ws
  forces_cells = forces_length (shears T v ws hs) ∙ shears_cells

  pub overturnings_cells : length (columns_at T v ws hs).overturnings ≡ length ws
  overturnings_cells =
      cells_length (overturning (columns_at T v ws hs).forces hs) (length (columns_at T v ws hs).forces) ∙ forces_cells

  -- what is written is the columns, one cell a level, and the rest is as it was
  pub record Written (b b' : Buffers) : Type 0 where
    pub forces : take (length ws) b'.forces ≡ (columns_at T v ws hs).forces
    pub shears : take (length ws) b'.shears ≡ (columns_at T v ws hs).shears
    pub overturnings : take (length ws) b'.overturnings ≡ (columns_at T v ws hs).overturnings
    pub forces_rest : drop (length ws) b'.forces ≡ drop (length ws) b.forces
    pub shears_rest : drop (length ws) b'.shears ≡ drop (length ws) b.shears
    pub overturnings_rest : drop (length ws) b'.overturnings ≡ drop (length ws) b.overturnings

  module _ (b b' : Buffers) (e : b' ≡ laid_over (columns_at T v ws hs) b) where
    pub laid_written : Written b b'
    laid_written =
        let c = columns_at T v ws hs in
        let m = length ws in
        record {
          forces = ap (λ (d : Buffers). take m d.forces) e ∙ laid_part c.forces b.forces m forces_cells;
          shears = ap (λ (d : Buffers). take m d.shears) e ∙ laid_part c.shears b.shears m shears_cells;
          overturnings =
              ap (λ (d : Buffers). take m d.overturnings) e ∙ laid_part c.overturnings b.overturnings m overturnings_cells;
          forces_rest = ap (λ (d : Buffers). drop m d.forces) e ∙ laid_rest c.forces b.forces m forces_cells;
          shears_rest = ap (λ (d : Buffers). drop m d.shears) e ∙ laid_rest c.shears b.shears m shears_cells;
          overturnings_rest =
              ap (λ (d : Buffers). drop m d.overturnings) e ∙ laid_rest c.overturnings b.overturnings m overturnings_cells;
        }

    -- the cell of level x is the shear under it
    pub shear_cell : (x : ℕ) → x < length ws → get_or b'.shears x 0 ≡ shear_under T v ws hs x
    shear_cell x h =
        ap (λ (d : Buffers). get_or d.shears x 0) e
        ∙ laid_at (shears T v ws hs) b.shears x (omega (arith, shears_cells))
        ∙ cells_at (shear_under T v ws hs) (length ws) x h

    -- that of a force is the level's, and that of an overturning moment the one about the bottom of storey x
    pub force_cell : (x : ℕ) → x < length ws → get_or b'.forces x 0 ≡ force (columns_at T v ws hs).shears x
    force_cell x h =
        let us = shears T v ws hs in
        ap (λ (d : Buffers). get_or d.forces x 0) e
        ∙ laid_at (forces us) b.forces x (omega (arith, forces_cells))
        ∙ cells_at (force us) (length us) x (omega (arith, shears_cells))

    pub overturning_cell : (x : ℕ) → x < length ws → get_or b'.overturnings x 0 ≡ overturning (columns_at T v ws hs).forces hs x
    overturning_cell x h =
        let fs = (columns_at T v ws hs).forces in
        ap (λ (d : Buffers). get_or d.overturnings x 0) e
        ∙ laid_at (overturnings fs hs) b.overturnings x (omega (arith, overturnings_cells))
        ∙ cells_at (overturning fs hs) (length fs) x (omega (arith, forces_cells))

    -- ---- the storeys, in the cells that were written
    abbrev pub forces_out : List ℕ
    forces_out = take (length ws) b'.forces

    abbrev pub shears_out : List ℕ
    shears_out = take (length ws) b'.shears

    module _ (some : 0 < length ws) (positive : 0 < weight_height ws hs) where
      pub forces_add_up : sum forces_out ≡ v
      forces_add_up = ap sum laid_written.forces ∙ forces_sum T v ws hs some positive (roof_at_most_one T)

      pub shears_never_fall : (x : ℕ) → get_or shears_out (x + 1) 0 ≤ get_or shears_out x 0
      shears_never_fall x =
          subst (λ (us : List ℕ). get_or us (x + 1) 0 ≤ get_or us x 0) (sym laid_written.shears) (shears_fall T v ws hs positive x)

      pub lowest_shear : get_or shears_out 0 0 ≡ v
      lowest_shear =
          ap (λ (us : List ℕ). get_or us 0 0) laid_written.shears
          ∙ cells_at (shear_under T v ws hs) (length ws) 0 some
          ∙ shear_lowest T v ws hs positive (roof_at_most_one T)

      -- a level's force and the shear above it are its shear: no difference is cut off at 0
      pub force_is_difference : (x : ℕ) → x < length ws → get_or forces_out x 0 + get_or shears_out (x + 1) 0 ≡ get_or shears_out x 0
      force_is_difference x h =
          let us = shears T v ws hs in
          let at : get_or (forces us) x 0 ≡ force us x = cells_at (force us) (length us) x (omega (arith, shears_cells)) in
          let whole = force_whole us x (shears_fall T v ws hs positive) in
          rw (laid_written.forces, laid_written.shears) (omega (arith, at, whole))
