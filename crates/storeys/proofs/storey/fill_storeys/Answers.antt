-- `storeys::storey::fill_storeys` meets its contract: the first cells of a buffer, handed on, are what the stage before it laid
-- there. Assumes nothing.
use native.Mathlib.Omega.{arith}
use Rattle.storeys.proofs.Chain.{shears_length, forces_length, shears_laid, forces_laid, turning_of}
use Rattle.storeys.proofs.Telescope.{shears_fall}
use Rattle.storeys.specs.Storeys.{shears}
use Rattle.storeys.proofs.storey.fill_storeys.Goals as goal

pub fill_forces-requires : goal.fill_forces-requires
fill_forces-requires c =
    let a = c.args in
    let e = shears_laid a.t a.v a.weights.now a.heights.now _ c.fill_shears.ensures in
    rw e (shears_fall a.t a.v a.weights.now a.heights.now c.requires.1.positive, omega (arith, shears_length a.t a.v a.weights.now a.heights.now))

pub fill_overturnings-requires : goal.fill_overturnings-requires
fill_overturnings-requires c =
    let a = c.args in
    let e = shears_laid a.t a.v a.weights.now a.heights.now _ c.fill_shears.ensures in
    let f = forces_laid a.t a.v a.weights.now a.heights.now _ (rw e at c.fill_forces.ensures) in
    let us = shears a.t a.v a.weights.now a.heights.now in
    rw f (turning_of a.t a.v a.weights.now a.heights.now c.requires.0 c.requires.1, omega (arith, forces_length us, shears_length a.t a.v a.weights.now a.heights.now))

pub returns : goal.returns
returns c =
    let a = c.args in
    let e = shears_laid a.t a.v a.weights.now a.heights.now _ c.fill_shears.ensures in
    let w = rw e at c.fill_forces.ensures in
    (c.fill_shears.ensures, w, rw (forces_laid a.t a.v a.weights.now a.heights.now _ w) at c.fill_overturnings.ensures)
