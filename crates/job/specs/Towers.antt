-- Towers on one podium: shear calls of one ground G and one frame f that were answered with figures, and whose period in use is the same.
--   Tower                one of them: a total weight in kN, a top height in dm, the figures that were answered
--   Called G f t         its figures are what the shear call answers to its weight and height
--   CalledAt G f T ts    so it is of each of ts, and T is the period in use of each
--   weight_of ts         their total weights, added
--   base_of ts           their V_D, added
use Rattle.std.specs.Prelude.{◌≡◌, List, [], ◌∷◌, ℕ, ◌+◌, Ok}
use Rattle.limits.specs.declared.frame.FrameValues.{FrameValues}
use Rattle.limits.specs.declared.ground.GroundValues.{GroundValues}
use Rattle.base_shear.specs.declared.Figures.{Figures}
use Rattle.job.specs.ShearCall.{Sheared}

pub record Tower : Type 0 where
  pub weight : ℕ
  pub height : ℕ
  pub figures : Figures

abbrev pub Called : GroundValues → FrameValues → Tower → Type 0
Called G f t = Sheared G f t.weight t.height (Ok t.figures)

abbrev pub CalledAt : GroundValues → FrameValues → ℕ → List Tower → Type 0
CalledAt G f T [] = Unit {0}
CalledAt G f T (t ∷ ts) = Called G f t × (t.figures.t ≡ T) × CalledAt G f T ts

abbrev pub weight_of : List Tower → ℕ
weight_of [] = 0
weight_of (t ∷ ts) = t.weight + weight_of ts

abbrev pub base_of : List Tower → ℕ
base_of [] = 0
base_of (t ∷ ts) = t.figures.vd + base_of ts
