-- Document 01's worked sheet: its site with any near-fault factors, its frame with any calculated period and R, its levels; and figures and results in
-- short.
--   site_with nad nvd nam nvm    its site with these factors;  plain    as it is
--   frame c R                    its frame with a calculated period c in ms, 0 for none, and R
--   weights, heights             its levels
--   figures v vm star vd t       V, V_M, V*, V_D and T
--   resulted n fs us os          the outcome of these figures with forces, shears and overturning moments, lowest level first
use mathlib.Core.List.{List, [], ◌∷◌}
use Prim.Native.Nat.{ℕ}
use Rattle.limits.specs.declared.frame.FrameValues.{FrameValues}
use Rattle.limits.specs.declared.ground.GroundValues.{GroundValues}
use Rattle.limits.specs.declared.ground.GroundValues.TheVariants.{Site}
use Rattle.limits.specs.Outcome.{Outcome, accepted}
use Rattle.base_shear.specs.declared.Figures.{Figures}
use Rattle.job.specs.Job.{Results}

abbrev pub site_with : ℕ → ℕ → ℕ → ℕ → GroundValues
site_with nad nvd nam nvm = Site (record { ssd = 80; s1d = 45; ssm = 100; s1m = 55; nad = nad; nvd = nvd; nam = nam; nvm = nvm; class = 1 })

abbrev pub plain : GroundValues
plain = site_with 100 100 100 100

abbrev pub frame : ℕ → ℕ → FrameValues
frame calculated r = record { kind = 2; calculated = calculated; r = r; i = 100; alpha = 150 }

abbrev pub weights : List ℕ
weights = 5000 ∷ 5000 ∷ 5000 ∷ []

abbrev pub heights : List ℕ
heights = 100 ∷ 200 ∷ 300 ∷ []

abbrev pub figures : ℕ → ℕ → ℕ → ℕ → ℕ → Figures
figures v vm star vd t = record { v = v; vm = vm; star = star; vd = vd; t = t }

abbrev pub resulted : Figures → List ℕ → List ℕ → List ℕ → Outcome Results
resulted n fs us os = accepted (record { figures = n; columns = record { forces = fs; shears = us; overturnings = os } })
