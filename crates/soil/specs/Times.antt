-- The times of a log's layers, in ns.
--   ns_at_unit d             10⁸·d: d cm at v dm/s take 10⁸·d/v ns
--   added round ds vs        the times of layers of thicknesses ds and velocities vs, each rounded, added up
--   times ds vs              U, of the times each rounded up, and L, of the times each rounded down
--   judged_times ds ks xs    the same of kinds ks and values xs, or 15
--   Matched ds ks xs         a kind and a value for each thickness, and no more than 3,000 cm
use Rattle.std.specs.Prelude.{◌≡◌, List, [], ◌∷◌, ℕ, ◌+◌, ◌*◌, ◌≤◌, length}
use Rattle.whole.specs.Cells.{sum}
use Rattle.whole.specs.Rounding.{up, down}
use Rattle.limits.specs.Outcome.{Outcome, accepted, ◌>>=◌}
use Rattle.soil.specs.declared.times.Times.{Times}
use Rattle.soil.specs.Velocity.{velocities}

abbrev pub ns_at_unit : ℕ → ℕ
ns_at_unit d = 100_000_000 * d

unfoldable pub added : (ℕ → ℕ → ℕ) → List ℕ → List ℕ → ℕ
added round [] vs = 0
added round (d ∷ ds) [] = 0
added round (d ∷ ds) (v ∷ vs) = round (ns_at_unit d) v + added round ds vs

abbrev pub times : List ℕ → List ℕ → Times
times ds vs = record { up = added up ds vs; down = added down ds vs }

unfoldable pub judged_times : List ℕ → List ℕ → List ℕ → Outcome Times
judged_times ds ks xs = do
  vs ← velocities 1 ks xs
  accepted (times ds vs)

pub record Matched (ds ks xs : List ℕ) : Type 0 where
  pub kinds : length ks ≡ length ds
  pub values : length xs ≡ length ds
  pub depth : sum ds ≤ 3_000
