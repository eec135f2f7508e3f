-- Numbers 1 to 4: the levels of a job, and of drift their heights.
--   counted n          1: no level, or over 50, at 0; judged on the weight list, of drift on the heights
--   judged_weight w p, judged_height b h p    3 and 4 of one level, at p
--   judged_level b w h p    3, then 4, of the level above the height b, and the level
--   weighed p ws       3: the first weight that is not 1 to 20,000 kN; the first of the list stands at place p
--   raised b p hs      4: the first height that is not 1 to 2,000 dm or not above the one below it, b below the first
--   judged_levels ws hs room    1, 2, 3, 4 in turn; room is the length of the shortest result buffer
--   top_height hs       h, the top height: the last of the heights
use Rattle.std.specs.Prelude.{List, [], ◌∷◌, ℕ, ◌+◌, ltb, length}
use Rattle.limits.specs.declared.level.Level.{Level}
use Rattle.limits.specs.Lengths.{same_length, roomy}
use Rattle.limits.specs.Ranges.{within}
use Rattle.limits.specs.Outcome.{Outcome, accepted, Done, require, ◌>>◌}

abbrev pub counted : ℕ → Outcome Done
counted n = within 1 50 n 1 0

abbrev pub judged_weight : ℕ → ℕ → Outcome Done
judged_weight w p = within 1 20_000 w 3 p

abbrev pub judged_height : ℕ → ℕ → ℕ → Outcome Done
judged_height b h p = do
  within 1 2_000 h 4 p
  require (ltb b h) 4 p

abbrev pub judged_level : ℕ → ℕ → ℕ → ℕ → Outcome Level
judged_level b w h p = do
  judged_weight w p
  judged_height b h p
  accepted (record { weight = w; height = h })

unfoldable pub weighed : ℕ → List ℕ → Outcome Done
weighed p [] = accepted tt
weighed p (w ∷ ws) = do
  judged_weight w p
  weighed (p + 1) ws

unfoldable pub raised : ℕ → ℕ → List ℕ → Outcome Done
raised b p [] = accepted tt
raised b p (h ∷ hs) = do
  judged_height b h p
  raised h (p + 1) hs

unfoldable pub judged_levels : List ℕ → List ℕ → ℕ → Outcome Done
judged_levels ws hs room = do
  counted (length ws)
  same_length (length ws) (length hs)
  roomy (length ws) room
  weighed 1 ws
  raised 0 1 hs

abbrev pub top_height : List ℕ → ℕ
top_height [] = 0
top_height (h ∷ []) = h
top_height (h ∷ (k ∷ hs)) = top_height (k ∷ hs)
