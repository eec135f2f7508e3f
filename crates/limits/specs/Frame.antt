-- Numbers 8 to 12: the frame.
--   frame_values ns   the values that five numbers write: kind, calculated period, R, I, alpha-y
--   judged_period c   12: a calculated period that is neither 0, for none, nor 1 to 60,000 ms
--   frame_of v k      the judged frame of values v and kind k
--   judged_frame v    8: R not 1.00 to 6.00; 9: I not 1.00, 1.25, 1.50; 10: alpha-y not 1.00 to 2.00; 11; 12
use Rattle.std.specs.Prelude.{List, [], ◌∷◌, ℕ, eqb, get_or}
use Rattle.whole.specs.Choice.{pick}
use Rattle.limits.specs.declared.kind.Kind.{Kind}
use Rattle.limits.specs.declared.frame.Frame.{Frame}
use Rattle.limits.specs.declared.frame.FrameValues.{FrameValues}
use Rattle.limits.specs.Kind.{judged_kind}
use Rattle.limits.specs.Outcome.{Outcome, accepted, Done, ◌>>=◌, ◌>>◌}
use Rattle.limits.specs.Ranges.{within, listed}

abbrev pub frame_values : List ℕ → FrameValues
frame_values ns =
    record { kind = get_or ns 0 0; calculated = get_or ns 1 0; r = get_or ns 2 0; i = get_or ns 3 0; alpha = get_or ns 4 0 }

abbrev pub frame_of : FrameValues → Kind → Frame
frame_of v k = record { kind = k; calculated = v.calculated; r = v.r; i = v.i; alpha = v.alpha }

unfoldable pub judged_period : ℕ → Outcome Done
judged_period calculated = pick (eqb calculated 0) (accepted tt) (within 1 60_000 calculated 12 0)

unfoldable pub judged_frame : FrameValues → Outcome Frame
judged_frame v = do
  within 100 600 v.r 8 0
  listed (100 ∷ 125 ∷ 150 ∷ []) v.i 9 0
  within 100 200 v.alpha 10 0
  k ← judged_kind v.kind
  judged_period v.calculated
  accepted (frame_of v k)
