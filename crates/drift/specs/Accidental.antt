-- Accidental moments (2.5.2): 'an assumed displacement of the mass each way from its actual location by a distance equal to 5% of the dimension of the
-- building perpendicular to the direction of the applied forces'. A base shear v in N at a period T in ms, weights ws in kN and heights hs in dm, lowest
-- level first, as the distribution takes them; a plan dimension d in dm.
--   accidental_moment f d         of a force f in N: 'force times five times the dimension in hundredths of a N·dm, unrounded'
--   Moments                      per level, lowest first, 'once positive and once negative'
--   each_way d fs                 those of forces fs
--   moments_at T v ws hs d        those of the forces that the distribution gives, by (21)
--   moments_of v T ws hs d room   these, or the first refusal; room is the length of the shorter result buffer
--   MomentBuffers, shorter b     what two lent buffers hold, and the length of the shorter
--   laid_each_way m b              what they hold that held b with each level's cell written, the rest as it was
--   MomentAnswers v T ws hs d b a b'    a is the answer, and b' what the buffers hold that held b: so where data is accepted; where it is refused, all
--                                as it was
use Rattle.std.specs.Prelude.{List, ℕ, ◌*◌, min, ℤ, pos, neg_ℤ, length, get_or}
use Rattle.whole.specs.Cells.{cells, laid}
use Rattle.limits.specs.DriftJudging.{judged_moments}
use Rattle.limits.specs.Outcome.{Outcome, Answer, accepted, Done, ◌>>◌}
use Rattle.job.specs.Distribution.{columns_at}
use Rattle.drift.specs.Answering.{Answered}

abbrev pub accidental_moment : ℕ → ℕ → ℕ
accidental_moment f d = f * (5 * d)

pub record Moments : Type 0 where
  pub positive : List ℤ
  pub negative : List ℤ

abbrev pub each_way : ℕ → List ℕ → Moments
each_way d fs =
    record {
      positive = cells (λ x. pos (accidental_moment (get_or fs x 0) d)) (length fs);
      negative = cells (λ x. neg_ℤ (pos (accidental_moment (get_or fs x 0) d))) (length fs);
    }

abbrev pub moments_at : ℕ → ℕ → List ℕ → List ℕ → ℕ → Moments
moments_at T v ws hs d = each_way d (columns_at T v ws hs).forces

unfoldable pub moments_of : ℕ → ℕ → List ℕ → List ℕ → ℕ → ℕ → Outcome Moments
moments_of v T ws hs d room = do
  judged_moments v T ws hs d room
  accepted (moments_at T v ws hs d)

pub record MomentBuffers : Type 0 where
  pub positive : List ℤ
  pub negative : List ℤ

abbrev pub shorter : MomentBuffers → ℕ
shorter b = min (length b.positive) (length b.negative)

abbrev pub laid_each_way : Moments → MomentBuffers → MomentBuffers
laid_each_way m b = record { positive = laid m.positive b.positive; negative = laid m.negative b.negative }

abbrev pub MomentAnswers : ℕ → ℕ → List ℕ → List ℕ → ℕ → MomentBuffers → Answer Done → MomentBuffers → Type 0
MomentAnswers v T ws hs d b a b' = Answered laid_each_way (moments_of v T ws hs d (shorter b)) b a b'
