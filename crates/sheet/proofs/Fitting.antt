-- A line at the front of bytes, layout by layout: the first fits; it does not, and the others are left; none is left.
--   front k ns s    a line of the layout k with the numbers ns, and the bytes s after it
-- Assumes nothing.
use mathlib.Core.Path.{◌≡◌, refl}
use mathlib.Core.List.{List, [], ◌∷◌}
use Prim.Native.Nat.{ℕ}
use Rattle.limits.specs.Outcome.{accepted, refused}
use Rattle.text.specs.Line.{line}
use Rattle.text.specs.Reading.{otherwise}
use Rattle.text.proofs.Readings.{Went}
use Rattle.sheet.specs.Layouts.{Layout}
use Rattle.sheet.specs.Lines.{Front, line_in}

abbrev pub front : Layout → List ℕ → List ℕ → Front
front k ns s = record { line = record { word = k.word; numbers = ns }; rest = s }

module _ (p : ℕ) (k : Layout) (ks : List Layout) (s : List ℕ) where
  pub line_fits : {t ns : List ℕ} → Went s t (line k.word k.numbers s) ns → line_in p (k ∷ ks) s ≡ accepted (front k ns t)
  unfolding line_in
  line_fits went = rw (went.is, went.to)

  pub line_not : line k.word k.numbers s ≡ otherwise → line_in p (k ∷ ks) s ≡ line_in p ks s
  unfolding line_in
  line_not o = simp o

pub no_more : (p : ℕ) (s : List ℕ) → line_in p [] s ≡ refused 16 p
unfolding line_in
no_more p s = refl
