-- A value that is accepted as one of a list lies between any bounds of that list.
--   spread lo hi vs    every value of vs is from lo to hi
-- Assumes nothing.
use mathlib.Core.Path.{◌≡◌, refl, sym}
use mathlib.Core.Bool.{Bool, true, false, ◌&&◌, ◌||◌}
use mathlib.Core.List.{List, [], ◌∷◌}
use Prim.Native.Nat.{ℕ, ◌≤◌}
use native.Mathlib.Omega.{arith}
use lib.Dec.{leb, eqb}
use borrow.Author.Tests.{leb-true, eqb-true}
use Rattle.limits.specs.Outcome.{accepted}
use Rattle.limits.specs.Ranges.{among, listed}
use Rattle.limits.proofs.Passed.{differ, require_passed}

both : (a b : Bool) → (a && b) ≡ true → (a ≡ true) × (b ≡ true)
both true b e = (refl, e)
both false b e = absurd (differ (sym e))

-- every value is from lo to hi
unfoldable pub spread : ℕ → ℕ → List ℕ → Bool
spread lo hi [] = true
spread lo hi (v ∷ vs) = leb lo v && leb v hi && spread lo hi vs

among_within : (lo hi x : ℕ) (vs : List ℕ) → spread lo hi vs ≡ true → among vs x ≡ true → (lo ≤ x) × (x ≤ hi)
unfolding among spread
among_within lo hi x [] s e = absurd (let z : ◌≡◌ {A = ℕ} 0 1 = cc in omega arith)
among_within lo hi x (v ∷ vs) s e = go (eqb v x) refl e (λ r. among_within lo hi x vs b.1 r)
  where
    b : ((leb lo v && leb v hi) ≡ true) × (spread lo hi vs ≡ true)
    b = both (leb lo v && leb v hi) (spread lo hi vs) s

    go : (t : Bool) → eqb v x ≡ t → (t || among vs x) ≡ true → (among vs x ≡ true → (lo ≤ x) × (x ≤ hi)) → (lo ≤ x) × (x ≤ hi)
    go true q f rec =
        let k = both (leb lo v) (leb v hi) b.0 in
        omega (arith, eqb-true v x q, leb-true lo v k.0, leb-true v hi k.1)
    go false q f rec = rec f

pub listed_accepted : (lo hi x n p : ℕ) (vs : List ℕ) → spread lo hi vs ≡ true → listed vs x n p ≡ accepted tt → (lo ≤ x) × (x ≤ hi)
unfolding listed
listed_accepted lo hi x n p vs s e = among_within lo hi x vs s (require_passed (among vs x) n p e)
