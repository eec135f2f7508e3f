-- Moments each way out of the shears under the levels: what a level's moment is and how large it can be; the positive one and the negative one as the code makes
-- them; and two buffers that are filled side by side.
-- Assumes nothing.
use mathlib.Core.Path.{◌≡◌, sym, ap, ◌∙◌}
use mathlib.Core.List.{List}
use Prim.Native.Nat.{ℕ, ◌+◌, ◌*◌, ◌≤◌, ◌<◌}
use native.Mathlib.Nat.{mul-le-mul}
use native.Mathlib.Omega.{arith}
use lib.IntN.{ℤ, pos, neg_ℤ, ◌-ℤ◌, +ℤ_idl}
use lib.ListN.{length, get_or, set}
use mir.Syntax.{w64}
use mir.Val.{to_z, of_z}
use mir.Facts.{to_z-of_z}
use Rattle.std.proofs.lemmas.Int.{to_z_pos}
use Rattle.whole.specs.Cells.{laid}
use Rattle.whole.proofs.Cells.{Filling, filling_none, filling_more, filling_all, cells_at}
use Rattle.whole.proofs.Difference.{from_zero}
use Rattle.whole.proofs.Floor.{back, neg_fits}
use Rattle.storeys.specs.Reach.{Load, Falling}
use Rattle.storeys.specs.Storeys.{weight_height, shear_under, shears, force, forces}
use Rattle.storeys.proofs.Chain.{shears_length, forces_length}
use Rattle.storeys.proofs.Telescope.{shear_most, force_whole}
use Rattle.drift.specs.Accidental.{accidental_moment, each_way}
use Rattle.drift.specs.Reach.{Carried}

-- ---- how large a moment can be
pub moment_most : (f d : ℕ) → f ≤ 1_400_000_000 → d ≤ 5_000 → accidental_moment f d ≤ 35_000_000_000_000
moment_most f d h l = mul-le-mul h (let e : 5 * d ≤ 25_000 = omega arith in e)

-- ---- a moment with its sign, as it is made and as it is stored
pub as_positive : (m : ℕ) {z : ℤ} → m ≤ 35_000_000_000_000 → z ≡ pos m -ℤ pos 0 → to_z w64 (of_z w64 z) ≡ pos m
as_positive m h e =
    ap (λ (y : ℤ). to_z w64 (of_z w64 y)) (e ∙ sym (from_zero m)) ∙ back (pos m) (omega (arith, h))

pub as_negative : (m : ℕ) {z : ℤ} → m ≤ 35_000_000_000_000 → z ≡ pos 0 -ℤ pos m → to_z w64 (of_z w64 z) ≡ neg_ℤ (pos m)
as_negative m h e =
    ap (λ (y : ℤ). to_z w64 (of_z w64 y)) (e ∙ +ℤ_idl (neg_ℤ (pos m))) ∙ to_z-of_z {w = w64} (neg_fits m (omega (arith, h)))

module _ (us : List ℕ) (d : ℕ) where
  abbrev pub moment_at : ℕ → ℕ
  moment_at x = accidental_moment (get_or (forces us) x 0) d

  pub moment_at_lem : (x m : ℕ) → x < length us → m ≡ accidental_moment (force us x) d → m ≡ moment_at x
  moment_at_lem x m h e = e ∙ ap (λ (f : ℕ). accidental_moment f d) (sym (cells_at (force us) (length us) x h))

  pub force_most : Falling us → Carried us → (x : ℕ) → x < length us → force us x ≤ 1_400_000_000
  force_most fall carried x h = omega (arith, force_whole us x fall, carried x h)

  -- the moment m of level x as both buffers take it
  pub both_ways : (x m : ℕ) → Falling us → Carried us → d ≤ 5_000 → x < length us → m ≡ accidental_moment (force us x) d
      → (to_z w64 m ≡ pos (moment_at x)) × (to_z w64 (of_z w64 (pos 0 -ℤ to_z w64 m)) ≡ neg_ℤ (pos (moment_at x)))
  both_ways x m fall carried low h e =
      let most : m ≤ 35_000_000_000_000 = rw e (moment_most (force us x) d (force_most fall carried x h) low) in
      let signed = to_z_pos w64 m (omega (arith, most)) in
      let at = moment_at_lem x m h e in
      (signed ∙ ap pos at, as_negative m most (ap (λ (z : ℤ). pos 0 -ℤ z) signed) ∙ ap (λ (k : ℕ). neg_ℤ (pos k)) at)

  -- ---- two buffers that are filled side by side, level by level
  pub record Sided (p₀ n₀ : List ℤ) (x : ℕ) (p n : List ℤ) : Type 0 where
    pub positive : Filling (λ (y : ℕ). pos (moment_at y)) p₀ x p
    pub negative : Filling (λ (y : ℕ). neg_ℤ (pos (moment_at y))) n₀ x n

  pub sided_none : (p₀ n₀ : List ℤ) → Sided p₀ n₀ 0 p₀ n₀
  sided_none p₀ n₀ = record { positive = filling_none _ p₀; negative = filling_none _ n₀ }

  pub sided_more : {p₀ n₀ p n : List ℤ} {x : ℕ} (y z : ℤ) → Sided p₀ n₀ x p n → x < length p₀ → x < length n₀
      → y ≡ pos (moment_at x) → z ≡ neg_ℤ (pos (moment_at x)) → Sided p₀ n₀ (x + 1) (set p x y) (set n x z)
  sided_more y z s hp hn ep en = record { positive = filling_more y s.positive hp ep; negative = filling_more z s.negative hn en }

  pub sided_all : {p₀ n₀ p n : List ℤ} {x : ℕ} → Sided p₀ n₀ x p n → x ≡ length us
      → (p ≡ laid (each_way d (forces us)).positive p₀) × (n ≡ laid (each_way d (forces us)).negative n₀)
  sided_all {p₀} {n₀} {p} {n} {x} s e =
      let all : x ≡ length (forces us) = e ∙ sym (forces_length us) in
      (filling_all (length (forces us)) s.positive all, filling_all (length (forces us)) s.negative all)

-- ---- the shears of a base shear are no larger than it
pub shears_carried : (T v : ℕ) (ws hs : List ℕ) → Load T v → 0 < weight_height ws hs → Carried (shears T v ws hs)
shears_carried T v ws hs load p x h =
    let l : x < length ws = rw (sym (shears_length T v ws hs)) h in
    omega (arith, cells_at (shear_under T v ws hs) (length ws) x l, shear_most T v ws hs x p load.part, load.shear)
