-- What levels bear, out of what those above the lowest bear: a bottom that is lower by d adds d times the forces together. So 01's sum
-- over the levels from x upward is had in one pass from the roof down.
-- Assumes nothing.
use mathlib.Core.Path.{◌≡◌, refl, sym, ap, ap₂, subst, ◌∙◌}
use mathlib.Core.List.{List, [], ◌∷◌}
use Prim.Native.Nat.{ℕ, suc, ◌+◌, ◌*◌, ◌-◌, ◌≤◌, ◌<◌}
use native.Mathlib.Omega.{arith}
use lib.ListN.{length, get_or, drop}
use lib.Seq.{drop-length, drop-drop, get_or-drop}
use Rattle.whole.specs.Cells.{sum}
use Rattle.storeys.specs.declared.overturning.Borne.{Borne}
use Rattle.storeys.specs.Reach.{Turning}
use Rattle.storeys.specs.Storeys.{about, bottom, borne}
use Rattle.storeys.proofs.Turning.{about_most, bottom_at, rises}

-- above the roof there is nothing
pub borne_none : (b : ℕ) (fs hs : List ℕ) (r : Borne) → (r.force ≡ 0) × (r.moment ≡ 0) → r ≡ borne b (drop (length fs) fs) (drop (length fs) hs)
unfolding about sum
borne_none b fs hs r e = rw (drop-length fs) (ap₂ (λ (f m : ℕ). record { force = f; moment = m }) e.0 e.1)

lowered : (b c : ℕ) (fs hs : List ℕ) → length fs ≡ length hs → b ≤ c → ((x : ℕ) → x < length hs → c ≤ get_or hs x 0)
    → about b fs hs ≡ about c fs hs + sum fs * (c - b)
unfolding about sum
lowered b c [] hs e l h = omega arith
lowered b c (f ∷ fs) [] e l h = absurd (let z : ⊥ = omega (arith, e) in z)
lowered b c (f ∷ fs) (a ∷ hs) e l h =
    let split : a - b ≡ (a - c) + (c - b) = omega (arith, h 0 (omega arith)) in
    let r = lowered b c fs hs (omega (arith, e)) l (λ x p. h (suc x) (omega arith)) in
    omega (arith, ap (λ (z : ℕ). f * z) split, r)

-- ---- the lowest level adds its force, and all of them are its height above b further up
abbrev pub with_lowest : ℕ → List ℕ → List ℕ → Borne → Borne
with_lowest b fs hs r =
    record { force = get_or fs 0 0 + r.force; moment = r.moment + (get_or fs 0 0 + r.force) * (get_or hs 0 0 - b) }

pub borne_lowest : (b : ℕ) (fs hs : List ℕ) → Turning fs hs → 0 < length fs → b ≤ get_or hs 0 0
    → with_lowest b fs hs (borne (get_or hs 0 0) (drop 1 fs) (drop 1 hs)) ≡ borne b fs hs
unfolding about sum
borne_lowest b [] hs t s l = absurd (let z : ⊥ = omega arith in z)
borne_lowest b (f ∷ fs) [] t s l = absurd (let z : ⊥ = omega (arith, t.same) in z)
borne_lowest b (f ∷ fs) (a ∷ hs) t s l =
    let up : (x : ℕ) → x < length hs → a ≤ get_or hs x 0 = λ x p.
    let e : 0 + (x + 1) ≡ suc x = omega arith in
    subst (λ (n : ℕ). a ≤ get_or (a ∷ hs) n 0) e (rises (a ∷ hs) t.rising 0 (x + 1) (omega arith)) in
    ap (λ (m : ℕ). record { force = f + sum fs; moment = m }) (omega (arith, lowered b a fs hs (omega (arith, t.same)) l up))

pub sum_lowest : (fs : List ℕ) → get_or fs 0 0 + sum (drop 1 fs) ≡ sum fs
unfolding sum
sum_lowest [] = refl
sum_lowest (f ∷ fs) = refl

pub borne_most : (b : ℕ) (fs hs : List ℕ) → Turning fs hs → (sum fs ≤ 1_400_000_000) × (about b fs hs ≤ 2_800_000_000_000)
borne_most b fs hs t = (t.load, omega (arith, about_most b fs hs 2_000 t.tall, t.load))

-- ---- what is borne from level x on is what is borne above the lowest of the levels from x − 1 on, about it
above_lowest : (l : List ℕ) (x : ℕ) → 0 < x → drop x l ≡ drop 1 (drop (x - 1) l)
above_lowest l x p = let e : x ≡ x - 1 + 1 = omega arith in ap (λ (n : ℕ). drop n l) e ∙ sym (drop-drop 1 (x - 1) l)

lowest_at : (hs : List ℕ) (x : ℕ) → 0 < x → bottom hs x ≡ get_or (drop (x - 1) hs) 0 0
lowest_at hs x p =
    let e : x - 1 ≡ x - 1 + 0 = omega arith in
    sym (bottom_at hs x p) ∙ ap (λ (n : ℕ). get_or hs n 0) e ∙ sym (get_or-drop (x - 1) hs 0 0)

pub borne_above : (fs hs : List ℕ) (x : ℕ) → 0 < x → borne (bottom hs x) (drop x fs) (drop x hs)
    ≡ borne (get_or (drop (x - 1) hs) 0 0) (drop 1 (drop (x - 1) fs)) (drop 1 (drop (x - 1) hs))
borne_above fs hs x p =
    ap₂ (borne (bottom hs x)) (above_lowest fs x p) (above_lowest hs x p)
    ∙ ap (λ (b : ℕ). borne b (drop 1 (drop (x - 1) fs)) (drop 1 (drop (x - 1) hs))) (lowest_at hs x p)
