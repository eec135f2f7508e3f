-- A job with what the model of tests/ makes of it, and what the definitions make of it.
--   Vector           the unit s; ground, frame, weights and heights; fractions for the roots; the printed stages; the exact figures
--   printed v        A and B of the three hazards, t, T, the three spectra, lower root, lower factor, q and m of V and of V_M,
--                    upper root, upper factor and p of V*, V, V_M, V*, V_D; then shears, forces and overturning moments
--   exact v          V, V_M, V* and V_D at the fractions, then the storey shears
--   same_fraction a b one value, of two fractions with a divisor above 0: n/0 agrees with no fraction
--   agrees v         both are the model's
use Rattle.std.specs.Prelude.{Bool, true, false, ◌&&◌, List, [], ◌∷◌, ◌++◌, ℕ, zero, suc, ◌*◌, eqb, leb, length}
use Rattle.whole.specs.declared.Fraction.{Fraction}
use Rattle.whole.specs.Fraction.{over}
use Rattle.whole.specs.Cells.{sum}
use Rattle.whole.specs.Root.{lower_root, upper_root}
use Rattle.limits.specs.Levels.{top_height}
use Rattle.limits.specs.declared.class.Class.{Class}
use Rattle.limits.specs.declared.ground.Ground.{Ground}
use Rattle.limits.specs.declared.ground.Ground.TheVariants.{Site as OnSite, Basin as InBasin}
use Rattle.limits.specs.declared.site.Site.{Site}
use Rattle.limits.specs.declared.zone.Zone.{Zone}
use Rattle.limits.specs.declared.kind.Kind.{Kind}
use Rattle.limits.specs.declared.frame.Frame.{Frame}
use Rattle.site.specs.declared.hazard.Hazard.{Hazard}
use Rattle.site.specs.declared.hazard.Hazards.{Hazards}
use Rattle.site.specs.Ground.{ground_hazards}
use Rattle.response.specs.Period.{approximate, period_of}
use Rattle.response.specs.Spectrum.{spectrum}
use Rattle.response.specs.Factor.{lower_factor, upper_factor}
use Rattle.response.specs.Ratio.{blended}
use Rattle.base_shear.specs.Shears.{ratio_at, modified_at, figures_at}
use Rattle.base_shear.specs.Exact.{Roots, exact_shear, exact_star, exact_base}
use Rattle.storeys.specs.Storeys.{shears, forces, overturnings}
use Rattle.storeys.specs.Exact.{exact_shear_under}

pub record Vector : Type 0 where
  pub unit : ℕ
  pub ground : Ground
  pub frame : Frame
  pub weights : List ℕ
  pub heights : List ℕ
  pub roots : Roots
  pub printed : List ℕ
  pub exact : List Fraction

-- a pair of near-fault factors for each level
abbrev pub site_of_pairs : ℕ → ℕ → ℕ → ℕ → ℕ → ℕ → ℕ → ℕ → Class → Site
site_of_pairs ssd s1d ssm s1m nad nvd nam nvm c =
    record { ssd = ssd; s1d = s1d; ssm = ssm; s1m = s1m; nad = nad; nvd = nvd; nam = nam; nvm = nvm; class = c }

-- one pair for both
abbrev pub site_of : ℕ → ℕ → ℕ → ℕ → ℕ → ℕ → Class → Site
site_of ssd s1d ssm s1m na nv c = site_of_pairs ssd s1d ssm s1m na nv na nv c

abbrev pub frame_of : Kind → ℕ → ℕ → ℕ → ℕ → Frame
frame_of k calculated r i alpha = record { kind = k; calculated = calculated; r = r; i = i; alpha = alpha }

abbrev pub roots_of : ℕ → ℕ → ℕ → ℕ → ℕ → ℕ → Roots
roots_of a b c d e f = record { v = over a b; vm = over c d; star = over e f }

abbrev vector_on : Ground → ℕ → Frame → List ℕ → List ℕ → Roots → List ℕ → List Fraction → Vector
vector_on g s frame ws hs r ns xs =
    record { unit = s; ground = g; frame = frame; weights = ws; heights = hs; roots = r; printed = ns; exact = xs }

abbrev pub vector : ℕ → Site → Frame → List ℕ → List ℕ → Roots → List ℕ → List Fraction → Vector
vector s site frame ws hs r ns xs = vector_on (OnSite site) s frame ws hs r ns xs

abbrev pub basin_vector : ℕ → Zone → Frame → List ℕ → List ℕ → Roots → List ℕ → List Fraction → Vector
basin_vector s zone frame ws hs r ns xs = vector_on (InBasin zone) s frame ws hs r ns xs

-- of one hazard with its lower root: spectrum, root, factor, q, m
unfoldable pub stages : ℕ → Hazards → Hazard → ℕ → List ℕ
stages s k h T =
    spectrum s h.a h.b T
    ∷ lower_root s h.square
    ∷ lower_factor s h.a h.b T h.capacity h.square
    ∷ ratio_at s h T
    ∷ modified_at s k.lines h T
    ∷ []

-- of the hazard of V*: spectrum, upper root, upper factor, p
unfoldable pub star_stages : ℕ → Hazards → Hazard → ℕ → List ℕ
star_stages s k h T =
    let Sa = spectrum s h.a h.b T in
    let F = upper_factor s h.a h.b T h.capacity h.square in
    Sa ∷ upper_root s h.square ∷ F ∷ blended k.lines Sa F ∷ []

unfoldable pub period : Vector → ℕ
period v = period_of v.frame.kind v.frame.calculated (top_height v.heights)

unfoldable pub printed : Vector → List ℕ
printed v =
    let k = ground_hazards v.ground v.frame.r in
    let T = period v in
    let f = figures_at v.unit k v.frame (sum v.weights) T in
    let us = shears T f.vd v.weights v.heights in
    let fs = forces us in
    (k.design.a ∷ k.design.b ∷ k.mce.a ∷ k.mce.b ∷ k.star.a ∷ k.star.b ∷ [])
    ++ (approximate v.frame.kind (top_height v.heights) ∷ f.t ∷ [])
    ++ stages v.unit k k.design T
    ++ stages v.unit k k.mce T
    ++ star_stages v.unit k k.star T
    ++ (f.v ∷ f.vm ∷ f.star ∷ f.vd ∷ [])
    ++ us
    ++ fs
    ++ overturnings fs v.heights

unfoldable pub places : (ℕ → Fraction) → ℕ → List Fraction
places f zero = []
places f (suc n) = places f n ++ (f n ∷ [])

unfoldable pub exact : Vector → List Fraction
exact v =
    let k = ground_hazards v.ground v.frame.r in
    let T = period v in
    let W = sum v.weights in
    let base = exact_base k v.frame W T v.roots in
    (exact_shear k k.design v.frame W T v.roots.v
    ∷ exact_shear k k.mce v.frame W T v.roots.vm
    ∷ exact_star k v.frame W T v.roots.star
    ∷ base
    ∷ [])
    ++ places (exact_shear_under T v.weights v.heights base) (length v.weights)

unfoldable pub same_numbers : List ℕ → List ℕ → Bool
same_numbers [] [] = true
same_numbers [] (b ∷ m) = false
same_numbers (a ∷ l) [] = false
same_numbers (a ∷ l) (b ∷ m) = eqb a b && same_numbers l m

unfoldable pub same_fraction : Fraction → Fraction → Bool
same_fraction a b = leb 1 a.den && leb 1 b.den && eqb (a.num * b.den) (b.num * a.den)

unfoldable pub same_fractions : List Fraction → List Fraction → Bool
same_fractions [] [] = true
same_fractions [] (b ∷ m) = false
same_fractions (a ∷ l) [] = false
same_fractions (a ∷ l) (b ∷ m) = same_fraction a b && same_fractions l m

unfoldable pub agrees : Vector → Bool
agrees v = same_numbers (printed v) v.printed && same_fractions (exact v) v.exact
