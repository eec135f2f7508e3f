-- What a case enters, by its numbers in the order of a sheet, and the figures that come back, in the order of a listing.
--   ground_of b ns    the ground of nine numbers: in the Basin the zone stands where a site's first number does
--   in_order f        V, V_M, V*, V_D and T
use Rattle.std.specs.Prelude.{Bool, true, false, List, [], ◌∷◌, ℕ, get_or}
use Rattle.base_shear.specs.declared.Figures.{Figures}
use Rattle.limits.specs.declared.ground.GroundValues.{GroundValues}
use Rattle.limits.specs.declared.ground.GroundValues.TheVariants.{Site, Basin}
use Rattle.limits.specs.Site.{site_values}

abbrev pub ground_of : Bool → List ℕ → GroundValues
ground_of true ns = Basin (get_or ns 0 0)
ground_of false ns = Site (site_values ns)

abbrev pub in_order : Figures → List ℕ
in_order f = f.v ∷ f.vm ∷ f.star ∷ f.vd ∷ f.t ∷ []
