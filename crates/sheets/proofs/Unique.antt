-- No second outcome meets the contract of `put_district`: every cell of the lent array is determined, the length, and what is refused.
-- So are those of the functions inside whose contracts say 'the result is what the definition gives', and what a buffer holds: by `determined` of `whole`.
-- Assumes nothing.
use mathlib.Core.Path.{◌≡◌, ap₂}
use mathlib.Core.List.{List}
use Prim.Native.Nat.{ℕ}
use Rattle.std.specs.Prelude.{Option}
use Rattle.whole.proofs.Unique.{determined}
use Rattle.limits.specs.declared.refusal.Refusal.{Refusal}
use Rattle.sheet.specs.declared.Put.{Put}
use Rattle.sheet.proofs.Unique.{written_unique}
use Rattle.sheets.specs.Listing.{PutsFile}

pub district_unique : {s old held held' : List ℕ} {p p' : Put} → PutsFile s old held p → PutsFile s old held' p' → (held ≡ held') × (p ≡ p')
district_unique w w' =
    let same = written_unique w.listed w'.listed in
    (same.0, ap₂ (λ (n : ℕ) (r : Option Refusal). record { length = n; refusal = r }) same.1 (determined w.refusal_is w'.refusal_is))
