-- The program reads 1,048,833 bytes at the most: what is printed for them is what is printed for all.
-- Assumes nothing.
use mathlib.Core.Path.{◌≡◌, refl, sym, ap, ◌∙◌}
use mathlib.Core.Bool.{Bool, true, false}
use mathlib.Core.List.{List}
use Prim.Native.Nat.{ℕ, ◌<◌}
use native.Mathlib.Omega.{arith}
use lib.Dec.{leb}
use lib.ListN.{length, take}
use lib.Seq.{take_all, length-take-le}
use borrow.Author.Tests.{leb-true, leb-false, lt-leb}
use Rattle.limits.specs.Outcome.{refused}
use Rattle.sheets.proofs.Listed.{file_refused}
use Rattle.sheets.specs.Judged.{bytes_most, judged_file}
use Rattle.sheets.specs.Listing.{file_of, listing, district_listing}

file_long : (s : List ℕ) → bytes_most < length s → file_of s ≡ refused 22 0
unfolding judged_file
file_long s h = file_refused s (simp (lt-leb _ _ h))

pub cut_listed : (s : List ℕ) → district_listing (take 1_048_833 s) ≡ district_listing s
unfolding district_listing
cut_listed s = ap listing (go (leb (length s) bytes_most) refl)
  where
    go : (t : Bool) → leb (length s) bytes_most ≡ t → file_of (take 1_048_833 s) ≡ file_of s
    go true h = ap file_of (take_all 1_048_833 s (omega (arith, leb-true (length s) bytes_most h)))
    go false h =
        let long = leb-false (length s) bytes_most h in
        file_long (take 1_048_833 s) (omega (arith, length-take-le 1_048_833 s (omega (arith, long)))) ∙ sym (file_long s long)
