-- No second outcome meets the contract of `sheet_listing`, nor of a function that writes into a lent buffer: every cell of the array is
-- determined, and the length.
-- So are those of `read_sheet` and of every function inside, whose contracts say 'the result is what the definition gives': by
-- `determined` of `whole`.
-- Assumes nothing.
use mathlib.Core.Path.{◌≡◌, ap₂}
use mathlib.Core.List.{List}
use Prim.Native.Nat.{ℕ}
use Rattle.std.specs.Prelude.{Option}
use Rattle.whole.proofs.Unique.{determined}
use Rattle.limits.specs.declared.refusal.Refusal.{Refusal}
use Rattle.limits.specs.Outcome.{Outcome, Answer}
use Rattle.job.specs.Job.{Results}
use Rattle.sheet.specs.declared.listing.Listing.{Listing}
use Rattle.sheet.specs.declared.reader.SheetRead.{SheetRead}
use Rattle.sheet.specs.declared.Put.{Put}
use Rattle.sheet.specs.Listing.{sheet_listing, printed, Written, Puts}
use Rattle.sheet.specs.Reading.{read_sheet, sheet_read}

pub written_unique : {l old held held' : List ℕ} {n n' : ℕ} → Written l old held n → Written l old held' n'
    → (held ≡ held') × (n ≡ n')
written_unique w w' = (determined w.bytes_are w'.bytes_are, determined w.length_is w'.length_is)

pub puts_unique : {o : Outcome Results} {old held held' : List ℕ} {p p' : Put} → Puts o old held p → Puts o old held' p'
    → (held ≡ held') × (p ≡ p')
puts_unique w w' =
    let same = written_unique w.listed w'.listed in
    (same.0, ap₂ (λ (n : ℕ) (r : Option Refusal). record { length = n; refusal = r }) same.1 (determined w.refusal_is w'.refusal_is))

module _ (s : List ℕ) where
  pub one_listing : {l l' : Listing} → l ≡ printed (sheet_listing s) → l' ≡ printed (sheet_listing s) → l ≡ l'
  one_listing p q = determined p q

  pub one_reading : {r r' : Answer SheetRead} → r ≡ sheet_read (read_sheet s) → r' ≡ sheet_read (read_sheet s) → r ≡ r'
  one_reading p q = determined p q
