-- What is written.
--   digits_of k n         n in decimal, where it has at most k + 1 digits
--   decimal n             n in decimal, with no leading zero: up to 20 digits, which hold every number of 64 bits
--   field_of n            a field: one tab, and n;  fields_of ns    a field for each
--   laid_out w ns         a line: the word w, the numbers ns, LF
--   Short n               n has at most 9 digits, which a number of a sheet may have;  AllShort ns    each of ns has
--   spliced old at new    new in the place of what stands from `at` on in a buffer that held old
--   Room w new            there is room for new where the writer w stands
--   Writes w new w'       the writer w wrote new from its place on, and is then w', behind it
use Rattle.std.specs.Prelude.{◌≡◌, List, [], ◌∷◌, ◌++◌, ℕ, zero, suc, ◌+◌, ◌/◌, ◌%◌, ◌≤◌, ltb, length, take, drop}
use Rattle.whole.specs.Choice.{pick}
use Rattle.text.specs.declared.writing.Writer.{Writer}
use Rattle.text.specs.Line.{tab, lf}

-- the digits of n, first digit first; k + 1 of them at the most
unfoldable pub digits_of : ℕ → ℕ → List ℕ
digits_of zero n = (48 + n % 10) ∷ []
digits_of (suc k) n = pick (ltb n 10) ((48 + n % 10) ∷ []) (digits_of k (n / 10) ++ ((48 + n % 10) ∷ []))

unfoldable pub decimal : ℕ → List ℕ
decimal n = digits_of 19 n

unfoldable pub field_of : ℕ → List ℕ
field_of n = tab ++ decimal n

unfoldable pub fields_of : List ℕ → List ℕ
fields_of [] = []
fields_of (n ∷ ns) = field_of n ++ fields_of ns

unfoldable pub laid_out : List ℕ → List ℕ → List ℕ
laid_out w ns = w ++ (fields_of ns ++ lf)

abbrev pub Short : ℕ → Type 0
Short n = n ≤ 999_999_999

abbrev pub AllShort : List ℕ → Type 0
AllShort [] = Unit {0}
AllShort (n ∷ ns) = Short n × AllShort ns

unfoldable pub spliced : List ℕ → ℕ → List ℕ → List ℕ
spliced old at new = take at old ++ (new ++ drop (at + length new) old)

pub record Room (w : Writer) (new : List ℕ) : Type 0 where
  pub fits : w.at + length new ≤ length w.out.now

pub record Writes (w : Writer) (new : List ℕ) (w' : Writer) : Type 0 where
  pub at_after : w'.at ≡ w.at + length new
  pub out_after : w'.out.now ≡ spliced w.out.now w.at new
