-- What is written is read back: a number of at most 9 digits, and a line of such numbers.
--   Ended l    the bytes l begin with no digit
-- Assumes nothing.
use mathlib.Core.Path.{◌≡◌, refl, sym, ap, ◌∙◌}
use mathlib.Core.List.{List, [], ◌∷◌, ◌++◌, append_assoc, append-nil}
use Prim.Native.Nat.{ℕ, ◌+◌, ◌*◌, ◌^◌, ◌≤◌, ◌<◌}
use native.Mathlib.Nat.{add-zero, lt_of_le_of_lt}
use native.Mathlib.Omega.{arith}
use lib.Dec.{leb, lit<}
use lib.ListN.{length, length-append}
use lib.Seq.{drop_at}
use borrow.Author.Tests.{le-leb}
use Rattle.whole.specs.Choice.{pick}
use Rattle.whole.proofs.Choice.{by_leb}
use Rattle.limits.specs.Ranges.{in_range}
use Rattle.text.proofs.Fields.{line_length}
use Rattle.text.proofs.Numbers.{number_many, number_found}
use Rattle.text.proofs.Printed.{printed_digits, printed_value, printed_some, printed_few, printed_many, printed_lead}
use Rattle.text.proofs.Words.{starts_join}
use Rattle.text.specs.Line.{tab, lf, field, fields, line}
use Rattle.text.specs.Number.{digits, number}
use Rattle.text.specs.Reading.{Reading, found, otherwise, Reader, read, word, ◌>>=◌, ◌>>◌}
use Rattle.text.specs.Writing.{decimal, field_of, fields_of, laid_out, Short, AllShort}

abbrev pub Ended : List ℕ → Type 0
Ended l = digits l ≡ []

-- ---- a number
module _ (n : ℕ) (l : List ℕ) (ended : Ended l) (f : n < 2 ^ 64) where
  fits : n < 10 ^ (19 + 1)
  fits = omega (arith, lit<64)
    where
      lit<64 : 2 ^ 64 < 10 ^ (19 + 1)
      lit<64 = lit< tt

  front : digits (decimal n ++ l) ≡ decimal n
  unfolding decimal
  front = printed_digits 19 n fits l ∙ rw (ended, append-nil (decimal n))

  -- any number of 64 bits is read as itself if it has at most 9 digits, and as none if it has more
  pub printed_read : number (decimal n ++ l) ≡ pick (leb n 999_999_999) (found n (length (decimal n))) otherwise
  unfolding decimal
  printed_read =
      by_leb (λ (o : Reading ℕ). number (decimal n ++ l) ≡ o) n 999_999_999 _ _
      (λ s.
      let few : length (digits (decimal n ++ l)) ≤ 9 = rw front (printed_few 8 19 n (omega (arith, s)) fits) in
      let some : 1 ≤ length (digits (decimal n ++ l)) = rw front (printed_some 19 n fits) in
      number_found (decimal n ++ l) some few (rw front (printed_lead 19 n fits)) ∙ rw (front, printed_value 19 n fits))
      (λ b. number_many (decimal n ++ l) (rw front (printed_many 9 19 n (omega (arith, b)) fits)))

short_read : (n : ℕ) (l : List ℕ) → Short n → Ended l → number (decimal n ++ l) ≡ found n (length (decimal n))
short_read n l s ended =
    printed_read n l ended (lt_of_le_of_lt s (lit< tt)) ∙ simp (le-leb n 999_999_999 s)

-- ---- one after the other
word_read : (w l : List ℕ) → word w (w ++ l) ≡ found tt (length w)
unfolding word
word_read w l = simp (starts_join w l)

-- what reads x and leaves y to what reads y reads both
both_read : {A B : Type 0} (r : Reader A) (f : A → Reader B) (x y l : List ℕ) (a : A) (b : B)
    → r (x ++ (y ++ l)) ≡ found a (length x) → f a (y ++ l) ≡ found b (length y)
    → (r >>= f) ((x ++ y) ++ l) ≡ found b (length (x ++ y))
both_read r f x y l a b p q =
    rw (append_assoc x y l, p, drop_at x (y ++ l) (length x) refl, q) (ap (found b) (sym (length-append x y)))

field_read : (n : ℕ) (l : List ℕ) → Short n → Ended l → field (field_of n ++ l) ≡ found n (length (field_of n))
unfolding field field_of
field_read n l s ended =
    both_read (word tab) (λ _. number) tab (decimal n) l tt n (word_read tab (decimal n ++ l)) (short_read n l s ended)

-- no field begins with a digit
fields_ended : (ns l : List ℕ) → Ended l → Ended (fields_of ns ++ l)
unfolding fields_of field_of digits in_range
fields_ended [] l e = e
fields_ended (n ∷ ns) l e = refl

fields_read : (ns l : List ℕ) → AllShort ns → Ended l → fields (length ns) (fields_of ns ++ l) ≡ found ns (length (fields_of ns))
unfolding fields fields_of
fields_read [] l s e = refl
fields_read (n ∷ ns) l s e =
    both_read field (λ m. fields (length ns) >>= λ ms. read (m ∷ ms)) (field_of n) (fields_of ns) l n (n ∷ ns)
    (field_read n (fields_of ns ++ l) s.0 (fields_ended ns l e))
    (rw (fields_read ns l s.1 e) (ap (found (n ∷ ns)) (add-zero (length (fields_of ns)))))

pub line_read_lem : (w ns l : List ℕ) → AllShort ns → line w (length ns) (laid_out w ns ++ l) ≡ found ns (length (laid_out w ns))
unfolding line laid_out digits in_range
line_read_lem w ns l s =
    both_read (word w) (λ _. fields (length ns) >>= λ ms. word lf >> read ms) w (fields_of ns ++ lf) l tt ns
    (word_read w ((fields_of ns ++ lf) ++ l))
    (both_read (fields (length ns)) (λ ms. word lf >> read ms) (fields_of ns) lf l ns ns
    (fields_read ns (lf ++ l) s refl)
    (rw (word_read lf l)))

-- ---- how long a line of such numbers is: 9 digits and a tab each
short_length : (n : ℕ) → Short n → length (decimal n) ≤ 9
unfolding decimal
short_length n s = printed_few 8 19 n (omega arith) (lt_of_le_of_lt s (lit< tt))

fields_short : (ns : List ℕ) → AllShort ns → length (fields_of ns) ≤ 10 * length ns
unfolding fields_of field_of
fields_short [] s = omega arith
fields_short (n ∷ ns) s = simp length-append (omega (arith, fields_short ns s.1, short_length n s.0))

pub line_short : (w ns : List ℕ) → AllShort ns → length (laid_out w ns) ≤ length w + 10 * length ns + 1
line_short w ns s = omega (arith, line_length w ns, fields_short ns s)
