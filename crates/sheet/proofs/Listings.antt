-- The lines of a listing, written one after the other, and how long they are.
-- Assumes nothing.
use mathlib.Core.Path.{◌≡◌, refl, sym, ap, ap₂, subst, ◌∙◌}
use mathlib.Core.List.{List, [], ◌∷◌, ◌++◌, append_assoc, append-nil}
use Prim.Native.Nat.{ℕ, zero, suc, ◌+◌, ◌*◌, ◌≤◌}
use native.Mathlib.Nat.{zero-add}
use native.Mathlib.Omega.{arith}
use lib.ListN.{length, get_or, drop, length-append}
use Rattle.std.specs.Prelude.{Some, None}
use Rattle.limits.specs.declared.refusal.Refusal.{Refusal}
use Rattle.limits.specs.Outcome.{Outcome, accepted, refused, zeros}
use Rattle.base_shear.specs.declared.Figures.{Figures}
use Rattle.job.specs.Job.{Results}
use Rattle.text.specs.Bytes.{bytes}
use Rattle.text.specs.declared.writing.Writer.{Writer}
use Rattle.text.specs.Writing.{laid_out, spliced, Room, Writes}
use Rattle.text.proofs.Fields.{line_most}
use Rattle.text.proofs.Spliced.{room_first, writes_none, writes_room, writes_more}
use Rattle.sheet.specs.declared.Put.{Put}
use Rattle.sheet.specs.Listing.{roof_first, results_listing, refusal, listing, outcome_of, sheet_listing, longest, printed, Written, told, Puts, Levelled}

-- ---- how long: 20 digits a number at the most
module _ (fs us os : List ℕ) where
  abbrev pub level_line : ℕ → ℕ → List ℕ
  level_line n x = laid_out (bytes "level") (n ∷ get_or fs x 0 ∷ get_or us x 0 ∷ get_or os x 0 ∷ [])

  roof_most : (x : ℕ) → length (roof_first fs us os x) ≤ 90 * x
  unfolding roof_first
  roof_most zero = omega arith
  roof_most (suc x) =
      simp length-append
      (omega (arith, roof_most x, line_most (bytes "level") (suc x ∷ get_or fs x 0 ∷ get_or us x 0 ∷ get_or os x 0 ∷ [])))

  roof_next : (n x : ℕ) → n ≡ suc x → roof_first fs us os n ≡ level_line n x ++ roof_first fs us os x
  unfolding roof_first
  roof_next n x e = rw e

  -- ---- the levels from the roof down to level x + 1 are written, and with those below they are all
  pub record Listed (from w : Writer) (x : ℕ) : Type 0 where
    pub done : List ℕ
    pub lines : Writes from done w
    pub all : done ++ roof_first fs us os x ≡ roof_first fs us os (length fs)
    pub under : x ≤ length fs

  pub listed_none : (from : Writer) → Listed from from (length fs)
  listed_none from = record { done = []; lines = writes_none from; all = refl; under = omega arith }

  module _ {from w : Writer} {n : ℕ} (l : Listed from w n) where
    pub listed_all : n ≡ 0 → Writes from (roof_first fs us os (length fs)) w
    unfolding roof_first
    listed_all e = rw (sym (append-nil l.done) ∙ rw e at l.all) at l.lines

    module _ (room : Room from (roof_first fs us os (length fs))) (x : ℕ) (e : n ≡ suc x) where
      parted : Room from (l.done ++ (level_line n x ++ roof_first fs us os x))
      parted = rw (← roof_next n x e, l.all) room

      pub listed_room : Room w (level_line n x)
      listed_room = room_first (level_line n x) (roof_first fs us os x) (writes_room l.lines parted)

      pub listed_more : {w' : Writer} → Writes w (level_line n x) w' → Listed from w' x
      listed_more more =
          record {
            done = l.done ++ level_line n x;
            lines =
                writes_more l.lines
                (room_first (l.done ++ level_line n x) (roof_first fs us os x)
                (rw (append_assoc l.done (level_line n x) (roof_first fs us os x)) parted))
                more;
            all =
                append_assoc l.done (level_line n x) (roof_first fs us os x)
                ∙ ap (λ (z : List ℕ). l.done ++ z) (sym (roof_next n x e)) ∙ l.all;
            under = omega (arith, l.under);
          }

  -- ---- the whole: what the code's array has room for
  abbrev pub base_line : Figures → List ℕ
  base_line n = laid_out (bytes "base") (n.v ∷ n.vm ∷ n.star ∷ n.vd ∷ n.t ∷ [])

  pub results_listing_room : (n : Figures) → Levelled fs us os → length (base_line n) + length (roof_first fs us os (length fs)) ≤ longest
  results_listing_room n l =
      omega (arith, line_most (bytes "base") (n.v ∷ n.vm ∷ n.star ∷ n.vd ∷ n.t ∷ []), roof_most (length fs), l.few)

  pub results_room : (n : Figures) → Levelled fs us os → {w : Writer} → w.at ≡ 0 → longest ≤ length w.out.now
      → Room w (base_line n ++ roof_first fs us os (length fs))
  results_room n l e h =
      record { fits = omega (arith, e, h, results_listing_room n l, length-append (base_line n) (roof_first fs us os (length fs))) }

pub refusal_room : (n p : ℕ) → length (refusal n p) ≤ longest
unfolding refusal
refusal_room n p = omega (arith, line_most (bytes "refused") (n ∷ p ∷ []))

-- ---- a buffer that was written from its first cell on; an array of zeros that was is what is printed
pub written_is : {l held : List ℕ} {w w' : Writer} → w.at ≡ 0 → held ≡ w'.out.now → Writes w l w' → Written l w.out.now held w'.at
unfolding spliced
written_is {l} {w = w} e h wrote =
    record {
      bytes_are =
          h ∙ wrote.out_after
          ∙ rw e (ap (λ (k : ℕ). l ++ drop k w.out.now) (zero-add (length l)));
      length_is = wrote.at_after ∙ rw e (zero-add (length l));
    }

-- ---- the listing of an outcome, once that is known
module _ {o : Outcome Results} {old held : List ℕ} {n : ℕ} where
  pub puts_refused : (r : Refusal) → o ≡ refused r.number r.place → Written (refusal r.number r.place) old held n
      → Puts o old held (record { length = n; refusal = Some r })
  unfolding listing
  puts_refused r e w =
      record {
        listed = subst (λ (x : Outcome Results). Written (listing x) old held n) (sym e) w;
        refusal_is = sym (ap told e);
      }

  pub puts_results : (x : Results) → o ≡ accepted x
      → Written (results_listing x.figures x.columns.forces x.columns.shears x.columns.overturnings) old held n
      → Puts o old held (record { length = n; refusal = None })
  unfolding listing
  puts_results x e w =
      record {
        listed = subst (λ (y : Outcome Results). Written (listing y) old held n) (sym e) w;
        refusal_is = sym (ap told e);
      }

pub puts_as : {o o' : Outcome Results} {old held : List ℕ} {p : Put} → o ≡ o' → Puts o old held p → Puts o' old held p
puts_as {o} {o'} {old} {held} {p} e w = subst (λ (x : Outcome Results). Puts x old held p) e w

-- what is printed for a sheet
pub printed_is : (s : List ℕ) {held : List ℕ} {p : Put} → Puts (outcome_of s) (zeros longest) held p
    → record { bytes = held; length = p.length } ≡ printed (sheet_listing s)
unfolding printed sheet_listing
printed_is s w =
    ap₂ (λ (b : List ℕ) (k : ℕ). record { bytes = b; length = k }) w.listed.bytes_are w.listed.length_is
