-- What is printed for a file once it is judged; no listing has over 51,849 bytes, whatever the file.
-- Assumes nothing.
use mathlib.Core.Path.{◌≡◌, refl, sym, ap, subst, ◌∙◌}
use mathlib.Core.List.{List, ◌++◌}
use Prim.Native.Nat.{ℕ, ◌+◌, ◌≤◌}
use native.Mathlib.Omega.{arith}
use lib.Dec.{leb}
use lib.ListN.{length, take, length-append, length-map}
use borrow.Author.Tests.{leb-true}
use Rattle.std.specs.Prelude.{None, Ok, Err}
use Rattle.limits.specs.declared.refusal.Refusal.{Refusal}
use Rattle.whole.proofs.Cells.{cells_length, laid_part}
use Rattle.limits.specs.Outcome.{Outcome, Answer, accepted, refused, outcome, Done, require}
use Rattle.limits.proofs.Passed.{then_passed, require_passed}
use Rattle.text.specs.declared.writing.Writer.{Writer}
use Rattle.text.specs.Writing.{Room, Writes}
use Rattle.sheet.specs.declared.Put.{Put}
use Rattle.sheet.specs.Listing.{listing as sheet_text, Written, told, Puts}
use Rattle.sheet.proofs.Listings.{written_is, refusal_room}
use Rattle.district_call.specs.declared.weighed.Weighed.{Weighed}
use Rattle.district_call.specs.Report.{cells_most, report_of}
use Rattle.sheets.proofs.Lines.{row_most, totals_most, cell_most}
use Rattle.sheets.proofs.Numbered.{numbered_most}
use Rattle.sheets.specs.Answers.{sheet_answer, answers_in}
use Rattle.sheets.specs.Judged.{bytes_most, judged_file}
use Rattle.sheets.specs.Listing.{row_line, row_lines, totals_line, cell_line, cell_lines, report_lines, file_of, listing, district_listing, longest, PutsFile}
use Rattle.sheets.specs.Split.{sheets_in}

-- ---- how long
pub report_cells : (os : List (Outcome Weighed)) → length (report_of os).cells ≡ cells_most
unfolding report_of
report_cells os = cells_length _ cells_most

pub lines_room : (os : List (Outcome Weighed)) → length os ≤ 256 → length (row_lines os) + length (report_lines (report_of os)) ≤ longest
lines_room os few =
    let r = report_of os in
    omega (
      arith,
      numbered_most row_line 172 row_most 1 os,
      length-append (totals_line r.totals) (cell_lines r.cells),
      totals_most r.totals,
      numbered_most cell_line 68 cell_most 0 r.cells,
      report_cells os,
    )

module _ (s : List ℕ) where
  -- ---- what the answer says, where it is no refusal
  pub file_judged : {a : Answer Done} → outcome a ≡ judged_file s → ((r : Refusal) → a ≡ Err r → ⊥) → judged_file s ≡ accepted tt
  file_judged {a} e other = sym e ∙ go a other
    where
      go : (a : Answer Done) → ((r : Refusal) → a ≡ Err r → ⊥) → outcome a ≡ accepted tt
      go (Ok u) other = refl
      go (Err r) other = absurd (other r refl)

  -- ---- a file that is refused
  pub file_refused : {n p : ℕ} → judged_file s ≡ refused n p → file_of s ≡ refused n p
  unfolding file_of
  file_refused j = simp j

  pub puts_refused : {n p : ℕ} {old held : List ℕ} {q : Put} → judged_file s ≡ refused n p → Puts (refused n p) old held q
      → PutsFile s old held q
  unfolding district_listing listing sheet_text
  puts_refused {n} {p} {old} {held} {q} j w =
      let e = file_refused j in
      record {
        listed = subst (λ (o : Outcome (List (Outcome Weighed))). Written (listing o) old held q.length) (sym e) w.listed;
        refusal_is = w.refusal_is ∙ sym (ap told e);
      }

  -- ---- a file that is taken
  module _ (j : judged_file s ≡ accepted tt) where
    pub file_taken : file_of s ≡ accepted (answers_in s)
    unfolding file_of
    file_taken = simp j

    pub file_few : length (sheets_in s) ≤ 256
    unfolding judged_file
    file_few =
        let b = then_passed (require (leb (length s) bytes_most) 22 0) (require (leb (length (sheets_in s)) 256) 22 0) j in
        leb-true (length (sheets_in s)) 256 (require_passed _ 22 0 b.1)

    room : length (row_lines (answers_in s)) + length (report_lines (report_of (answers_in s))) ≤ longest
    room = lines_room (answers_in s) (omega (arith, file_few, length-map (sheets_in s) sheet_answer))

    -- a writer at the front of a buffer that is long enough has room for rows and report
    pub file_room : {w : Writer} → w.at ≡ 0 → longest ≤ length w.out.now
        → Room w (row_lines (answers_in s) ++ report_lines (report_of (answers_in s)))
    file_room e h =
        record { fits = omega (arith, room, length-append (row_lines (answers_in s)) (report_lines (report_of (answers_in s)))) }

    pub puts_lines : {w w' : Writer} {held : List ℕ} → w.at ≡ 0 → held ≡ w'.out.now
        → Writes w (row_lines (answers_in s) ++ report_lines (report_of (answers_in s))) w'
        → PutsFile s w.out.now held (record { length = w'.at; refusal = None })
    unfolding district_listing listing
    puts_lines {w} {w'} {held} e h wrote =
        record {
          listed =
              subst (λ (o : Outcome (List (Outcome Weighed))). Written (listing o) w.out.now held w'.at) (sym file_taken)
              (written_is e h wrote);
          refusal_is = sym (ap told file_taken);
        }

-- ---- whatever the file
pub listing_short : (s : List ℕ) → length (district_listing s) ≤ longest
unfolding district_listing listing
listing_short s = go (judged_file s) refl
  where
    go : (o : Outcome Done) → judged_file s ≡ o → length (listing (file_of s)) ≤ longest
    go (accepted u) j =
        let os = answers_in s in
        rw (file_taken s j) (omega (arith, length-append (row_lines os) (report_lines (report_of os)), room s j))
    go (refused n p) j = rw (file_refused s j) (omega (arith, refusal_room n p))

-- the first bytes of the buffer, as many as the code says, are the listing
pub puts_part : (s old held : List ℕ) (p : Put) → PutsFile s old held p → (p.length ≤ length held) × (take p.length held ≡ district_listing s)
puts_part s old held p w =
    rw (w.listed.bytes_are, w.listed.length_is)
    (simp length-append (omega arith), laid_part (district_listing s) old (length (district_listing s)) refl)
