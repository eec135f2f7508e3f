-- What the reader's answer, once it is known, says of the sheet, and of the job of the levels that are kept.
-- Assumes nothing.
use mathlib.Core.Path.{◌≡◌, refl, sym, ap, ◌∙◌}
use mathlib.Core.Bool.{Bool, true, false}
use mathlib.Core.List.{List}
use Prim.Native.Nat.{ℕ, ◌≤◌, min}
use native.Mathlib.Omega.{arith}
use lib.Dec.{leb}
use lib.ListN.{length, take, length-take}
use lib.Seq.{take_all}
use borrow.Author.Tests.{leb-true, leb-false}
use Rattle.std.specs.Prelude.{Ok, Err}
use Rattle.whole.proofs.Cells.{laid_part}
use Rattle.limits.specs.declared.frame.FrameValues.{FrameValues}
use Rattle.limits.specs.declared.ground.GroundValues.{GroundValues}
use Rattle.limits.specs.declared.refusal.Refusal.{Refusal}
use Rattle.limits.specs.Outcome.{Outcome, Answer, accepted, refused, zeros, ◌>>=◌}
use Rattle.job.specs.Job.{job_of}
use Rattle.job.proofs.Stages.{job_refused}
use Rattle.sheet.specs.declared.reader.SheetRead.{SheetRead}
use Rattle.sheet.specs.Listing.{job_of_sheet, outcome_of}
use Rattle.sheet.specs.Reading.{read_sheet, kept_most, kept, levels_kept, sheet_read}
use Rattle.sheet.specs.Sheet.{Sheet}
use Rattle.sheet.proofs.JobAnswered.{too_many}
use Rattle.sheet.proofs.ReadLaid.{read_same}

record SheetTaken (o : Outcome Sheet) (c : SheetRead) : Type 0 where
  pub read : Sheet
  pub is : o ≡ accepted read
  pub held : ◌≡◌ {A = SheetRead} (record { given = record { ground = read.ground; frame = read.frame }; levels = levels_kept read.levels }) c

-- ---- an answer, once it is known
module _ (o : Outcome Sheet) (r : Answer SheetRead) (e : r ≡ sheet_read o) where
  pub said_refused : (f : Refusal) → r ≡ Err f → o ≡ refused f.number f.place
  unfolding sheet_read
  said_refused f m = go o (sym e ∙ m)
    where
      go : (o : Outcome Sheet) → sheet_read o ≡ Err f → o ≡ refused f.number f.place
      go (accepted x) u = cc
      go (refused n p) u =
          let same : ◌≡◌ {A = Refusal} (record { number = n; place = p }) f = cc in
          ap (λ (x : Refusal). refused x.number x.place) same

  said_taken : (c : SheetRead) → r ≡ Ok c → SheetTaken o c
  unfolding sheet_read
  said_taken c m = go o refl (sym e ∙ m)
    where
      go : (q : Outcome Sheet) → o ≡ q → sheet_read q ≡ Ok c → SheetTaken o c
      go (accepted x) q u = record { read = x; is = q; held = cc }
      go (refused n p) q u = cc

-- ---- the outcome, by what the code holds
-- the job of the levels that are kept is the job of all: where some are not kept, both are refused by their count
kept_job : (v : GroundValues) (f : FrameValues) (ws hs : List ℕ) → length hs ≡ length ws
    → job_of v f (kept ws) (kept hs) (length (kept ws)) ≡ job_of v f ws hs (length ws)
kept_job v f ws hs same = go (leb (length ws) 50) refl
  where
    go : (t : Bool) → leb (length ws) 50 ≡ t → job_of v f (kept ws) (kept hs) (length (kept ws)) ≡ job_of v f ws hs (length ws)
    go true e =
        let few = leb-true (length ws) 50 e in
        rw (take_all kept_most ws (omega arith), take_all kept_most hs (omega arith))
    go false e =
        let many = leb-false (length ws) 50 e in
        let held = length-take kept_most ws in
        job_refused v f (kept ws) (kept hs) _ (too_many v f (kept ws) (kept hs) _ (omega arith))
        ∙ sym (job_refused v f ws hs _ (too_many v f ws hs _ many))

sheet_job : (s : List ℕ) (r : Sheet) {v : GroundValues} {f : FrameValues} {ws hs : List ℕ} → read_sheet s ≡ accepted r
    → r.ground ≡ v → r.frame ≡ f → ws ≡ kept r.levels.weights → hs ≡ kept r.levels.heights
    → length r.levels.heights ≡ length r.levels.weights → job_of v f ws hs (length ws) ≡ outcome_of s
sheet_job s r e ev ef ew eh same =
    rw (ew, eh, ← ev, ← ef, e) (kept_job r.ground r.frame r.levels.weights r.levels.heights same)

-- what is held of a sheet that was taken: the levels that are kept stand in the first cells
pub record SheetHeld (s : List ℕ) (c : SheetRead) : Type 0 where
  pub read : Sheet
  pub is : read_sheet s ≡ accepted read
  pub ground : read.ground ≡ c.given.ground
  pub frame : read.frame ≡ c.given.frame
  pub weights : take c.levels.count c.levels.weights ≡ kept read.levels.weights
  pub heights : take c.levels.count c.levels.heights ≡ kept read.levels.heights
  pub same : length read.levels.heights ≡ length read.levels.weights
  pub room : c.levels.count ≤ kept_most

-- the job of the levels that are kept
pub record SheetJob (s : List ℕ) (c : SheetRead) : Type 0 where
  pub room : c.levels.count ≤ kept_most
  pub outcome : {ws hs : List ℕ} → ws ≡ take c.levels.count c.levels.weights → hs ≡ take c.levels.count c.levels.heights
      → job_of c.given.ground c.given.frame ws hs (length ws) ≡ outcome_of s

module _ (s : List ℕ) (r : Answer SheetRead) (e : r ≡ sheet_read (read_sheet s)) where
  pub sheet_refused : (f : Refusal) → r ≡ Err f → outcome_of s ≡ refused f.number f.place
  sheet_refused f m = ap (λ (o : Outcome Sheet). o >>= job_of_sheet) (said_refused (read_sheet s) r e f m)

  module _ (c : SheetRead) (m : r ≡ Ok c) where
    pub sheet_held : SheetHeld s c
    sheet_held =
        let t = said_taken (read_sheet s) r e c m in
        let ws = t.read.levels.weights in
        let hs = t.read.levels.heights in
        let n = c.levels.count in
        let same = read_same s t.read t.is in
        let count : length (kept ws) ≡ n = ap (λ (x : SheetRead). x.levels.count) t.held in
        let as_many : length (kept hs) ≡ n =
        length-take kept_most hs ∙ ap (min kept_most) same ∙ sym (length-take kept_most ws) ∙ count in
        record {
          read = t.read;
          is = t.is;
          ground = ap (λ (x : SheetRead). x.given.ground) t.held;
          frame = ap (λ (x : SheetRead). x.given.frame) t.held;
          weights =
              sym (ap (λ (x : SheetRead). take n x.levels.weights) t.held) ∙ laid_part (kept ws) (zeros kept_most) n count;
          heights =
              sym (ap (λ (x : SheetRead). take n x.levels.heights) t.held) ∙ laid_part (kept hs) (zeros kept_most) n as_many;
          same = same;
          room = omega (arith, length-take kept_most ws, count);
        }

    pub sheet_taken : SheetJob s c
    sheet_taken =
        let k = sheet_held in
        record {
          room = k.room;
          outcome = λ ew eh. sheet_job s k.read k.is k.ground k.frame (ew ∙ k.weights) (eh ∙ k.heights) k.same;
        }
