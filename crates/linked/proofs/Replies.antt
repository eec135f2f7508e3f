-- What is replied is what the core answered to the ground and the frame line; where 0 is returned it was accepted; and no second reply meets the
-- contracts: of jobs, logs and sheets; of the two calls in CallReplies.antt. A site line of seven numbers that is accepted gets the reply of nine with the pair repeated.
-- Assumes nothing.
use Rattle.std.specs.Prelude.{Ok, Err}
use mathlib.Core.Path.{◌≡◌, refl, sym, ap, ap₂, subst, ◌∙◌}
use mathlib.Core.List.{List, [], ◌∷◌}
use Prim.Native.Nat.{ℕ}
use native.Mathlib.Omega.{arith}
use lib.ListN.{length}
use Rattle.whole.specs.Cells.{laid}
use Rattle.whole.proofs.Unique.{determined}
use Rattle.limits.specs.declared.frame.FrameValues.{FrameValues}
use Rattle.limits.specs.declared.ground.GroundValues.{GroundValues}
use Rattle.limits.specs.declared.refusal.Refusal.{Refusal}
use Rattle.limits.specs.Order.{InOrder}
use Rattle.limits.specs.Outcome.{Outcome, accepted, refused, number, place, outcome, Answer}
use Rattle.limits.specs.Applies.{LevelsApply}
use Rattle.limits.proofs.Numbers.{numbered_levels, applies_in_order as given-in-order}
use Rattle.base_shear.specs.declared.Figures.{Figures}
use Rattle.job.specs.Distribution.{Buffers, shortest}
use Rattle.job.specs.Job.{Results, job_of, figures_only, written, Figured, Answers}
use Rattle.job.specs.ShearCall.{five}
use Rattle.limits.proofs.Unique.{answer_of, says_outcome}
use Rattle.job.proofs.FirstRefusal.{job_first}
use Rattle.sheet.proofs.Foremost.{applies_in_order, sheet_first}
use Rattle.sheet.proofs.OnePair.{site_sheet, accepted_repeated}
use Rattle.sheet.specs.declared.Put.{Put}
use Rattle.sheet.specs.Laid.{site_line}
use Rattle.sheet.specs.Layouts.{LaidLine}
use Rattle.sheet.specs.Listing.{told, refusal, listing, outcome_of, sheet_listing, Puts}
use Rattle.sheet.specs.Sheet.{one_pair_layout, pair_twice}
use Rattle.limits.specs.Frame.{frame_values}
use Rattle.linked.specs.Linked.{said, Replies, FiguresReply, JobReplies, FiguresReplies, LogReplies, SheetReplies}

-- ---- a reply to an outcome is one to an equal outcome, and there is no second
module _ {A : Type 0} {f : A → List ℕ} {k : ℕ} where
  pub replies_as : {o o' : Outcome A} {n : ℕ} {r : List ℕ} → o ≡ o' → Replies f k o n r → Replies f k o' n r
  replies_as {o} {o'} {n} {r} e t = subst (λ (x : Outcome A). Replies f k x n r) e t

  pub replies_unique : {o : Outcome A} {n n' : ℕ} {r r' : List ℕ} → Replies f k o n r → Replies f k o n' r'
      → (n ≡ n') × (r ≡ r')
  replies_unique t t' = (determined t.returned t'.returned, determined t.replied t'.replied)

-- the number and the place of what is refused, zeros where nothing is
pub said_told : {A : Type 0} (o : Outcome A) → ((said (told o)).0 ≡ number o) × ((said (told o)).1 ≡ place o)
said_told (accepted a) = (refl, refl)
said_told (refused n p) = (refl, refl)

-- 0 is no refusal: it stands nowhere in the order
pub never_zero : (n : ℕ) → n ≡ 0 → InOrder n → ⊥
never_zero n e h = let stands : InOrder 0 = subst InOrder e h in omega (arith, stands)

module _ (G : GroundValues) (m ws hs : List ℕ) where
  pub job_replies : (made : GroundValues) (f : FrameValues) (b : Buffers) (a : Answer Figures) (b' : Buffers) {n : ℕ} {r : List ℕ}
      → made ≡ G → f ≡ frame_values m → outcome a ≡ figures_only (job_of made f ws hs (shortest b))
      → b' ≡ written (job_of made f ws hs (shortest b)) b → FiguresReply (outcome a) n r → JobReplies G m ws hs b n r b'
  job_replies made f b a b' es ef answered cells p =
      let o = ap₂ (λ (made : GroundValues) (f : FrameValues). job_of made f ws hs (shortest b)) es ef in
      (replies_as (answered ∙ ap figures_only o) p, cells ∙ ap (λ x. written x b) o)

  pub figures_replies : (made : GroundValues) (f : FrameValues) (a : Answer Figures) {n : ℕ} {r : List ℕ} → made ≡ G
      → f ≡ frame_values m → Figured made f ws hs a → FiguresReply (outcome a) n r → FiguresReplies G m ws hs n r
  figures_replies made f a es ef t p =
      replies_as (t ∙ ap figures_only (ap₂ (λ (made : GroundValues) (f : FrameValues). job_of made f ws hs (length ws)) es ef)) p

  -- and the other way: what is proved of an answer of the core holds of the reply that says it
  pub replied_answers : (b : Buffers) (n : ℕ) (r : List ℕ) (b' : Buffers) → JobReplies G m ws hs b n r b'
      → (a : Answer Figures) × Answers G (frame_values m) ws hs b a b' × FiguresReply (outcome a) n r
  replied_answers b n r b' p =
      let o = figures_only (job_of G (frame_values m) ws hs (shortest b)) in
      (answer_of o, (says_outcome o, p.1), replies_as (sym (says_outcome o)) p.0)

  pub replied_figured : (n : ℕ) (r : List ℕ) → FiguresReplies G m ws hs n r
      → (a : Answer Figures) × Figured G (frame_values m) ws hs a × FiguresReply (outcome a) n r
  replied_figured n r p =
      let o = figures_only (job_of G (frame_values m) ws hs (length ws)) in
      (answer_of o, says_outcome o, replies_as (sym (says_outcome o)) p)

  -- where 0 is returned, the answer is figures, and the reply has them
  pub zero_answers : (b : Buffers) (r : List ℕ) (b' : Buffers) → JobReplies G m ws hs b 0 r b'
      → (n : Figures) × Answers G (frame_values m) ws hs b (Ok n) b' × (r ≡ 0 ∷ five n)
  zero_answers b r b' p = go (replied_answers b 0 r b' p).0 (replied_answers b 0 r b' p).1 (replied_answers b 0 r b' p).2
    where
      go : (a : Answer Figures) → Answers G (frame_values m) ws hs b a b' → FiguresReply (outcome a) 0 r
          → (n : Figures) × Answers G (frame_values m) ws hs b (Ok n) b' × (r ≡ 0 ∷ five n)
      go (Ok n) t q = (n, t, q.replied)
      go (Err k) t q =
          absurd (never_zero k.number (sym q.returned)
          (given-in-order (LevelsApply ws hs (shortest b)) (λ n p. numbered_levels) (frame_values m) G
          ((job_first G (frame_values m) ws hs b (Err k) b' t).refused_applies k.number k.place refl)))

  -- `rukeshomaji_job`, `rukeshomaji_figures`, and those of the Basin
  pub one_reply : (b : Buffers) {n n' : ℕ} {r r' : List ℕ} {c c' : Buffers} → JobReplies G m ws hs b n r c
      → JobReplies G m ws hs b n' r' c' → ((n ≡ n') × (r ≡ r')) × (c ≡ c')
  one_reply b p q = (replies_unique p.0 q.0, determined p.1 q.1)

  pub one_figures_reply : {n n' : ℕ} {r r' : List ℕ} → FiguresReplies G m ws hs n r → FiguresReplies G m ws hs n' r'
      → (n ≡ n') × (r ≡ r')
  one_figures_reply p q = replies_unique p q

-- `rukeshomaji_site_class`
pub one_log_reply : (ds ks xs : List ℕ) {n n' : ℕ} {r r' : List ℕ} → LogReplies ds ks xs n r → LogReplies ds ks xs n' r'
    → (n ≡ n') × (r ≡ r')
one_log_reply ds ks xs p q = replies_unique p q

-- `rukeshomaji_sheet`
pub sheet_replies : (s : List ℕ) {old held : List ℕ} (p : Put) {n q : ℕ} → Puts (outcome_of s) old held p → (n, q) ≡ said p.refusal
    → SheetReplies s old n held (q ∷ p.length ∷ [])
unfolding sheet_listing
sheet_replies s p t e =
    let same = e ∙ ap said t.refusal_is in
    record {
      returned = ap (λ (x : ℕ × ℕ). x.0) same ∙ (said_told (outcome_of s)).0;
      replied =
          ap₂ (λ (a b : ℕ). a ∷ b ∷ []) (ap (λ (x : ℕ × ℕ). x.1) same ∙ (said_told (outcome_of s)).1) t.listed.length_is;
      listed = t.listed.bytes_are;
    }

-- a sheet that is refused: the refusal's line is the listing, and all other bytes are as they were
pub refused_sheet_reply : (s : List ℕ) {old : List ℕ} {n : ℕ} {held r : List ℕ} (k p : ℕ) → outcome_of s ≡ refused k p
    → SheetReplies s old n held r → (n ≡ k) × (held ≡ laid (refusal k p) old) × (r ≡ p ∷ length (refusal k p) ∷ [])
unfolding sheet_listing listing
refused_sheet_reply s {old} k p e t = (
  t.returned ∙ ap number e,
  t.listed ∙ ap (λ (o : Outcome Results). laid (listing o) old) e,
  t.replied ∙ ap (λ (o : Outcome Results). place o ∷ length (listing o) ∷ []) e,
)

pub one_sheet_reply : (s : List ℕ) {old : List ℕ} {n n' : ℕ} {held held' r r' : List ℕ} → SheetReplies s old n held r
    → SheetReplies s old n' held' r' → (n ≡ n') × (held ≡ held') × (r ≡ r')
one_sheet_reply s p q =
    (determined p.returned q.returned, determined p.listed q.listed, determined p.replied q.replied)

-- 0 is returned where the sheet is accepted, and nowhere else: 0 is no refusal
accepted_zero : (s : List ℕ) → number (outcome_of s) ≡ 0 → (o : Results) × (outcome_of s ≡ accepted o)
accepted_zero s e = go (outcome_of s) refl
  where
    go : (o : Outcome Results) → outcome_of s ≡ o → (x : Results) × (outcome_of s ≡ accepted x)
    go (accepted x) q = (x, q)
    go (refused k p) q =
        absurd (never_zero k (sym (ap number q) ∙ e) (applies_in_order s k p ((sheet_first s).refused_applies k p q)))

-- seven numbers, and nine: byte for byte
pub repeated_sheet_reply : (ns x : List ℕ) → LaidLine (one_pair_layout ∷ []) (site_line ns)
    → {old : List ℕ} {n n' : ℕ} {held held' r r' : List ℕ}
    → SheetReplies (site_sheet ns x) old n held r → n ≡ 0 → SheetReplies (site_sheet (pair_twice ns) x) old n' held' r'
    → (n ≡ n') × (held ≡ held') × (r ≡ r')
unfolding sheet_listing
repeated_sheet_reply ns x one {old} p zero q =
    let a = accepted_zero (site_sheet ns x) (sym p.returned ∙ zero) in
    let same : outcome_of (site_sheet ns x) ≡ outcome_of (site_sheet (pair_twice ns) x) =
    a.1 ∙ sym (accepted_repeated ns x one a.0 a.1) in (
      p.returned ∙ ap number same ∙ sym q.returned,
      p.listed ∙ ap (λ (o : Outcome Results). laid (listing o) old) same ∙ sym q.listed,
      p.replied ∙ ap (λ (o : Outcome Results). place o ∷ length (listing o) ∷ []) same ∙ sym q.replied,
    )
