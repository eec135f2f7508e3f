-- What is replied to a shear call and to a distribution is what the core answered; where 0 is returned it was accepted; and no second reply meets the
-- contracts.
-- Assumes nothing.
use Rattle.std.specs.Prelude.{Ok, Err}
use mathlib.Core.Path.{◌≡◌, refl, sym, ap, ap₂, ◌∙◌}
use mathlib.Core.List.{List, ◌∷◌}
use Prim.Native.Nat.{ℕ}
use Rattle.whole.proofs.Unique.{determined}
use Rattle.limits.specs.declared.frame.FrameValues.{FrameValues}
use Rattle.limits.specs.declared.ground.GroundValues.{GroundValues}
use Rattle.limits.specs.declared.refusal.Refusal.{Refusal}
use Rattle.limits.specs.Outcome.{Outcome, accepted, refused, number, place, outcome, Answer, done_only, Done}
use Rattle.limits.specs.Applies.{BuildingApplies}
use Rattle.limits.proofs.Numbers.{numbered_building, applies_in_order as given-in-order, distribution_in_order}
use Rattle.base_shear.specs.declared.Figures.{Figures}
use Rattle.job.specs.Distribution.{Columns, distribution_of, Buffers, shortest, Distributed}
use Rattle.job.specs.ShearCall.{shear_call_of, five, Sheared}
use Rattle.limits.proofs.Unique.{answer_of, says_outcome}
use Rattle.limits.proofs.Passed.{never}
use Rattle.std.specs.Result.{result_err}
use Rattle.sheet.specs.Listing.{told}
use Rattle.job.proofs.FirstRefusal.{shear_call_first, distribution_first}
use Rattle.limits.specs.Frame.{frame_values}
use Rattle.linked.proofs.Replies.{replies_as, replies_unique, said_told, never_zero}
use Rattle.linked.specs.Linked.{said, FiguresReply, ShearCallReplies, DistributionReplies}

-- `rukeshomaji_shear_call`, and that of the Basin
module _ (G : GroundValues) (m : List ℕ) (W h : ℕ) where
  pub shear_call_replies : (made : GroundValues) (f : FrameValues) (a : Answer Figures) {n : ℕ} {r : List ℕ} → made ≡ G → f ≡ frame_values m
      → Sheared made f W h a → FiguresReply (outcome a) n r → ShearCallReplies G m W h n r
  shear_call_replies made f a es ef t p =
      replies_as (t ∙ ap₂ (λ (made : GroundValues) (f : FrameValues). shear_call_of made f W h) es ef) p

  pub replied_sheared : (n : ℕ) (r : List ℕ) → ShearCallReplies G m W h n r
      → (a : Answer Figures) × Sheared G (frame_values m) W h a × FiguresReply (outcome a) n r
  replied_sheared n r p =
      let o = shear_call_of G (frame_values m) W h in
      (answer_of o, says_outcome o, replies_as (sym (says_outcome o)) p)

  pub zero_sheared : (r : List ℕ) → ShearCallReplies G m W h 0 r → (n : Figures) × Sheared G (frame_values m) W h (Ok n) × (r ≡ 0 ∷ five n)
  zero_sheared r p = go (replied_sheared 0 r p).0 (replied_sheared 0 r p).1 (replied_sheared 0 r p).2
    where
      go : (a : Answer Figures) → Sheared G (frame_values m) W h a → FiguresReply (outcome a) 0 r
          → (n : Figures) × Sheared G (frame_values m) W h (Ok n) × (r ≡ 0 ∷ five n)
      go (Ok n) t q = (n, t, q.replied)
      go (Err k) t q =
          absurd (never_zero k.number (sym q.returned)
          (given-in-order (BuildingApplies W h) (λ n p. numbered_building) (frame_values m) G
          ((shear_call_first G (frame_values m) W h (Err k) t).refused_applies k.number k.place refl)))

  pub one_shear_call_reply : {n n' : ℕ} {r r' : List ℕ} → ShearCallReplies G m W h n r → ShearCallReplies G m W h n' r'
      → (n ≡ n') × (r ≡ r')
  one_shear_call_reply p q = replies_unique p q

-- `rukeshomaji_distribution`
pub told_done : {A : Type 0} (a : Answer Done) (o : Outcome A) → outcome a ≡ done_only o → result_err a ≡ told o
told_done (Ok tt) (accepted x) e = refl
told_done (Ok tt) (refused n p) e = absurd (never (sym e))
told_done (Err r) (accepted x) e = absurd (never e)
told_done (Err r) (refused n p) e = ap told e

module _ (v T : ℕ) (ws hs : List ℕ) (b : Buffers) where
  pub distribution_replies : (a : Answer Done) (b' : Buffers) {n p : ℕ} → Distributed v T ws hs b a b' → (n, p) ≡ said (result_err a)
      → DistributionReplies v T ws hs b n p b'
  distribution_replies a b' t e =
      let o = distribution_of v T ws hs (shortest b) in
      let same = e ∙ ap said (told_done a o t.0) in
      record {
        returned = ap (λ (x : ℕ × ℕ). x.0) same ∙ (said_told o).0;
        placed = ap (λ (x : ℕ × ℕ). x.1) same ∙ (said_told o).1;
        buffers = t.1;
      }

  -- and the other way: what is proved of an answer of the core holds of the reply that says it
  pub replied_distributed : (n p : ℕ) (b' : Buffers) → DistributionReplies v T ws hs b n p b'
      → (a : Answer Done) × Distributed v T ws hs b a b' × (n ≡ number (outcome a)) × (p ≡ place (outcome a))
  replied_distributed n p b' t = go (distribution_of v T ws hs (shortest b)) refl
    where
      go : (o : Outcome Columns) → distribution_of v T ws hs (shortest b) ≡ o
          → (a : Answer Done) × Distributed v T ws hs b a b' × (n ≡ number (outcome a)) × (p ≡ place (outcome a))
      go (accepted c) e = ((Ok tt), (sym (ap done_only e), t.buffers), t.returned ∙ ap number e, t.placed ∙ ap place e)
      go (refused k q) e =
          (Err (record { number = k; place = q }), (sym (ap done_only e), t.buffers), t.returned ∙ ap number e, t.placed ∙ ap place e)

  pub zero_distributed : (p : ℕ) (b' : Buffers) → DistributionReplies v T ws hs b 0 p b' → Distributed v T ws hs b (Ok tt) b' × (p ≡ 0)
  zero_distributed p b' t =
      let a = replied_distributed 0 p b' t in
      go a.0 a.1 a.2 a.3
    where
      go : (a : Answer Done) → Distributed v T ws hs b a b' → 0 ≡ number (outcome a) → p ≡ place (outcome a)
          → Distributed v T ws hs b (Ok tt) b' × (p ≡ 0)
      go (Ok tt) d n q = (d, q)
      go (Err k) d n q =
          absurd (never_zero k.number (sym n)
          (distribution_in_order
          ((distribution_first v T ws hs b b' (Err k) d).refused_applies k.number k.place refl)))

  pub one_distribution_reply : {n n' p p' : ℕ} {c c' : Buffers} → DistributionReplies v T ws hs b n p c
      → DistributionReplies v T ws hs b n' p' c' → (n ≡ n') × (p ≡ p') × (c ≡ c')
  one_distribution_reply x y =
      (determined x.returned y.returned, determined x.placed y.placed, determined x.buffers y.buffers)
