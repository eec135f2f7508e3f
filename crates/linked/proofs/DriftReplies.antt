-- What is replied to drift, to torsion and to accidental moments is what the core answered; where 0 is returned it was accepted; and no second reply meets the
-- contracts.
-- Assumes nothing.
use Rattle.std.specs.Prelude.{Ok, Err}
use mathlib.Core.Path.{◌≡◌, refl, sym, ap, ◌∙◌}
use mathlib.Core.List.{List, [], ◌∷◌}
use Prim.Native.Nat.{ℕ}
use lib.IntN.{ℤ}
use lib.ListN.{length}
use Rattle.whole.specs.Cells.{laid}
use Rattle.whole.proofs.Unique.{determined}
use Rattle.limits.specs.declared.refusal.Refusal.{Refusal}
use Rattle.limits.specs.Order.{InOrder}
use Rattle.limits.specs.Outcome.{Outcome, accepted, refused, number, place, outcome, Answer, done_only, Done}
use Rattle.limits.proofs.DriftNumbers.{of_drift_in_order, numbered_drift, numbered_floor, numbered_moments}
use Rattle.drift.specs.Answering.{Answered}
use Rattle.drift.specs.Drift.{drift_of, DriftAnswers}
use Rattle.drift.specs.Torsion.{torsion_of, TorsionAnswers}
use Rattle.drift.specs.Accidental.{moments_of, MomentBuffers, shorter, laid_each_way, MomentAnswers}
use Rattle.drift.proofs.Drifts.{drift_first}
use Rattle.drift.proofs.Moments.{moments_first}
use Rattle.drift.proofs.Torsions.{torsion_first}
use Rattle.linked.specs.Linked.{said, LaidReplies, DriftReplies, TorsionReply, TorsionReplies, MomentsReplies}
use Rattle.limits.proofs.Unique.{answer_of, says_outcome}
use Rattle.std.specs.Result.{result_err}
use Rattle.linked.proofs.CallReplies.{told_done}
use Rattle.linked.proofs.Replies.{replies_as, replies_unique, said_told, never_zero}

-- ---- an entry that writes into what is lent to it, whatever it lays there
module _ {A B : Type 0} (lay : A → B → B) (o : Outcome A) (old : B) where
  pub laid_replies : (a : Answer Done) (held : B) {n p : ℕ} → Answered lay o old a held → (n, p) ≡ said (result_err a)
      → LaidReplies lay o old n p held
  laid_replies a held t e =
      let same = e ∙ ap said (told_done a o t.0) in
      record {
        returned = ap (λ (x : ℕ × ℕ). x.0) same ∙ (said_told o).0;
        placed = ap (λ (x : ℕ × ℕ). x.1) same ∙ (said_told o).1;
        lent = t.1;
      }

  -- and the other way: what is proved of an answer of the core holds of the reply that says it
  pub replied_laid : (n p : ℕ) (held : B) → LaidReplies lay o old n p held
      → (a : Answer Done) × Answered lay o old a held × (n ≡ number (outcome a)) × (p ≡ place (outcome a))
  replied_laid n p held t = go o refl
    where
      go : (q : Outcome A) → o ≡ q → (a : Answer Done) × Answered lay o old a held × (n ≡ number (outcome a)) × (p ≡ place (outcome a))
      go (accepted c) e = ((Ok tt), (sym (ap done_only e), t.lent), t.returned ∙ ap number e, t.placed ∙ ap place e)
      go (refused k q) e =
          (Err (record { number = k; place = q }), (sym (ap done_only e), t.lent), t.returned ∙ ap number e, t.placed ∙ ap place e)

  -- where 0 is returned, and every refusal that is given has a number of the order, the call was accepted
  pub zero_laid : ((r : Refusal) (held : B) → Answered lay o old (Err r) held → InOrder r.number) → (p : ℕ) (held : B)
      → LaidReplies lay o old 0 p held → Answered lay o old (Ok tt) held × (p ≡ 0)
  zero_laid numbered p held t =
      let a = replied_laid 0 p held t in
      go a.0 a.1 a.2 a.3
    where
      go : (a : Answer Done) → Answered lay o old a held → 0 ≡ number (outcome a) → p ≡ place (outcome a)
          → Answered lay o old (Ok tt) held × (p ≡ 0)
      go (Ok tt) d n q = (d, q)
      go (Err k) d n q = absurd (never_zero k.number (sym n) (numbered k held d))

  pub one_laid_reply : {n n' p p' : ℕ} {c c' : B} → LaidReplies lay o old n p c → LaidReplies lay o old n' p' c' → (n ≡ n') × (p ≡ p') × (c ≡ c')
  one_laid_reply x y = (determined x.returned y.returned, determined x.placed y.placed, determined x.lent y.lent)

-- ---- `rukeshomaji_drift`
module _ (hs : List ℕ) (zs : List ℤ) (m : ℕ) (old : List ℕ) where
  pub zero_drift : (p : ℕ) (held : List ℕ) → DriftReplies hs zs m old 0 p held → DriftAnswers hs zs m old (Ok tt) held × (p ≡ 0)
  zero_drift =
      zero_laid laid (drift_of hs zs m (length old)) old
      (λ r held d. of_drift_in_order r.number
      (numbered_drift ((drift_first hs zs m old held (Err r) d).refused_applies r.number r.place refl)))

  pub one_drift_reply : {n n' p p' : ℕ} {c c' : List ℕ} → DriftReplies hs zs m old n p c → DriftReplies hs zs m old n' p' c'
      → (n ≡ n') × (p ≡ p') × (c ≡ c')
  one_drift_reply = one_laid_reply laid (drift_of hs zs m (length old)) old

-- ---- `rukeshomaji_torsion`
module _ (l a : ℕ) where
  pub torsion_replies : (r : Answer ℕ) {n : ℕ} {reply : List ℕ} → TorsionAnswers l a r → TorsionReply (outcome r) n reply
      → TorsionReplies l a n reply
  torsion_replies r t p = replies_as t p

  pub replied_torsion : (n : ℕ) (reply : List ℕ) → TorsionReplies l a n reply
      → (r : Answer ℕ) × TorsionAnswers l a r × TorsionReply (outcome r) n reply
  replied_torsion n reply p = let o = torsion_of l a in (answer_of o, says_outcome o, replies_as (sym (says_outcome o)) p)

  pub zero_torsion : (reply : List ℕ) → TorsionReplies l a 0 reply → (k : ℕ) × TorsionAnswers l a (Ok k) × (reply ≡ 0 ∷ k ∷ [])
  zero_torsion reply p = let r = replied_torsion 0 reply p in go r.0 r.1 r.2
    where
      go : (r : Answer ℕ) → TorsionAnswers l a r → TorsionReply (outcome r) 0 reply
          → (k : ℕ) × TorsionAnswers l a (Ok k) × (reply ≡ 0 ∷ k ∷ [])
      go (Ok k) t q = (k, t, q.replied)
      go (Err r) t q =
          absurd (never_zero r.number (sym q.returned)
          (of_drift_in_order r.number (numbered_floor ((torsion_first l a (Err r) t).refused_applies r.number r.place refl))))

  pub one_torsion_reply : {n n' : ℕ} {r r' : List ℕ} → TorsionReplies l a n r → TorsionReplies l a n' r' → (n ≡ n') × (r ≡ r')
  one_torsion_reply p q = replies_unique p q

-- ---- `rukeshomaji_accidental_moments`
module _ (v T : ℕ) (ws hs : List ℕ) (d : ℕ) (b : MomentBuffers) where
  pub zero_moments : (p : ℕ) (b' : MomentBuffers) → MomentsReplies v T ws hs d b 0 p b' → MomentAnswers v T ws hs d b (Ok tt) b' × (p ≡ 0)
  zero_moments =
      zero_laid laid_each_way (moments_of v T ws hs d (shorter b)) b
      (λ r b' e. of_drift_in_order r.number
      (numbered_moments ((moments_first v T ws hs d b b' (Err r) e).refused_applies r.number r.place refl)))

  pub one_moments_reply : {n n' p p' : ℕ} {c c' : MomentBuffers} → MomentsReplies v T ws hs d b n p c → MomentsReplies v T ws hs d b n' p' c'
      → (n ≡ n') × (p ≡ p') × (c ≡ c')
  one_moments_reply = one_laid_reply laid_each_way (moments_of v T ws hs d (shorter b)) b
