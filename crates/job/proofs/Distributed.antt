-- The distribution: what its answer says of the judgments and of the buffers; the storeys in the cells that it wrote; demand 3 of a base shear that
-- is handed in; that no second outcome meets its contract; and that nothing but the call's own input plays a part.
-- Assumes nothing.
use Rattle.std.specs.Prelude.{Ok, Err}
use mathlib.Core.Path.{◌≡◌, sym, ap, ◌∙◌}
use mathlib.Core.List.{List}
use Prim.Native.Nat.{ℕ, ◌+◌, ◌≤◌, ◌<◌}
use lib.ListN.{length, take, get_or}
use Rattle.whole.specs.Cells.{sum, laid}
use Rattle.limits.specs.declared.refusal.Refusal.{Refusal}
use Rattle.limits.specs.Judging.{judged_distribution}
use Rattle.limits.specs.Outcome.{Outcome, accepted, refused, Done, outcome, Answer, done_only}
use Rattle.limits.proofs.AcceptedCalls.{distribution_allowed}
use Rattle.limits.proofs.Passed.{then_passed, bind_passed, only, then_refused}
use Rattle.limits.proofs.Room.{room_for_levels}
use Rattle.limits.proofs.Unique.{one_answer}
use Rattle.storeys.specs.Reach.{Standing}
use Rattle.margin.specs.Demand3.{HandedDemand3}
use Rattle.margin.proofs.Demand3.{handed_demand3, handed_of_cells}
use Rattle.job.specs.Distribution.{Columns, columns_at, distribution_of, Buffers, shortest, laid_over, filled, Distributed}
use Rattle.job.proofs.Columns as columns
use Rattle.job.proofs.GivenReached.{standing}

-- ---- once its judgments have answered: the lines of `distribution_of`
module _ (v T : ℕ) (ws hs : List ℕ) (room : ℕ) where
  distribution_refused : {n p : ℕ} → judged_distribution v T ws hs room ≡ refused n p → distribution_of v T ws hs room ≡ refused n p
  unfolding distribution_of
  distribution_refused e = simp e

  pub distribution_accepted : judged_distribution v T ws hs room ≡ accepted tt → distribution_of v T ws hs room ≡ accepted (columns_at T v ws hs)
  unfolding distribution_of
  distribution_accepted e = simp e

  -- ---- and what is answered then, with buffers b
  module _ (b : Buffers) (short : room ≡ shortest b) where
    pub refused_distributed : (a : Answer Done) (r : Refusal) → a ≡ Err r → outcome a ≡ judged_distribution v T ws hs room
        → Distributed v T ws hs b a b
    refused_distributed a r t e =
        let o = ap (λ (n : ℕ). distribution_of v T ws hs n) (sym short) ∙ distribution_refused (sym e ∙ ap outcome t) in
        (ap outcome t ∙ sym (ap done_only o), sym (ap (λ (x : Outcome Columns). filled x b) o))

    pub passed_distributed : {ps us os : List ℕ} → judged_distribution v T ws hs room ≡ accepted tt
        → us ≡ laid (columns_at T v ws hs).shears b.shears
        → ps ≡ laid (columns_at T v ws hs).forces b.forces
        → os ≡ laid (columns_at T v ws hs).overturnings b.overturnings
        → Distributed v T ws hs b (Ok tt) (record { forces = ps; shears = us; overturnings = os })
    passed_distributed {ps} {us} {os} e eu ep em =
        let o = ap (λ (n : ℕ). distribution_of v T ws hs n) (sym short) ∙ distribution_accepted e in
        let cells : record { forces = ps; shears = us; overturnings = os } ≡ laid_over (columns_at T v ws hs) b
        = λ i. record { forces = ep i; shears = eu i; overturnings = em i } in
        (sym (ap done_only o), cells ∙ sym (ap (λ (x : Outcome Columns). filled x b) o))

module _ (v T : ℕ) (ws hs : List ℕ) (b : Buffers) where
  abbrev judged : Outcome Done
  judged = judged_distribution v T ws hs (shortest b)

  -- ---- the other way: where it passed, the judgments accept, and each level's cells are written
  pub passed_judged : (b' : Buffers) → Distributed v T ws hs b (Ok tt) b' → judged ≡ accepted tt
  unfolding distribution_of
  passed_judged b' a =
      let columns = bind_passed (distribution_of v T ws hs (shortest b)) (λ _. accepted tt) (sym a.0) in
      (then_passed judged (accepted (columns_at T v ws hs)) columns.1).0

  pub passed_cells : (b' : Buffers) → Distributed v T ws hs b (Ok tt) b' → b' ≡ laid_over (columns_at T v ws hs) b
  passed_cells b' a =
      a.1 ∙ ap (λ (x : Outcome Columns). filled x b) (distribution_accepted v T ws hs (shortest b) (passed_judged b' a))

  module _ (r : Refusal) (b' : Buffers) (a : Distributed v T ws hs b (Err r) b') where
    pub refused_judged : judged ≡ refused r.number r.place
    unfolding distribution_of
    refused_judged =
        then_refused judged (columns_at T v ws hs) (only (distribution_of v T ws hs (shortest b)) (λ _. tt) (sym a.0))

    -- 'buffers untouched'
    pub refused_untouched : b' ≡ b
    refused_untouched = a.1 ∙ ap (λ (x : Outcome Columns). filled x b) (distribution_refused v T ws hs (shortest b) refused_judged)

  -- ---- no second outcome
  pub one_distributed : {a a' : Answer Done} {c c' : Buffers} → Distributed v T ws hs b a c → Distributed v T ws hs b a' c'
      → (a ≡ a') × (c ≡ c')
  one_distributed p q = (one_answer p.0 q.0, p.1 ∙ sym q.1)

  -- ---- the storeys, where it passed
  module _ (b' : Buffers) (a : Distributed v T ws hs b (Ok tt) b') where
    pub stands : Standing ws hs
    stands = standing ws hs (distribution_allowed v T ws hs (shortest b) (passed_judged b' a)).0

    -- what is written is the columns, one cell a level, and the rest is as it was
    pub passed_written : columns.Written T v ws hs b b'
    passed_written = columns.laid_written T v ws hs b b' (passed_cells b' a)

    pub forces_add_up : sum (take (length ws) b'.forces) ≡ v
    forces_add_up = columns.forces_add_up T v ws hs b b' (passed_cells b' a) stands.some stands.positive

    pub shears_never_fall : (x : ℕ) → get_or (take (length ws) b'.shears) (x + 1) 0 ≤ get_or (take (length ws) b'.shears) x 0
    shears_never_fall = columns.shears_never_fall T v ws hs b b' (passed_cells b' a) stands.some stands.positive

    pub lowest_shear : get_or (take (length ws) b'.shears) 0 0 ≡ v
    lowest_shear = columns.lowest_shear T v ws hs b b' (passed_cells b' a) stands.some stands.positive

    pub force_is_difference : (x : ℕ) → x < length ws
        → get_or (take (length ws) b'.forces) x 0 + get_or (take (length ws) b'.shears) (x + 1) 0 ≡ get_or (take (length ws) b'.shears) x 0
    force_is_difference = columns.force_is_difference T v ws hs b b' (passed_cells b' a) stands.some stands.positive

    -- 'for a shear handed in, each storey shear is at least its exact figure from that number and less than two newtons above'
    pub handed_kept : HandedDemand3 T v ws hs (λ x. get_or b'.shears x 0)
    handed_kept =
        handed_of_cells ws hs T (λ x h. sym (columns.shear_cell T v ws hs b b' (passed_cells b' a) x h)) v
        (handed_demand3 T ws hs stands.positive v)

-- ---- whatever buffers of the same shortest length hold, the answer is one; it is one for all that have a cell for each level, and so are the
-- written cells
module _ (v T : ℕ) (ws hs : List ℕ) (b c : Buffers) where
  pub same_answer : (a a' : Answer Done) (b' c' : Buffers) → shortest b ≡ shortest c
      → Distributed v T ws hs b a b' → Distributed v T ws hs c a' c' → a ≡ a'
  same_answer a a' b' c' e p q = one_answer (p.0 ∙ ap (λ (n : ℕ). done_only (distribution_of v T ws hs n)) e) q.0

  pub longer_answer : (a a' : Answer Done) (b' c' : Buffers) → length ws ≤ shortest b → length ws ≤ shortest c
      → Distributed v T ws hs b a b' → Distributed v T ws hs c a' c' → a ≡ a'
  unfolding distribution_of judged_distribution
  longer_answer a a' b' c' hb hc p q =
      one_answer (p.0 ∙ rw (room_for_levels ws hs (shortest b) (shortest c) hb hc)) q.0

  pub same_cells : (b' c' : Buffers) → Distributed v T ws hs b (Ok tt) b' → Distributed v T ws hs c (Ok tt) c'
      → (take (length ws) b'.forces ≡ take (length ws) c'.forces)
      × (take (length ws) b'.shears ≡ take (length ws) c'.shears)
      × (take (length ws) b'.overturnings ≡ take (length ws) c'.overturnings)
  same_cells b' c' p q =
      let x = passed_written v T ws hs b b' p in
      let y = passed_written v T ws hs c c' q in
      (x.forces ∙ sym y.forces, x.shears ∙ sym y.shears, x.overturnings ∙ sym y.overturnings)
