-- The times of a log added layer by layer.
--   left u l ds o                        U and L where u and l are added already, and ds and the velocities of o are what is left
--   Timing ds ks xs u l n es js ys       of the log ds, ks, xs n layers are timed, by u and l, and es, js and ys are what is left of it: no
--                                       sum with what is left at 1 dm/s is more than all layers at 1 dm/s, and the log is timed as what is left
-- Assumes nothing.
use mathlib.Core.Path.{◌≡◌, refl, sym, ◌∙◌}
use mathlib.Core.List.{List, [], ◌∷◌}
use Prim.Native.Nat.{ℕ, ◌+◌, ◌≤◌, ◌<◌}
use native.Mathlib.Nat.{zero-add, add-zero, add_assoc, mul-le-mul_right}
use native.Mathlib.Omega.{arith}
use lib.ListN.{length}
use Rattle.whole.specs.Rounding.{up, down}
use Rattle.whole.specs.Cells.{sum}
use Rattle.whole.proofs.Rounding.{up_is, down_law}
use Rattle.limits.specs.Outcome.{Outcome, accepted, refused, ◌>>=◌}
use Rattle.soil.specs.declared.times.Times.{Times}
use Rattle.soil.specs.Times.{Matched, ns_at_unit, added, judged_times}
use Rattle.soil.specs.Velocity.{velocity, velocities}
use Rattle.soil.proofs.Speeds.{Positive, velocity_positive}

-- a time rounded is no more than the ns at 1 dm/s
pub up_most : (n d : ℕ) → 0 < d → up n d ≤ n
up_most n d p = (up_is n d p).smallest n (omega (arith, mul-le-mul_right n p))

pub down_most : (n d : ℕ) → 0 < d → down n d ≤ n
down_most n d p = omega (arith, mul-le-mul_right (down n d) p, (down_law n d p).0)

pub added_most : (round : ℕ → ℕ → ℕ) → ((n d : ℕ) → 0 < d → round n d ≤ n) → (ds vs : List ℕ) → Positive vs
    → added round ds vs ≤ ns_at_unit (sum ds)
unfolding added sum
added_most round most [] vs p = omega arith
added_most round most (d ∷ ds) [] p = omega arith
added_most round most (d ∷ ds) (v ∷ vs) p = omega (arith, most (ns_at_unit d) v p.0, added_most round most ds vs p.1)

abbrev left : ℕ → ℕ → List ℕ → Outcome (List ℕ) → Outcome Times
left u l ds o = o >>= λ vs. accepted (record { up = u + added up ds vs; down = l + added down ds vs })

left_all : (ds ks xs : List ℕ) → judged_times ds ks xs ≡ left 0 0 ds (velocities 1 ks xs)
unfolding judged_times
left_all ds ks xs = simp zero-add

one_more : (u l d v : ℕ) (ds : List ℕ) (o : Outcome (List ℕ))
    → left u l (d ∷ ds) (o >>= λ vs. accepted (v ∷ vs)) ≡ left (u + up (ns_at_unit d) v) (l + down (ns_at_unit d) v) ds o
unfolding added
one_more u l d v ds (accepted vs) = simp add_assoc
one_more u l d v ds (refused n p) = refl

pub record Timing (ds ks xs : List ℕ) (u l n : ℕ) (es js ys : List ℕ) : Type 0 where
  pub kinds : length js ≡ length es
  pub values : length ys ≡ length es
  pub up : u + ns_at_unit (sum es) ≤ ns_at_unit (sum ds)
  pub down : l + ns_at_unit (sum es) ≤ ns_at_unit (sum ds)
  pub timed : judged_times ds ks xs ≡ left u l es (velocities (n + 1) js ys)

pub timing_starts : (ds ks xs : List ℕ) → Matched ds ks xs → Timing ds ks xs 0 0 0 ds ks xs
timing_starts ds ks xs m = record { kinds = m.kinds; values = m.values; up = omega arith; down = omega arith; timed = left_all ds ks xs }

module _ {ds ks xs : List ℕ} {u l n : ℕ} {es js ys : List ℕ} (t : Timing ds ks xs u l n es js ys) where
  pub timing_ends : length es ≡ 0 → judged_times ds ks xs ≡ accepted (record { up = u; down = l })
  unfolding velocities added
  timing_ends e = go es js ys t e
    where
      go : (es js ys : List ℕ) → Timing ds ks xs u l n es js ys → length es ≡ 0 → judged_times ds ks xs ≡ accepted (record { up = u; down = l })
      go [] [] ys t e = t.timed ∙ simp add-zero
      go [] (j ∷ js) ys t e = absurd (let k = t.kinds in omega arith)
      go (d ∷ es) js ys t e = absurd (omega arith)

  -- a layer of thickness d, kind k and value x at the place i + 1, before what is left then
  module _ {d k x i : ℕ} {ds₂ ks₂ xs₂ : List ℕ} (hd : es ≡ d ∷ ds₂) (hk : js ≡ k ∷ ks₂) (hx : ys ≡ x ∷ xs₂) (hi : i ≡ n) where
    here : Timing ds ks xs u l n (d ∷ ds₂) (k ∷ ks₂) (x ∷ xs₂)
    here = rw (← hd, ← hk, ← hx) t

    pub timing_refused : {m p : ℕ} → refused m p ≡ velocity k x (i + 1) → judged_times ds ks xs ≡ refused m p
    unfolding velocities
    timing_refused e = here.timed ∙ rw (← hi, ← e)

    module _ {v : ℕ} (e : accepted v ≡ velocity k x (i + 1)) where
      positive : 0 < v
      positive = velocity_positive k x (i + 1) v (sym e)

      -- the velocity is above 0, and the layer's ns at 1 dm/s, and its times with those that are added, are no more than all layers at 1 dm/s
      pub timing_fits : (0 < v) × (ns_at_unit d ≤ ns_at_unit (sum ds)) × (u + up (ns_at_unit d) v ≤ ns_at_unit (sum ds))
          × (l + down (ns_at_unit d) v ≤ ns_at_unit (sum ds))
      unfolding sum
      timing_fits =
          let a = up_most (ns_at_unit d) v positive in
          let b = down_most (ns_at_unit d) v positive in
          let h = here in
          (positive, omega arith, omega arith, omega arith)

      pub timing_next : Timing ds ks xs (u + up (ns_at_unit d) v) (l + down (ns_at_unit d) v) (n + 1) ds₂ ks₂ xs₂
      unfolding sum velocities
      timing_next =
          let a = up_most (ns_at_unit d) v positive in
          let b = down_most (ns_at_unit d) v positive in
          let h = here in
          record {
            kinds = omega arith;
            values = omega arith;
            up = omega arith;
            down = omega arith;
            timed = here.timed ∙ rw (← hi, ← e) (one_more u l d v ds₂ (velocities (i + 1 + 1) ks₂ xs₂));
          }
