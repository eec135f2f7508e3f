-- Two jobs side by side, and the one thing that is changed from the first to the second.
--   with_r f r, with_i f i, with_alpha f a    the frame line f with another R, I, alpha-y
--   with_weight ws x w    the weights ws with w kN at level x, counted from 0
--   NoneLower n n'       none of V, V_M, V* and V_D is lower in n' than in n
--   AsRGrows n n'        what a larger R does: V, V_M and V_D are no higher in n', and V* is no lower. Where V* is higher, it is at most the V of n; where V* is
--                        the largest in n, V_D is the same in n'
use Rattle.std.specs.Prelude.{◌≡◌, List, ℕ, ◌≤◌, ◌<◌, set}
use Rattle.limits.specs.declared.frame.FrameValues.{FrameValues}
use Rattle.base_shear.specs.declared.Figures.{Figures}

abbrev pub with_r : FrameValues → ℕ → FrameValues
with_r f r = record { kind = f.kind; calculated = f.calculated; r = r; i = f.i; alpha = f.alpha }

abbrev pub with_i : FrameValues → ℕ → FrameValues
with_i f i = record { kind = f.kind; calculated = f.calculated; r = f.r; i = i; alpha = f.alpha }

abbrev pub with_alpha : FrameValues → ℕ → FrameValues
with_alpha f a = record { kind = f.kind; calculated = f.calculated; r = f.r; i = f.i; alpha = a }

abbrev pub with_weight : List ℕ → ℕ → ℕ → List ℕ
with_weight ws x w = set ws x w

pub record NoneLower (n n' : Figures) : Type 0 where
  pub v : n.v ≤ n'.v
  pub vm : n.vm ≤ n'.vm
  pub star : n.star ≤ n'.star
  pub vd : n.vd ≤ n'.vd

pub record AsRGrows (n n' : Figures) : Type 0 where
  pub v : n'.v ≤ n.v
  pub vm : n'.vm ≤ n.vm
  pub star : n.star ≤ n'.star
  pub risen : n.star < n'.star → n'.star ≤ n.v
  pub vd : n'.vd ≤ n.vd
  pub stays : n.vd ≡ n.star → n'.vd ≡ n.vd
