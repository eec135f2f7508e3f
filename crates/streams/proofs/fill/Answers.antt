-- Each turn keeps the invariant: what was read stands behind what stood there before. Assumes nothing.
use Rattle.std.proofs.Common.{◌≡◌, ℕ, ◌+◌, ◌-◌, ◌≤◌, List, ◌++◌, rules, length, take, sym, ap, ◌∙◌, subst, length-take-le}
use Rattle.std.proofs.lemmas.List.{take-append-le}
use Rattle.std.proofs.Math.Seq.{take-append-add}
use Rattle.std.specs.Io.KnownBytes.{Consumes}
use Rattle.std.proofs.KnownBytes.{Consumes-trans}
use borrow.Rule.Slice.PartMut.{put_mid, post_of}
use Rattle.streams.proofs.fill.Goals as goal

take_read : (a k m : ℕ) (xs ys : List ℕ) → a ≤ length xs → m ≤ length ys → take (a + m) (put_mid a k xs ys) ≡ take a xs ++ take m ys
take_read a k m xs ys within fits =
    let after = post_of a k xs in
    ap (λ i. take (i + m) (put_mid a k xs ys)) (sym (length-take-le a xs within)) ∙ take-append-add (take a xs) (ys ++ after) m ∙ ap (λ l. take a xs ++ l) (take-append-le m ys after fits)

pub loop-n-preserved : goal.loop-n-preserved
loop-n-preserved g c =
    let at = c.loop-n in
    let room = length at.cells - at.n in
    let here = take_read at.n room c.in-Ok.more at.cells c.read.new.buf at.invariant.0 c.in-Ok.ensures.bound.0 in
    (search rules, subst (Consumes _ _) (sym here) (Consumes-trans _ _ _ _ _ at.invariant.1 c.in-Ok.ensures.bytes.0))
