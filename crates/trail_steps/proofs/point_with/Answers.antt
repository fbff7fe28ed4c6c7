-- `trail_steps::point_with` meets its contract. The invariant: the search from point k on finds what the search from
-- the first finds. Assumes nothing.
use mathlib.Core.List.{List, [], ◌∷◌, map}
use mathlib.Core.Path.{◌≡◌, refl, sym, ◌∙◌}
use Prim.Native.Nat.{ℕ, zero, suc, ◌<◌}
use lib.ListN.{get_or, length, length-map, take}
use lib.Seq.{length-take-le}
use native.Mathlib.Numerals.{add-one}
use native.Mathlib.Omega.{arith}
use Rattle.combinatorics.proofs.EditsOfArrays.{found_here, found-later}
use Rattle.rules.specs.Moves.{mark_position}
use Rattle.trail_steps.proofs.point_with.Goals as goal

-- the position of point k is among the positions
positions_in : (marks : List ℕ) (j : ℕ) → j < length marks
    → get_or (map mark_position marks) j 0 ≡ mark_position (get_or marks j 0)
positions_in [] j l = absurd (omega arith)
positions_in (m ∷ marks) zero l = refl
positions_in (m ∷ marks) (suc j) l = positions_in marks j (omega arith)

pub loop-k-preserved : goal.loop-k-preserved
loop-k-preserved c =
    let a = c.args in
    let l = c.loop-k in
    let few = take (suc a.n) a.marks.now in
    let long : length few ≡ suc a.n =
    length-take-le (suc a.n) a.marks.now (omega (arith, c.requires)) in
    let in_range_lem : l.k < length (map mark_position few) = omega (arith, length-map few mark_position, long) in
    let e = positions_in few l.k (omega (arith, long)) in
    let at = c.position_at.ensures.0 in
    rw add-one
    (sym (found-later a.position 16 l.k (map mark_position few) in_range_lem
    (λ q. absurd (c.if-position_at-position.false (at ∙ sym e ∙ q))))
    ∙ l.invariant)

pub returns-then-position_at-position : goal.returns-then-position_at-position
returns-then-position_at-position c =
    let a = c.args in
    let l = c.loop-k in
    let few = take (suc a.n) a.marks.now in
    let long : length few ≡ suc a.n =
    length-take-le (suc a.n) a.marks.now (omega (arith, c.requires)) in
    let in_range_lem : l.k < length (map mark_position few) = omega (arith, length-map few mark_position, long) in
    let e = positions_in few l.k (omega (arith, long)) in
    sym (found_here a.position 16 l.k (map mark_position few) in_range_lem
    (e ∙ sym c.position_at.ensures.0 ∙ c.if-position_at-position.true) (λ q. absurd (omega (arith, c.requires))))
    ∙ l.invariant
