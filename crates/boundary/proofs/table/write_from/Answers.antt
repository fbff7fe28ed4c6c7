-- `write_from` meets its contract: the new labels of the points passed stand at the front of the buffer, and a turn
-- passes a point and those behind it that are labelled alike. Assumes nothing.
use mathlib.Core.Bool.{cond}
use mathlib.Core.List.{List, []}
use mathlib.Core.Path.{◌≡◌, refl, sym, ap, ◌∙◌}
use Prim.Native.Nat.{ℕ, ◌+◌, ◌≤◌, ◌<◌}
use lib.ListN.{length, get_or, set, take, length-set}
use native.Mathlib.Omega.{arith}
use Rattle.combinatorics.proofs.Fronts.{front-none}
use Rattle.combinatorics.specs.Front.{front}
use Rattle.grid_points.proofs.Accepted.{accepted}
use Rattle.grid_points.specs.Grid.{Grid, Point, num_points, points, lent}
use Rattle.points_in_order.proofs.InOrder.{next-point, point_at}
use Rattle.points_in_order.specs.Lent.{PointWithFirsts}
use Rattle.points_in_order.specs.Shifted.{last_but_one, last_one, end_shifted}
use Rattle.boundary_labels.proofs.PointLabels.{table-length}
use Rattle.boundary_labels.specs.Boundary.{boundary_label, boundary_table, is_interior}
use Rattle.boundary.proofs.Turns.{all-written, few, found_or-is, long, low, turn_filled, turn_fits, turn_point}
use Rattle.boundary.proofs.Turns.{written}
use Rattle.boundary.specs.Lent.{FilledBy, PointToLabel, found_or}
use Rattle.boundary.proofs.table.write_from.Goals as goal
use Rattle.boundary.proofs.table.write_from.Goals.{After-more_alike-more, In-loop-k}

abbrev g : (c : In-loop-k) → Grid
g c = lent c.args.sizes.now c.args.divisions.now

abbrev firsts : (c : In-loop-k) → List ℕ
firsts c = c.args.firsts.now

abbrev old : (c : In-loop-k) → List ℕ
old c = c.args.old.now

abbrev k : (c : In-loop-k) → ℕ
k c = c.loop-k.k

abbrev y : (c : In-loop-k) → Point
y c = c.loop-k.point

inside : (c : In-loop-k) → (k c) < num_points (g c)
inside c = omega (arith, c.requires.room)

stands : (c : In-loop-k) → (y c) ≡ get_or (points (g c)) (k c) []
stands c = c.loop-k.invariant.1 (inside c)

here : (c : In-loop-k) → PointWithFirsts (g c) (firsts c) (y c)
here c = point_at (g c) (firsts c) c.requires.grid (k c) (inside c) (y c) (stands c)

on : (c : In-loop-k) → PointToLabel (g c) c.args.previous.now (y c)
on c = record { accepted = (here c).grid.accepted; is_point = (here c).is_point; befores = c.requires.befores }

few-points : (c : In-loop-k) → num_points (g c) ≤ 60000
few-points c = (accepted (g c) c.requires.grid.accepted).few_points

short : (c : In-loop-k) → length (y c) ≤ 16
short c = few (g c) c.args.previous.now (y c) (on c)

-- no further points yet
two : (c : In-loop-k) → 2 ≤ length (y c)
two c = long (g c) (firsts c) (old c) c.requires.grid (k c) (y c) (stands c) 0 (omega (arith, (inside c))) (λ n. absurd (omega arith))

abbrev more : (c : After-more_alike-more) → ℕ
more c = c.more_alike-more.result

fits : (c : After-more_alike-more) → k (goal.at.After-more_alike-more c).In-loop-k + 1 + (more c) ≤ num_points (g (goal.at.After-more_alike-more c).In-loop-k)
fits c = omega (arith, c.requires.old_whole, inside (goal.at.After-more_alike-more c).In-loop-k, c.more_alike-more.ensures.0)

alike : (c : After-more_alike-more) → 0 < (more c) → (0 < last_but_one (y (goal.at.After-more_alike-more c).In-loop-k)) × ((more c) < last_one (y (goal.at.After-more_alike-more c).In-loop-k))
alike c = c.more_alike-more.ensures.1

lowered : (c : After-more_alike-more) → (more c) ≤ last_one (y (goal.at.After-more_alike-more c).In-loop-k)
lowered c =
    let here = (goal.at.After-more_alike-more c).In-loop-k in
    low (g here) (firsts here) (old here) c.requires.grid (k here) (y here) (stands here) (more c) (fits c) (alike c)

raised : (c : After-more_alike-more) → last_but_one (y (goal.at.After-more_alike-more c).In-loop-k) + (more c) < 65536
raised c =
    let here = (goal.at.After-more_alike-more c).In-loop-k in
    turn_fits (g here) (firsts here) (old here) c.requires.grid (k here) (y here) (stands here) (more c) (fits c) (alike c)

ends : (c : After-more_alike-more) → end_shifted (y (goal.at.After-more_alike-more c).In-loop-k) (more c) ≡ get_or (points (g (goal.at.After-more_alike-more c).In-loop-k)) (k (goal.at.After-more_alike-more c).In-loop-k + (more c)) []
ends c =
    let here = (goal.at.After-more_alike-more c).In-loop-k in
    turn_point (g here) (firsts here) (old here) c.requires.grid (k here) (y here) (stands here) (more c) (fits c) (alike c)

abbrev found : (c : After-more_alike-more) → ℕ
found c = c.label-found.result

is_found : (c : After-more_alike-more) → (found c) ≡ cond (is_interior (y (goal.at.After-more_alike-more c).In-loop-k)) 0 (boundary_label (g (goal.at.After-more_alike-more c).In-loop-k) (y (goal.at.After-more_alike-more c).In-loop-k))
is_found c =
    let here = (goal.at.After-more_alike-more c).In-loop-k in
    c.label-found.ensures (g here) (on here)

byte-is : (c : After-more_alike-more) → (o : ℕ) → found_or (found c) o ≡ cond (is_interior (y (goal.at.After-more_alike-more c).In-loop-k)) o (boundary_label (g (goal.at.After-more_alike-more c).In-loop-k) (y (goal.at.After-more_alike-more c).In-loop-k))
byte-is c =
    let here = (goal.at.After-more_alike-more c).In-loop-k in
    found_or-is (g here) (firsts here) (old here) c.requires.grid (k here) (y here) (stands here) (more c) (fits c) (alike c) (found c) (is_found c)

filled : (c : After-more_alike-more) → FilledBy (boundary_table (g (goal.at.After-more_alike-more c).In-loop-k) (old (goal.at.After-more_alike-more c).In-loop-k)) (old (goal.at.After-more_alike-more c).In-loop-k) (found c) (k (goal.at.After-more_alike-more c).In-loop-k + 1) (k (goal.at.After-more_alike-more c).In-loop-k + 1 + (more c))
filled c =
    let here = (goal.at.After-more_alike-more c).In-loop-k in
    turn_filled (g here) (firsts here) (old here) c.requires.grid (k here) (y here) (stands here) (more c) (fits c) (alike c) (found c) (is_found c)

pub loop-k-init : goal.loop-k-init
loop-k-init c =
    (sym (front-none c.args.labels.now), (λ h. c.requires.first), omega arith, refl, refl)

pub label-found-requires : goal.label-found-requires
label-found-requires c = (g c, on c)

pub bounds-old-k : goal.bounds-old-k
bounds-old-k c = omega (arith, inside (goal.at.bounds-old-k c).In-loop-k, c.requires.old_whole)

pub overflow_sub-old : goal.overflow_sub-old
overflow_sub-old c = omega (arith, inside (goal.at.overflow_sub-old c).In-loop-k, c.requires.old_whole)

pub overflow_sub-old-in-loop-k : goal.overflow_sub-old-in-loop-k
overflow_sub-old-in-loop-k c =
    omega (arith, inside (goal.at.overflow_sub-old-in-loop-k c).In-loop-k, c.requires.old_whole)

pub more_alike-more-requires : goal.more_alike-more-requires
more_alike-more-requires c =
    let here = (goal.at.more_alike-more-requires c).In-loop-k in
    (two here, short here)

pub overflow_add-k : goal.overflow_add-k
overflow_add-k c = omega (arith, fits (goal.at.overflow_add-k c).After-more_alike-more, few-points (goal.at.overflow_add-k c).In-loop-k)

pub overflow_add-k-in-loop-k : goal.overflow_add-k-in-loop-k
overflow_add-k-in-loop-k c = omega (arith, fits (goal.at.overflow_add-k-in-loop-k c).After-more_alike-more, few-points (goal.at.overflow_add-k-in-loop-k c).In-loop-k)

pub overflow_add-k-in-loop-k-2 : goal.overflow_add-k-in-loop-k-2
overflow_add-k-in-loop-k-2 c = omega (arith, fits (goal.at.overflow_add-k-in-loop-k-2 c).After-more_alike-more, few-points (goal.at.overflow_add-k-in-loop-k-2 c).In-loop-k)

pub fill-requires : goal.fill-requires
fill-requires c =
    let here = (goal.at.fill-requires c).After-more_alike-more in
    let room : k (goal.at.fill-requires c).In-loop-k + 1 + more here ≤ length c.loop-k.labels =
    omega (arith, fits here, c.requires.room, c.loop-k.invariant.3) in
    (omega arith, omega (arith, fits here, c.requires.old_whole), rw length-set room)

pub shift_end-requires : goal.shift_end-requires
shift_end-requires c =
    let here = (goal.at.shift_end-requires c).In-loop-k in let past = (goal.at.shift_end-requires c).After-more_alike-more in
    record { in_bounds = (two here, short here); by_bound = (lowered past, raised past) }

pub next_point-requires : goal.next_point-requires
next_point-requires c =
    let here = (goal.at.next_point-requires c).In-loop-k in let past = (goal.at.next_point-requires c).After-more_alike-more in
    let z = point_at (g here) (firsts here) c.requires.grid (k here + more past) (omega (arith, fits past)) _ in
    (c.args.divisions.now, z (c.shift_end.ensures ∙ ends past))

pub overflow_add-k-in-loop-k-3 : goal.overflow_add-k-in-loop-k-3
overflow_add-k-in-loop-k-3 c = omega (arith, fits (goal.at.overflow_add-k-in-loop-k-3 c).After-more_alike-more, few-points (goal.at.overflow_add-k-in-loop-k-3 c).In-loop-k)

pub overflow_add-k-in-loop-k-4 : goal.overflow_add-k-in-loop-k-4
overflow_add-k-in-loop-k-4 c = omega (arith, fits (goal.at.overflow_add-k-in-loop-k-4 c).After-more_alike-more, few-points (goal.at.overflow_add-k-in-loop-k-4 c).In-loop-k)

pub loop-k-smaller : goal.loop-k-smaller
loop-k-smaller c = omega (arith, fits (goal.at.loop-k-smaller c).After-more_alike-more, c.requires.room)

pub loop-k-preserved : goal.loop-k-preserved
loop-k-preserved c =
    let past = (goal.at.loop-k-preserved c).In-loop-k in let met = (goal.at.loop-k-preserved c).After-more_alike-more in
    let o = c.found_or in
    let i = c.loop-k.invariant in
    let T = boundary_table (g past) (old past) in
    let B = c.args.labels.now in
    let room = c.requires.room in
    let byte = o.ensures ∙ byte-is met (get_or (old past) (k past) 0) in
    let here = written (g past) (old past) B room (k past) (inside past) (y past) (stands past) _ byte in
    let first = ap (λ (l : List ℕ). set l (k past) o.result) i.0 ∙ here in
    let n : length T ≡ num_points (g past) = table-length (g past) (old past) in
    let same : length (set c.loop-k.labels (k past) o.result) ≡ num_points (g past) =
    rw length-set (i.3 ∙ room) in
    let e : k past + 1 + more met ≡ k past + (1 + more met) = omega arith in
    let at = c.shift_end.ensures ∙ ends met in (
      c.fill.ensures T B (n ∙ sym same) (room ∙ sym n) first (filled met) ∙ ap (λ (n : ℕ). front (take n T) B) e,
      (λ q. c.next_point.ensures.point_after
          ∙ next-point (g past) (firsts past) c.requires.grid (k past + more met) (omega arith) _ at
          ∙ ap (λ (n : ℕ). get_or (points (g past)) n []) (omega arith)),
      omega (arith, fits met, room),
      omega arith,
      omega arith,
    )

pub returns : goal.returns
returns c =
    let l = c.loop-k in
    let g = lent c.args.sizes.now c.args.divisions.now in
    let all : l.k ≡ num_points g = omega (arith, c.requires.room) in
    l.invariant.0 ∙ all-written g c.args.old.now c.args.labels.now c.requires.room l.k all
