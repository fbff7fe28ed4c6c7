-- `label_points` meets its contract: the labels of the points passed stand at the front of the buffer, the tables of
-- the point up to the first block that has changed, and the differences at its corners unless a block before the last
-- has changed. Assumes nothing.
use mathlib.Core.Bool.{false}
use mathlib.Core.List.{List, []}
use mathlib.Core.Path.{◌≡◌, refl, sym, ◌∙◌}
use Prim.Native.Nat.{ℕ, ◌-◌, ◌≤◌, ◌<◌}
use native.Mathlib.Omega.{arith}
use borrow.Author.Tests.{ltb-false}
use lib.Dec.{ltb}
use lib.ListN.{length}
use Rattle.combinatorics.proofs.Basics.{absurd_bool}
use Rattle.combinatorics.proofs.Fronts.{front-none, front-whole}
use Rattle.game_corners.proofs.CornerLabels.{lent_rows, lent-label}
use Rattle.game_weighed.specs.Levels.{game_grid}
use Rattle.game_corners.proofs.CornerLosses.{last-ends, cornered_kept}
use Rattle.game_corners.specs.Corners.{last_player}
use Rattle.grid_points.proofs.Accepted.{Accepted, accepted, blocks-few}
use Rattle.grid_points.proofs.CoordinatesBelow.{division-below}
use Rattle.grid_points.specs.Grid.{Grid, Point, first_index, num_indices, num_points, size, lent}
use Rattle.game_weighed.proofs.Levels.{behind-alike, stand-to-alike}
use Rattle.game_losses.specs.Game.{game_label, labels}
use Rattle.points_in_order.proofs.Blocks.{point-length}
use Rattle.points_in_order.proofs.InOrder.{point_at, next-point}
use Rattle.points_in_order.specs.Lent.{PointWithFirsts}
use Rattle.game_labels.proofs.AllLabels.{labels_length, label-written}
use Rattle.game_labels.proofs.Kept.{levels_kept}
use Rattle.game_labels.proofs.game.label_points.Goals as goal
use Rattle.game_labels.proofs.game.label_points.Goals.{Start, In-loop-label}

-- what is known of the game
module _ (s : Start) where
  abbrev g : Grid
  g = game_grid s.args.game.now

  yes : Accepted g
  yes = accepted g s.requires.grid.accepted

  some : 0 < num_points g
  some = omega (arith, division-below g yes.sizes_two yes.same_number 0)

  s_long : num_indices g ≡ length s.args.point.now
  s_long = sym (point-length g yes s.args.point.now
      (point_at g s.args.game.now.firsts.now s.requires.grid 0 some s.args.point.now s.requires.first).is_point)

-- what is known in a turn
module _ (c : In-loop-label) where
  abbrev start : Start
  start = (goal.at.In-loop-label c).Start

  abbrev firsts : List ℕ
  firsts = c.args.game.now.firsts.now

  abbrev k : ℕ
  k = c.loop-label.label-index

  abbrev y : Point
  y = c.loop-label.point

  abbrev begin : ℕ
  begin = c.from-from.result

  begins : begin ≡ first_index (g start) (last_player (g start))
  begins = c.from-from.ensures ∙ c.requires.grid.first (last_player (g start)) (omega (arith, (yes start).some_block))

  inside : k < num_points (g start)
  inside = omega (arith, c.requires.whole)

  here : PointWithFirsts (g start) firsts y
  here = point_at (g start) firsts c.requires.grid k inside y (c.loop-label.invariant.here inside)

  first-inside : begin ≤ length y
  first-inside = omega (
    arith,
    begins,
    last-ends (g start) (yes start).some_block,
    point-length (g start) (yes start) y here.is_point,
  )

  long : length c.args.point.now ≡ num_indices (g start)
  long = omega (arith, c.loop-label.invariant.long, point-length (g start) (yes start) y here.is_point)

pub overflow_sub-last : goal.overflow_sub-last
overflow_sub-last c = omega (arith, (yes (goal.at.overflow_sub-last c).Start).some_block)

pub bounds-game-last : goal.bounds-game-last
bounds-game-last c =
    let ok = yes (goal.at.bounds-game-last c).Start in
    omega (arith, ok.few_blocks, ok.some_block)

pub num_profiles-count-requires : goal.num_profiles-count-requires
num_profiles-count-requires c =
    (yes (goal.at.num_profiles-count-requires c).Start).few_indices

pub load_losses-requires : goal.load_losses-requires
load_losses-requires c = (
  sym (s_long (goal.at.load_losses-requires c).Start),
  (
    c.args.game.now.divisions.now,
    record {
      grid = c.requires.grid;
      owned = c.requires.owned;
      rested = λ l j a b. c.requires.rested l j a b
          ∙ behind-alike c.args.game.now.sizes.now [] c.args.game.now.divisions.now j l;
      table = c.requires.table;
      is_count = c.num_profiles-count.ensures;
      whole = c.requires.numbers;
    },
  ),
)

pub loop-label-init : goal.loop-label-init
loop-label-init c =
    let s = (goal.at.loop-label-init c).Start in
    record {
      written = sym (front-none c.args.buffer.now);
      here = λ h. c.requires.first;
      long = refl;
      stand = c.load_losses.ensures c.args.point.now;
      corners = λ f. absurd_bool f;
      inside = omega (arith, (yes s).some_block);
      kept = λ f. absurd_bool f;
    }

pub weigh_changed-requires : goal.weigh_changed-requires
weigh_changed-requires c =
    let s = (goal.at.weigh_changed-requires c).Start in
    let i = c.loop-label.invariant in
    let ss = c.args.game.now.sizes.now in
    let ds = c.args.game.now.divisions.now in (
      ds,
      c.args.game.now.losses.now,
      record {
        ones_are = c.requires.ones_are;
        table = c.requires.table;
        levels_at = record {
          point = here (goal.at.weigh_changed-requires c).In-loop-label;
          owned = c.requires.owned;
          rested = λ l j a b. c.requires.rested l j a b ∙ behind-alike ss [] ds j l;
          range = c.requires.table.range;
          whole = omega (arith, c.requires.numbers);
          stand = stand-to-alike ss [] ds c.args.game.now.losses.now c.loop-label.point c.loop-label.first
              c.loop-label.levels i.stand;
        };
        inside = i.inside;
        kept = i.kept;
        rows = omega (arith, c.requires.rows);
      },
    )

pub slice_bounds-label_point-count : goal.slice_bounds-label_point-count
slice_bounds-label_point-count c = first-inside (goal.at.slice_bounds-label_point-count c).In-loop-label

pub slice_bounds-label_point-start : goal.slice_bounds-label_point-start
slice_bounds-label_point-start c = first-inside (goal.at.slice_bounds-label_point-start c).In-loop-label

pub label_point-requires : goal.label_point-requires
label_point-requires c =
    let w = (goal.at.label_point-requires c).In-loop-label in
    let s = (goal.at.label_point-requires c).Start in
    let i = c.loop-label.invariant in
    let stand = c.weigh_changed.ensures.cornered c.args.game.now.losses.now i.stand i.corners in
    let rows = lent_rows (g s) c.args.game.now.firsts.now c.args.game.now.losses.now c.args.ones.now
    c.requires.ones_are c.loop-label.point (here w) _ stand c.from-from.result (begins w) (omega arith) in
    (omega (arith, long w, blocks-few (g s) (yes s), (yes s).some_block), rw (long w) rows)

pub next_point-first-requires : goal.next_point-first-requires
next_point-first-requires c =
    (c.args.game.now.divisions.now, here (goal.at.next_point-first-requires c).In-loop-label)

pub loop-label-preserved : goal.loop-label-preserved
loop-label-preserved c =
    let w = (goal.at.loop-label-preserved c).In-loop-label in
    let s = (goal.at.loop-label-preserved c).Start in
    let i = c.loop-label.invariant in
    let losses = c.args.game.now.losses.now in
    let ss = c.args.game.now.sizes.now in
    let v = c.weigh_changed in
    let stand = v.ensures.cornered losses i.stand i.corners in
    let a = c.next_point-first in
    let z : Point = a.new.point in
    let label = c.label_point in
    let is : label.result ≡ game_label (g s) losses c.loop-label.point = label.ensures
    ∙ rw (long w) (lent-label (g s) c.args.game.now.firsts.now losses c.args.ones.now c.requires.ones_are
    c.loop-label.point (here w) _ stand c.from-from.result (begins w)) in
    let ended : ltb a.result (length ss - 1) ≡ false → a.result ≡ last_player (g s) = λ f.
    omega (arith, ltb-false a.result (length ss - 1) f, a.ensures.upper_bound.0) in
    record {
      written = rw (i.written, is)
          (label-written (g s) c.loop-label.label-index losses c.args.buffer.now (inside w) c.requires.whole c.loop-label.point
          (i.here (inside w)));
      here = λ h. a.ensures.point_after
          ∙ next-point (g s) c.args.game.now.firsts.now c.requires.grid c.loop-label.label-index h c.loop-label.point
          (i.here (inside w));
      long = omega (arith, i.long);
      stand = levels_kept (lent ss []) losses c.loop-label.point z a.result (length ss - 1) v.new.levels
          (omega (arith, a.ensures.upper_bound.0)) a.ensures.upper_bound.1 (v.ensures.stand_to losses i.stand);
      corners = λ f. cornered_kept (lent ss c.args.ones.now) losses c.loop-label.point z (size (g s) (last_player (g s))) _
          (rw (ended f) at a.ensures.upper_bound.1) stand;
      inside = a.ensures.upper_bound.0;
      kept = ended;
    }

pub returns : goal.returns
returns c =
    let s = (goal.at.returns c).Start in
    let l = c.loop-label in
    l.invariant.written
    ∙ front-whole (labels (g s) c.args.game.now.losses.now) c.args.buffer.now l.label-index
    (omega (arith, labels_length (g s) c.args.game.now.losses.now, c.requires.whole))
