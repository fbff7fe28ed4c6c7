-- `label_at` meets its contract: what is compared are the differences at the point. Assumes nothing.
use mathlib.Core.Path.{◌≡◌, sym, ap, ◌∙◌}
use Prim.Native.Nat.{ℕ, pred, suc, ◌+◌, ◌<◌}
use native.Mathlib.Numerals.{add-one}
use native.Mathlib.Omega.{arith}
use lib.ListN.{length}
use mir.Facts.{to_z-of_z}
use mir.Syntax.{w64}
use mir.Val.{SFits}
use Rattle.combinatorics.specs.Lists.{up_from}
use Rattle.game_losses.proofs.FirstLargest.{largest_agree}
use Rattle.game_weighed.specs.Levels.{game_grid}
use Rattle.game_corners.specs.Corners.{signed_at}
use Rattle.grid_points.proofs.Points.{point-long}
use Rattle.grid_points.proofs.Round.{block-fits}
use Rattle.grid_points.specs.Grid.{num_indices}
use Rattle.game_losses.specs.Game.{difference, first_largest, game_label}
use Rattle.game_point.proofs.Bounds.{size-two}
use borrow.Author.Rules.{rules}
use Rattle.game_point.proofs.label_at.Goals as goal
use Rattle.game_point.proofs.label_at.Goals.{After-first_largest-i, Start}

long : (c : Start)
    → length c.args.point.now ≡ num_indices (game_grid c.args.game.now)
long c = point-long (game_grid c.args.game.now) c.args.point.now c.requires.game_at.is_point

some : (c : Start) → 0 < length c.args.point.now
some c =
    let game = c.requires.game_at in
    omega (arith, long c, block-fits c.args.game.now.sizes.now 0, size-two game 0 game.grid.some_block)

pub first_largest-i-requires : goal.first_largest-i-requires
first_largest-i-requires c =
    let s = (goal.at.first_largest-i-requires c).Start in
    (some s, omega (arith, long s, c.requires.game_at.grid.few_indices))

index-low : (c : After-first_largest-i) → c.first_largest-i.result < 16
index-low c =
    let s = (goal.at.After-first_largest-i c).Start in
    omega (arith, c.first_largest-i.ensures.1, long s, c.requires.game_at.grid.few_indices)

pub overflow_cast-result : goal.overflow_cast-result
overflow_cast-result c = omega (arith, index-low c)

pub offset_bounds-differences-i : goal.offset_bounds-differences-i
offset_bounds-differences-i c = omega (arith, index-low c)

pub bounds-differences-i : goal.bounds-differences-i
bounds-differences-i c = index-low c

difference-at : (c : After-first_largest-i) (h : ℕ) → h < length c.args.point.now
    → signed_at c.differences-differences.result h
    ≡ difference (game_grid c.args.game.now) c.args.game.now.losses.now
    c.args.point.now h
difference-at c h l =
    c.differences-differences.ensures c.args.game.now.losses.now c.requires.game_at
    c.strategy_losses-values.ensures h (omega (arith, long (goal.at.After-first_largest-i c).Start))

label_is : (c : After-first_largest-i)
    → c.first_largest-i.result + 1
    ≡ game_label (game_grid c.args.game.now) c.args.game.now.losses.now
    c.args.point.now
unfolding game_label
label_is c =
    let d = difference (game_grid c.args.game.now) c.args.game.now.losses.now
    c.args.point.now in
    add-one c.first_largest-i.result
    ∙ ap suc
    (c.first_largest-i.ensures.0
    ∙ largest_agree _ d (length c.args.point.now) (difference-at c)
    ∙ ap (λ (n : ℕ). first_largest d (up_from 0 n)) (long (goal.at.After-first_largest-i c).Start))

pub returns : goal.returns
returns c =
    let i = c.first_largest-i.result in
    let e = label_is (goal.at.returns c).After-first_largest-i in
    let z : pred (i + 1) ≡ i = omega arith in
    let fits : SFits w64 (signed_at c.differences-differences.result i) = search rules in (
      e,
      to_z-of_z {w = w64} fits
          ∙ difference-at (goal.at.returns c).After-first_largest-i i c.first_largest-i.ensures.1
          ∙ ap (difference (game_grid c.args.game.now) c.args.game.now.losses.now
          c.args.point.now) (sym z ∙ ap pred e),
    )
