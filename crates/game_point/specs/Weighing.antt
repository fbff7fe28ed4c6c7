-- The losses of a strategy weighed by the opponents' mixes. The promise of a label does not cite this. Assumes nothing.
use Rattle.std.specs.Prelude.{true, not, List, map, ◌≡◌, ℕ, ◌-◌, ◌*◌, ◌≤◌, ◌<◌, eqb, leb, length, get_or}
use Rattle.combinatorics.specs.Lists.{all, filter, sum, up_from}
use Rattle.grid_points.specs.Grid.{Grid, Point, num_blocks, num_indices, size, first_index}
use Rattle.game_losses.specs.Game.{mix}
use Rattle.game_losses.specs.Weights.{weights}
use Rattle.game_weighed.specs.Levels.{Rests}

-- the opponents of player j from block l on
abbrev pub opponents_from : Grid → ℕ → ℕ → List ℕ
opponents_from g j l = filter (λ i. not (eqb i j)) (up_from l (num_blocks g - l))

-- the products of their mixes at all profiles, in lexicographic order
abbrev pub weights_from : Grid → Point → ℕ → ℕ → List ℕ
weights_from g y j l = weights (map (mix g y) (opponents_from g j l))

-- a loss for each profile, whose sum fits
pub record CanWeighLosses (g : Grid) (firsts rests : List ℕ) (y : Point) (losses : List ℕ) (j l : ℕ) : Type 0 where
  pub few : num_blocks g ≤ 6
  pub player : j < 6
  pub resting : Rests g rests
  pub inside : l ≤ num_blocks g
  pub sizes : (i : ℕ) → i < num_blocks g → 1 ≤ size g i
  pub first : (i : ℕ) → i < num_blocks g → get_or firsts i 0 ≡ first_index g i
  pub room : num_indices g ≤ length y
  pub whole : length losses ≡ length (weights_from g y j l)
  pub low : all (λ v. leb v 1000) losses ≡ true
  pub fits : (i : ℕ) → i ≤ num_blocks g → sum (weights_from g y j i) * 1000 ≤ 9000000000000000000
