-- Lemma 2.6 of the 1987 paper with a number: at the points of a complete simplex over a game's labels no player gains
-- much by changing the mix for one strategy. The paper's lemma says that finer grids come nearer; here the sizes, the
-- divisions and the losses say how near. D is the product of all divisions, by which p_j and q_k are multiplied, as
-- in game_losses/specs/Game. Assumes nothing.
use Rattle.std.specs.Prelude.{Bool, true, ◌&&◌, List, map, ◌≡◌, ℕ, suc, ◌+◌, ◌-◌, ◌*◌, ◌/◌, ◌≤◌, ◌<◌, eqb, leb, length}
use Rattle.check_simplices.specs.Simplices.{InOneSimplex, labelled_by}
use Rattle.combinatorics.specs.Lists.{all, is_in, sum}
use Rattle.game_losses.specs.Game.{game_label, labels, player_loss, product, replaced_loss}
use Rattle.game_losses.specs.Table.{num_losses}
use Rattle.grid_points.specs.Grid.{Grid, Point, block_of, blocks, division, indices_of, num_blocks, num_indices, same_point}
use Rattle.grid_points.specs.Grid.{size}
use Rattle.place.specs.Ends.{is_complete}
use Rattle.place.specs.Places.{Simplex}

-- "w_l = floor(s_l / 2) D / d_l", which is a whole number (`ExactShares`)
abbrev pub share : Grid → ℕ → ℕ
share g l = size g l / 2 * (product g.divisions / division g l)

-- "W the sum of all w_l"
abbrev pub all_shares : Grid → ℕ
all_shares g = sum (map (share g) (blocks g))

-- "R = 999 (or the largest loss less the smallest)": any R for which the losses are from some lowest number to R above
-- it. Losses that document 01 lets pass are from 1 to 1,000.
abbrev pub losses_within : ℕ → ℕ → List ℕ → Bool
losses_within low range losses = all (λ v. leb low v && leb v (low + range)) losses

-- "D (p_j - q_k)" is at most the amount: what the player of k gains at x if k takes the place of the mix
abbrev pub GainsAtMost : Grid → List ℕ → Point → ℕ → ℕ → Type 0
GainsAtMost g losses x k amount = player_loss g losses x k ≤ replaced_loss g losses x k + amount

-- "2 R (W - w_j)"
abbrev pub allowance : Grid → ℕ → ℕ → ℕ
allowance g range j = 2 * range * (all_shares g - share g j)

-- "R (4 W - 2 w_j - w_i)"
abbrev pub wide_allowance : Grid → ℕ → ℕ → ℕ → ℕ
wide_allowance g range j i = range * (4 * all_shares g - 2 * share g j - share g i)

-- x is a point "whose label is an index of block j"
abbrev pub LabelOfBlock : Grid → List ℕ → Point → ℕ → Type 0
LabelOfBlock g losses x j = (h : ℕ) × (is_in eqb h (indices_of g j) ≡ true) × (game_label g losses x ≡ suc h)

-- of a simplex and "the block named", j
pub record Accurate (g : Grid) (losses : List ℕ) (range : ℕ) (s : Simplex) (j : ℕ) : Type 0 where
  -- "At EVERY vertex x of the simplex, for every k of block j: D (p_j - q_k) <= 2 R (W - w_j)."
  pub named : (x : Point) → is_in same_point x s ≡ true → (k : ℕ) → is_in eqb k (indices_of g j) ≡ true
      → GainsAtMost g losses x k (allowance g range j)
  -- "At every vertex whose label is an index of block j .. the same holds for EVERY player: it is an
  -- epsilon-equilibrium",
  pub everyone : (x : Point) → is_in same_point x s ≡ true → LabelOfBlock g losses x j → (k : ℕ) → k < num_indices g
      → GainsAtMost g losses x k (allowance g range j)
  -- "(there is one ..)"
  pub exists : (x : Point) × (is_in same_point x s ≡ true) × LabelOfBlock g losses x j
  -- "At every vertex, for every other player i: D (p_i - q_k) <= R (4 W - 2 w_j - w_i)." It holds of player j too,
  -- where `named` says more
  pub wide : (x : Point) → is_in same_point x s ≡ true → (k : ℕ) → k < num_indices g
      → GainsAtMost g losses x k (wide_allowance g range j (block_of g k))

-- a game on a grid. Nothing is asked of the number of points: it holds of grids for which no table is ever made.
pub record IsGame (g : Grid) (losses : List ℕ) (low range : ℕ) : Type 0 where
  pub same_number : length g.divisions ≡ num_blocks g
  pub divisions : all (λ d. leb 1 d) g.divisions ≡ true
  pub whole : length losses ≡ num_losses g
  pub within : losses_within low range losses ≡ true

-- "The path does not matter: 1 to 3 hold for every set that the checker (Req 07) calls complete over a game's labels":
-- one or more points of one simplex
abbrev pub EveryCompleteSet : Type 0
EveryCompleteSet = (g : Grid) (losses : List ℕ) (low range : ℕ) → IsGame g losses low range → (s : Simplex)
    → 1 ≤ length s → InOneSimplex g s → (j : ℕ) → j < num_blocks g
    → is_complete (labelled_by g (labels g losses)) s j ≡ true
    → Accurate g losses range s j

-- D / d_l leaves no remainder: d_l w_l = floor(s_l / 2) D
abbrev pub ExactShares : Grid → Type 0
ExactShares g = (l : ℕ) → l < num_blocks g → division g l * share g l ≡ size g l / 2 * product g.divisions
