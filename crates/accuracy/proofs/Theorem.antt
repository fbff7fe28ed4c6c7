-- Points that are complete for a block over a game's labels, any two of them near: what the player of the block gains
-- there, what the others gain where the label is of the block, and that there is such a point. Assumes nothing.
use mathlib.Core.Bool.{true}
use mathlib.Core.List.{List, [], ◌∷◌, map}
use mathlib.Core.Logic.{⊎_elim}
use mathlib.Core.Path.{◌≡◌, sym, ap, ◌∙◌}
use Prim.Native.Nat.{ℕ, zero, suc, ◌+◌, ◌-◌, ◌*◌, ◌/◌, ◌≤◌, ◌<◌}
use lib.Dec.{eqb}
use lib.ListN.{length, get_or}
use native.Mathlib.Nat.{le_of_mul-le-mul_left}
use native.Mathlib.Omega.{arith}
use Rattle.accuracy.proofs.Changes.{change}
use Rattle.accuracy.proofs.Largest.{label_largest, table-label}
use Rattle.accuracy.proofs.Losses.{expected_change, loss_change, mix-at, mix-sum, replaced-change}
use Rattle.accuracy.proofs.Losses.{strategy_loss}
use Rattle.accuracy.proofs.Moves.{weighed-below}
use Rattle.accuracy.proofs.Near.{NearPoints, near-points}
use Rattle.accuracy.proofs.Shares.{division-some, others_shares, shares, sum-own}
use Rattle.accuracy.specs.Accuracy.{Accurate, EveryCompleteSet, GainsAtMost, IsGame, LabelOfBlock, all_shares}
use Rattle.accuracy.specs.Accuracy.{allowance, share, wide_allowance}
use Rattle.check_simplices.specs.Simplices.{labelled_by}
use Rattle.combinatorics.proofs.Ranges.{in_up_from, up_from_in}
use Rattle.combinatorics.specs.Lists.{is_in, sum}
use Rattle.geometry.proofs.Points.{nth}
use Rattle.grid_points.proofs.Points.{on_points}
use Rattle.grid_points.proofs.Round.{block_at, block-fits, block_spans}
use Rattle.grid_points.specs.Grid.{Grid, Point, at, division, first_index, indices_of, num_blocks, num_indices}
use Rattle.grid_points.specs.Grid.{block_of, same_point, size}
use Rattle.game_losses.proofs.Replaced.{expected_is, replaced-is}
use Rattle.game_losses.proofs.Weights.{length-weighed}
use Rattle.game_losses.specs.Game.{dot, expected_loss, game_label, labels, losses_of, mix, opponents, player_loss}
use Rattle.game_losses.specs.Game.{replaced_loss}
use Rattle.game_losses.specs.Weights.{strategy_losses}
use Rattle.path_laws.proofs.Meaning.{U_means, complete_means, labels_mean}
use Rattle.path_laws.proofs.Positions.{at_in}
use Rattle.place.specs.Ends.{is_complete}
use Rattle.place.specs.Places.{Simplex}
use Rattle.place.specs.Problem.{Problem}
use Rattle.points_in_order.proofs.Blocks.{block-length}

-- numbers that add up to something have a positive one
some-positive : (x : List ℕ) → 0 < sum x → (i : ℕ) × (i < length x) × (0 < get_or x i 0)
some-positive [] h = absurd (omega arith)
some-positive (zero ∷ x) h =
    let r = some-positive x (omega arith) in
    (suc r.0, omega (arith, r.1), r.2)
some-positive (suc a ∷ x) h = (0, omega arith, omega arith)

-- 2 R (W - v) + R W + R (W - w) = R (4 W - 2 v - w), where v and w are parts of W
together : (R W v w a b : ℕ) → W ≡ v + a → W ≡ w + b
    → 2 * R * (W - v) + (R * W + R * (W - w)) ≡ R * (4 * W - 2 * v - w)
together R W v w a b e f =
    let q : 4 * W - 2 * v - w ≡ 2 * (W - v) + (W + (W - w)) = omega arith in
    rw q (omega arith)

module _ {g : Grid} {losses : List ℕ} {low range : ℕ} (G : IsGame g losses low range) (s : Simplex)
    (N : NearPoints g s) (j : ℕ) (b : j < num_blocks g)
    (complete : is_complete (labelled_by g (labels g losses)) s j ≡ true) where
  -- Definition 2.2 asks for no start
  abbrev p : Problem
  p = labelled_by g (labels g losses)

  -- the loss of the i-th strategy of player j at a point
  abbrev Q : Point → ℕ → ℕ
  Q x i = strategy_loss G j b x i

  -- and by how much it differs between two points of the set, at most
  abbrev eta : ℕ
  eta = range * change (division g) (λ l. size g l / 2) (opponents g j)

  expected : (x : Point) (i : ℕ) → i < size g j
      → player_loss g losses x (first_index g j + i) ≡ dot (mix g x j) (strategy_losses g x j (losses_of g losses j))
  expected x i l =
      ap (λ (k : ℕ). expected_loss g losses x k) (block_at g.sizes j i l) ∙ expected_is g losses x j

  -- an index of the block that is positive at a point is the label of a point
  label-there : (x : Point) → is_in same_point x s ≡ true → (i : ℕ) → i < size g j → 0 < at x (first_index g j + i)
      → (y : Point) × (is_in same_point y s ≡ true) × (game_label g losses y ≡ suc (first_index g j + i))
  label-there x m i l h =
      let k : ℕ = first_index g j + i in
      ⊎_elim
      (λ a.
      let w = ((labels_mean p s k).0 a).1 in
      (w.0, w.1, sym (table-label g losses G.same_number w.0 (N.on_grid w.0 w.1)) ∙ w.2))
      (λ u. let z : at x k ≡ 0 = ((U_means g s k).0 u).1 x m in absurd (omega arith))
      ((complete_means p s j).0 complete k (in_up_from (first_index g j) (size g j) k (omega arith) (omega arith)))

  -- at that point its strategy is a best one of the player
  best_there : (y : Point) (i k : ℕ) → i < size g j → k < size g j
      → game_label g losses y ≡ suc (first_index g j + i) → Q y i ≤ Q y k
  best_there y i k li lk e =
      let h : ℕ = first_index g j + i in
      let n : ℕ = first_index g j + k in
      let a = label_largest g losses y h e n (omega (arith, block-fits g.sizes j)) in
      let q : division g j * Q y i ≤ division g j * Q y k = omega (
        arith,
        expected y i li,
        expected y k lk,
        replaced-is g losses y j i li,
        replaced-is g losses y j k lk,
      ) in
      le_of_mul-le-mul_left q (division-some g G.same_number G.divisions j b)

  -- so at every point where it is positive it is by little worse than another
  nearly_best : (x : Point) → is_in same_point x s ≡ true → (i k : ℕ) → i < size g j → k < size g j
      → 0 < at x (first_index g j + i)
      → Q x i ≤ Q x k + 2 * eta
  nearly_best x m i k li lk h =
      let y = label-there x m i li h in
      omega (
        arith,
        loss_change G j b x y.0 (N.on_grid x m) (N.on_grid y.0 y.1) (N.near x y.0 m y.1) i li,
        loss_change G j b y.0 x (N.on_grid y.0 y.1) (N.on_grid x m) (N.near y.0 x y.1 m) k lk,
        best_there y.0 i k li lk y.2,
      )

  gains : (x : Point) → is_in same_point x s ≡ true → (k : ℕ) → k < size g j
      → GainsAtMost g losses x (first_index g j + k) (allowance g range j)
  gains x m k l =
      let d : ℕ = division g j in
      let qs : List ℕ = strategy_losses g x j (losses_of g losses j) in
      let lq : length qs ≡ size g j = length-weighed (size g j) _ _ in
      let w : dot (mix g x j) qs ≤ sum (mix g x j) * (Q x k + 2 * eta) = weighed-below (Q x k + 2 * eta) (mix g x j) qs
      (block-length g x j ∙ sym lq)
      (λ i c h.
      let c' : i < size g j = omega arith in
      nearly_best x m i k c' l (omega (arith, mix-at g x j i c'))) in
      let v : dot (mix g x j) qs ≤ d * (Q x k + 2 * eta) = rw (mix-sum g x (N.on_grid x m) j b) at w in
      let e : range * (d * change (division g) (λ l. size g l / 2) (opponents g j))
      ≡ range * (all_shares g - share g j) =
      ap (λ (n : ℕ). range * n) (shares g G.same_number G.divisions j b ∙ sym (others_shares g j b)) in
      omega (arith, expected x k l, replaced-is g losses x j k l)

  -- by index
  at-index : (k : ℕ) → is_in eqb k (indices_of g j) ≡ true → (i : ℕ) × (i < size g j) × (first_index g j + i ≡ k)
  at-index k m =
      let r = up_from_in (first_index g j) (size g j) k m in
      (k - first_index g j, omega (arith, r.0, r.1), omega (arith, r.0))

  named-gains : (x : Point) → is_in same_point x s ≡ true → (k : ℕ) → is_in eqb k (indices_of g j) ≡ true
      → GainsAtMost g losses x k (allowance g range j)
  named-gains x m k n = let i = at-index k n in rw i.2 at (gains x m i.0 i.1)

  -- where the label is of the block, no index of the grid gains more
  all_gain : (x : Point) → is_in same_point x s ≡ true → LabelOfBlock g losses x j → (k : ℕ) → k < num_indices g
      → GainsAtMost g losses x k (allowance g range j)
  all_gain x m h k l = omega (
    arith,
    label_largest g losses x h.0 h.2 k l,
    named-gains x m h.0 h.1,
  )

  labelled-point : 1 ≤ length s → (x : Point) × (is_in same_point x s ≡ true) × LabelOfBlock g losses x j
  labelled-point some =
      let x : Point = nth s 0 in
      let m : is_in same_point x s ≡ true = at_in on_points [] s 0 some in
      let i = some-positive (mix g x j)
      (omega (arith, mix-sum g x (N.on_grid x m) j b, division-some g G.same_number G.divisions j b)) in
      let l : i.0 < size g j = omega (arith, i.1, block-length g x j) in
      let y = label-there x m i.0 l (omega (arith, i.2, mix-at g x j i.0 l)) in
      let k : ℕ = first_index g j + i.0 in
      (y.0, y.1, (k, in_up_from (first_index g j) (size g j) k (omega arith) (omega arith), y.2))

  -- from there to another point
  widely : 1 ≤ length s → (x : Point) → is_in same_point x s ≡ true → (k : ℕ) → k < num_indices g
      → GainsAtMost g losses x k (wide_allowance g range j (block_of g k))
  widely some x m k l =
      let y = labelled-point some in
      let r = block_spans g.sizes k l in
      let i : ℕ = block_of g k in
      let e : first_index g i + (k - first_index g i) ≡ k = omega (arith, r.1) in
      let q : replaced_loss g losses y.0 k
      ≤ replaced_loss g losses x k + range * sum (map (share g) (opponents g i)) =
      rw e at (replaced-change G i r.0 y.0 x (N.on_grid y.0 y.1) (N.on_grid x m) (N.near y.0 x y.1 m)
      (k - first_index g i) (omega (arith, r.1, r.2))) in
      -- 2 R (W - w_j) and R W and R (W - w_i)
      let t : 2 * range * (all_shares g - share g j) + (range * all_shares g + range * (all_shares g - share g i))
      ≡ wide_allowance g range j i =
      together range (all_shares g) (share g j) (share g i) _ _ (sum-own g (share g) j b) (sum-own g (share g) i r.0) in
      omega (
        arith,
        all_gain y.0 y.1 y.2 k l,
        expected_change G i r.0 x y.0 (N.on_grid x m) (N.on_grid y.0 y.1) (N.near x y.0 m y.1),
        ap (λ (n : ℕ). range * n) (others_shares g i r.0),
      )

  pub accurate : 1 ≤ length s → Accurate g losses range s j
  accurate some = record {
    named = named-gains;
    everyone = all_gain;
    exists = labelled-point some;
    wide = widely some;
  }

pub every_complete_set : EveryCompleteSet
every_complete_set g losses low range G s some I j b complete = accurate G s (near-points I) j b complete some
