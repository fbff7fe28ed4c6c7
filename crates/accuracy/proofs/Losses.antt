-- The loss of a strategy of player j against the opponents' mixes, at two near points. Assumes nothing.
use mathlib.Core.Bool.{true}
use mathlib.Core.List.{List, map}
use mathlib.Core.Logic.{⊎_elim}
use mathlib.Core.Path.{◌≡◌, sym, ap, ◌∙◌}
use Prim.Native.Nat.{ℕ, ◌+◌, ◌-◌, ◌*◌, ◌/◌, ◌≤◌, ◌<◌}
use borrow.Author.Tests.{eqb-true}
use lib.Dec.{eqb}
use lib.ListN.{length, get_or, drop, length-drop}
use lib.Seq.{length-take-le}
use native.Mathlib.Nat.{le-div_iff_mul-le, mul-le-mul_left}
use native.Mathlib.Omega.{arith}
use Rattle.accuracy.proofs.Changes.{Moved, change, weights-change}
use Rattle.accuracy.proofs.Moves.{raised, raised_half}
use Rattle.accuracy.proofs.Shares.{all_shares_lem, opponent_below, shares}
use Rattle.accuracy.proofs.Near.{Near}
use Rattle.accuracy.specs.Accuracy.{IsGame, losses_within, share}
use Rattle.combinatorics.proofs.Agreement.{all_drop, all_take}
use Rattle.combinatorics.proofs.Basics.{and_right}
use Rattle.combinatorics.proofs.Lists.{all_in, in_cases, on_numbers, row_room}
use Rattle.combinatorics.proofs.Ranges.{in_up_from}
use Rattle.combinatorics.proofs.Turns.{map_at}
use Rattle.combinatorics.specs.Lists.{sum}
use Rattle.grid_points.proofs.Round.{block-fits}
use Rattle.grid_points.specs.Grid.{Grid, Point, at, blocks, division, first_index, is_grid_point, num_blocks, num_indices}
use Rattle.grid_points.specs.Grid.{size}
use Rattle.game_losses.proofs.Players.{product-own}
use Rattle.game_losses.proofs.Replaced.{expected_weights, mix_lengths, replaced-is}
use Rattle.game_losses.proofs.Weights.{length-weights, weighed-at}
use Rattle.game_losses.specs.Game.{dot, expected_loss, losses_of, mix, opponents, own_first, product}
use Rattle.game_losses.specs.Game.{replaced_loss}
use Rattle.game_losses.specs.Weights.{strategy_losses, weights}
use Rattle.points_in_order.proofs.Blocks.{block-length}

-- "those of block j add up to d_j"
pub mix-sum : (g : Grid) (y : Point) → is_grid_point g y ≡ true → (j : ℕ) → j < num_blocks g
    → sum (mix g y j) ≡ division g j
unfolding is_grid_point
mix-sum g y h j l = eqb-true _ _
    (all_in on_numbers (λ i. eqb (sum (mix g y i)) (division g i)) (blocks g)
    (and_right (eqb (length y) (num_indices g)) _ h) j (in_up_from 0 (num_blocks g) j (omega arith) (omega arith)))

pub mix-at : (g : Grid) (y : Point) (j i : ℕ) → i < size g j → get_or (mix g y j) i 0 ≡ at y (first_index g j + i)
mix-at g y j i l = map_at (at y) (first_index g j) (size g j) i l

-- between near points at most half of a player's strategies are raised, by 1 each
pub mix-moved : (g : Grid) (x y : Point) → is_grid_point g x ≡ true → is_grid_point g y ≡ true → Near g x y → (l : ℕ)
    → l < num_blocks g
    → Moved (division g l) (size g l / 2) (mix g x l) (mix g y l)
mix-moved g x y hx hy n l b =
    let lx : length (mix g x l) ≡ size g l = block-length g x l in
    let ly : length (mix g y l) ≡ size g l = block-length g y l in
    let sx = mix-sum g x hx l b in
    let sy = mix-sum g y hy l b in
    let half : 2 * raised (mix g x l) (mix g y l) ≤ length (mix g x l) = raised_half (mix g x l) (mix g y l)
    (omega arith) (sx ∙ sym sy) (λ i c.
    let c' : i < size g l = omega arith in
    rw (mix-at g x l i c', mix-at g y l i c') (n (first_index g l + i) (omega (arith, block-fits g.sizes l)))) in
    record {
      numbers = omega arith;
      before = sx;
      after = sy;
      few = (le-div_iff_mul-le {k = 2} {x = raised (mix g x l) (mix g y l)} {y = size g l} (omega arith)).1
          (omega arith);
    }

module _ {g : Grid} {losses : List ℕ} {low range : ℕ} (G : IsGame g losses low range) (j : ℕ) (h : j < num_blocks g)
  where
    -- the losses of player j
    own-within : losses_within low range (losses_of g losses j) ≡ true
    own-within = all_take _ (product g.sizes) (drop (j * product g.sizes) losses)
        (all_drop _ (j * product g.sizes) losses G.within)

    own-length : length (losses_of g losses j) ≡ product g.sizes
    own-length = length-take-le (product g.sizes) (drop (j * product g.sizes) losses)
        (omega (
          arith,
          length-drop (j * product g.sizes) losses,
          G.whole,
          row_room j (num_blocks g) (product g.sizes) (num_blocks g * product g.sizes) h (omega arith),
        ))

    -- the profiles of the opponents
    own-rows : length (losses_of g losses j) ≡ size g j * product (map (size g) (opponents g j))
    own-rows = own-length ∙ product-own g.sizes j h

    -- the loss of the i-th strategy against the opponents' mixes at x, times the divisions of the opponents
    abbrev pub strategy_loss : Point → ℕ → ℕ
    strategy_loss x i = get_or (strategy_losses g x j (losses_of g losses j)) i 0

    pub loss_change : (x y : Point) → is_grid_point g x ≡ true → is_grid_point g y ≡ true → Near g x y → (i : ℕ)
        → i < size g j
        → strategy_loss x i ≤ strategy_loss y i + range * change (division g) (λ l. size g l / 2) (opponents g j)
    loss_change x y hx hy n i l =
        let t : List ℕ = losses_of g losses j in
        let ls : List ℕ = opponents g j in
        let m : ℕ = product (map (size g) ls) in
        let wx : List ℕ = weights (map (mix g x) ls) in
        let wy : List ℕ = weights (map (mix g y) ls) in
        let px : product (map length (map (mix g x) ls)) ≡ m = ap product (sym (mix_lengths g x ls)) in
        let lx : length wx ≡ m = length-weights (map (mix g x) ls) ∙ px in
        let ly : length wy ≡ m =
        length-weights (map (mix g y) ls) ∙ ap product (sym (mix_lengths g y ls)) in
        let qx : strategy_loss x i ≡ dot wx (drop (i * m) t) = weighed-at (size g j) i wx t l ∙ rw lx in
        let qy : strategy_loss y i ≡ dot wy (drop (i * m) t) = weighed-at (size g j) i wy t l ∙ rw ly in
        let room = row_room i (size g j) m (length t) l (omega (arith, own-rows)) in
        let c = weights-change low range (division g) (λ l. size g l / 2) (mix g x) (mix g y) ls (drop (i * m) t)
        (λ i m. mix-moved g x y hx hy n i (opponent_below g j i m))
        (all_drop _ (i * m) t own-within) (omega (arith, length-drop (i * m) t)) in
        omega arith

    -- p_j
    pub expected_change : (x y : Point) → is_grid_point g x ≡ true → is_grid_point g y ≡ true → Near g x y
        → expected_loss g losses x j ≤ expected_loss g losses y j + range * sum (map (share g) (blocks g))
    expected_change x y hx hy n =
        let t : List ℕ = losses_of g losses j in
        let ls : List ℕ = own_first g j in
        let c = weights-change low range (division g) (λ l. size g l / 2) (mix g x) (mix g y) ls t
        (λ i m. mix-moved g x y hx hy n i (⊎_elim
        (λ e. rw e h)
        (λ o. opponent_below g j i o)
        (in_cases on_numbers i j (opponents g j) m)))
        own-within (omega (arith, own-rows, ap product (mix_lengths g x ls))) in
        let e : change (division g) (λ l. size g l / 2) ls ≡ sum (map (share g) (blocks g)) =
        all_shares_lem g G.same_number G.divisions j h in
        omega (arith, expected_weights g losses x j, expected_weights g losses y j, ap (λ (n : ℕ). range * n) e)

    -- q_k, k the i-th index of block j
    pub replaced-change : (x y : Point) → is_grid_point g x ≡ true → is_grid_point g y ≡ true → Near g x y → (i : ℕ)
        → i < size g j
        → replaced_loss g losses x (first_index g j + i)
        ≤ replaced_loss g losses y (first_index g j + i) + range * sum (map (share g) (opponents g j))
    replaced-change x y hx hy n i l =
        let m : division g j * strategy_loss x i
        ≤ division g j * (strategy_loss y i + range * change (division g) (λ l. size g l / 2) (opponents g j)) =
        mul-le-mul_left (division g j) (loss_change x y hx hy n i l) in
        let e : range * (division g j * change (division g) (λ l. size g l / 2) (opponents g j))
        ≡ range * sum (map (share g) (opponents g j)) =
        ap (λ (n : ℕ). range * n) (shares g G.same_number G.divisions j h) in
        omega (arith, replaced-is g losses x j i l, replaced-is g losses y j i l)
