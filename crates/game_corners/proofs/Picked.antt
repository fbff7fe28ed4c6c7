-- The losses that are picked from the last level are those of the strategies at a corner. Assumes nothing.
use mathlib.Core.Bool.{cond}
use mathlib.Core.List.{List}
use mathlib.Core.Logic.{⊎_elim}
use mathlib.Core.Path.{◌≡◌, sym, ap, ◌∙◌}
use Prim.Native.Nat.{ℕ, suc, ◌+◌, ◌*◌, ◌≤◌, ◌<◌}
use borrow.Author.Tests.{eq-eqb, ne_eqb}
use lib.Dec.{eqb}
use lib.ListN.{get_or, length, take}
use lib.Seq.{take_at}
use native.Mathlib.Omega.{arith}
use Rattle.combinatorics.proofs.Basics.{same_or}
use Rattle.grid_points.proofs.Round.{block_at, block-fits}
use Rattle.grid_points.specs.Grid.{Grid, Point, at, num_blocks, num_indices, size, first_index, block_of}
use Rattle.game_weighed.proofs.Levels.{behind-next, behind-none, levelled-own, levelled-other, levelled-kept}
use Rattle.game_weighed.proofs.Levels.{strategy_levelled}
use Rattle.game_weighed.specs.Levels.{behind, levelled, place, Owners, StandTo}
use Rattle.game_losses.specs.AtPoint.{StrategiesStand}
use Rattle.game_losses.specs.Game.{losses_of}
use Rattle.game_losses.specs.Weights.{strategy_losses}
use Rattle.game_corners.proofs.Blends.{blend-unit}
use Rattle.game_corners.proofs.CornerLosses.{outer_length, corner-last}
use Rattle.game_corners.specs.Corners.{last_player, num_corners, unit_vector, corner, picked_at}

module _ (g : Grid) (some : 1 ≤ num_blocks g) (y : Point) (whole : length y ≡ num_indices g) (k : ℕ)
    (inside : k < num_corners g) (owners losses levels : List ℕ) (owned : Owners g owners)
    (stand : StandTo g losses y (last_player g) levels) where
  abbrev last : ℕ
  last = last_player g

  abbrev z : Point
  z = corner g y k

  -- the corner has the mixes before the last player's
  same-before : take (first_index g last) z ≡ take (first_index g last) y
  same-before =
      take_at (take (first_index g last) y) (unit_vector (size g last) k) (first_index g last)
      (outer_length g some y whole)

  -- the table of strategy i of player j
  module _ (j i : ℕ) (b : j < num_blocks g) (c : i < size g j) where
    abbrev h : ℕ
    h = first_index g j + i

    low : h < num_indices g
    low = omega (arith, block-fits g.sizes j)

    owner : block_of g h ≡ j
    owner = block_at g.sizes j i c

    behind-last : behind g (block_of g h) (suc last) ≡ 1
    behind-last = behind-none g (block_of g h) (suc last) (omega arith)

    -- number e of the last level
    number : (e : ℕ) → e < behind g (block_of g h) last → levelled g losses z h last e ≡ at levels (place last h + e)
    number e d = levelled-kept g losses h z y last e same-before ∙ sym (stand last (omega arith) h e low d)

    own : j ≡ last → levelled g losses z h (suc last) 0 ≡ at levels (place last h + cond (eqb j last) 0 k)
    own s =
        let o : last ≡ block_of g h = sym (owner ∙ s) in
        let left : behind g (block_of g h) last ≡ 1 =
        behind-next g (block_of g h) last (omega arith) ∙ rw (eq-eqb last (block_of g h) o, behind-last) (omega arith) in
        rw (eq-eqb j last s) (levelled-own g losses h z last 0 (omega arith) o ∙ number 0 (omega arith))

    other : (j ≡ last → ⊥) → levelled g losses z h (suc last) 0 ≡ at levels (place last h + cond (eqb j last) 0 k)
    other n =
        let o : last ≡ block_of g h → ⊥ = λ s. n (sym (s ∙ owner)) in
        let left : behind g (block_of g h) last ≡ size g last * 1 =
        behind-next g (block_of g h) last (omega arith) ∙ rw (ne_eqb last (block_of g h) o, behind-last) in
        let e : k * behind g (block_of g h) (suc last) + 0 ≡ k = rw behind-last (omega arith) in
        rw (ne_eqb j last n)
        (levelled-other g losses h z last 0 (omega arith) o
        ∙ rw (corner-last g some y whole k) (blend-unit (size g last) k _ inside)
        ∙ ap (levelled g losses z h last) e
        ∙ number k (omega (arith, left)))

    pub picked_loss : picked_at owners levels last k h ≡ get_or (strategy_losses g z j (losses_of g losses j)) i 0
    picked_loss =
        let n : suc last ≡ num_blocks g = omega arith in
        let o : at owners h ≡ j = owned h low ∙ owner in
        ap (λ (t : ℕ). at levels (place last h + cond (eqb t last) 0 k)) o
        ∙ sym
        (strategy_levelled g losses z j i b c
        ∙ ap (λ (l : ℕ). levelled g losses z h l 0) (sym n)
        ∙ ⊎_elim own other (same_or j last))

  pub picked_stand : (values : List ℕ) → ((h : ℕ) → h < num_indices g → at values h ≡ picked_at owners levels last k h)
      → StrategiesStand g losses z values
  picked_stand values v j i b c = v (first_index g j + i) (low j i b c) ∙ picked_loss j i b c
