-- The expected loss and the replaced losses of a player, out of the losses of the player's strategies. Assumes nothing.
use mathlib.Core.Bool.{not, cond}
use mathlib.Core.List.{List, [], ◌∷◌, map}
use mathlib.Core.Path.{◌≡◌, refl, sym, ap, ◌∙◌, subst}
use Prim.Native.Nat.{ℕ, zero, suc, ◌+◌, ◌*◌, ◌<◌}
use borrow.Author.Tests.{ne_eqb, eqb-false, not-true}
use lib.Dec.{eqb}
use lib.ListN.{length, get_or, replicate}
use native.Mathlib.Omega.{arith}
use Rattle.combinatorics.proofs.Agreement.{map-agree, map_range}
use Rattle.combinatorics.proofs.Lists.{in_all, filter_in, eqb_self, on_numbers}
use Rattle.combinatorics.proofs.Turns.{map_at}
use Rattle.combinatorics.specs.Lists.{up_from}
use Rattle.grid_points.proofs.Round.{block_at, block-fits}
use Rattle.grid_points.specs.Grid.{Grid, Point, at, num_indices, division, size, first_index, block_of, blocks, indices_of}
use Rattle.points_in_order.proofs.Blocks.{block-length}
use Rattle.game_losses.proofs.Weights.{dot-spread, length-weighed, chances}
use Rattle.game_losses.specs.Game.{dot, profiles, chance, mix, opponents, own_first, losses_of, expected_loss}
use Rattle.game_losses.specs.Game.{replaced}
use Rattle.game_losses.specs.Game.{replaced_loss, player_loss}
use Rattle.game_losses.specs.Weights.{weighed, weights, strategy_losses}

-- a mix that is d at one strategy picks its loss
none_picked : (d h b n : ℕ) (t : List ℕ) → h < b → dot (map (λ i. cond (eqb i h) d 0) (up_from b n)) t ≡ 0
none_picked d h b zero t l = refl
none_picked d h b (suc n) [] l = refl
none_picked d h b (suc n) (x ∷ t) l =
    rw (ne_eqb b h (λ e. omega arith)) (omega (arith, none_picked d h (suc b) n t (omega arith)))

picked : (d b n k : ℕ) (t : List ℕ) → k < n → dot (map (λ i. cond (eqb i (b + k)) d 0) (up_from b n)) t ≡ d * get_or t k 0
picked d b zero k t l = absurd (omega arith)
picked d b (suc n) k [] l = omega arith
picked d b (suc n) zero (x ∷ t) l =
    let z : b + 0 ≡ b = omega arith in
    subst (λ (e : ℕ). dot (map (λ i. cond (eqb i e) d 0) (up_from b (suc n))) (x ∷ t) ≡ d * x) (sym z)
    (rw (eqb_self b) (omega (arith, none_picked d b (suc b) n t (omega arith))))
picked d b (suc n) (suc k) (x ∷ t) l =
    let z : b + suc k ≡ suc b + k = omega arith in
    subst (λ (e : ℕ). dot (map (λ i. cond (eqb i e) d 0) (up_from b (suc n))) (x ∷ t) ≡ d * get_or t k 0) (sym z)
    (rw (ne_eqb b (suc b + k) (λ e. omega arith)) (omega (arith, picked d (suc b) n k t (omega arith))))

pub mix_lengths : (g : Grid) (y : Point) (l : List ℕ) → map (size g) l ≡ map length (map (mix g y) l)
mix_lengths g y [] = refl
mix_lengths g y (i ∷ l) = rw (block-length g y i, mix_lengths g y l)

module _ (g : Grid) (losses : List ℕ) where
  pub expected_weights : (y : Point) (j : ℕ)
      → expected_loss g losses y j ≡ dot (weights (map (mix g y) (own_first g j))) (losses_of g losses j)
  unfolding expected_loss
  expected_weights y j =
      let mixes : List (List ℕ) = map (mix g y) (own_first g j) in
      ap
      (λ (ss : List ℕ). dot (map (chance mixes) (profiles ss)) (losses_of g losses j))
      (mix_lengths g y (own_first g j))
      ∙ ap (λ (w : List ℕ). dot w (losses_of g losses j)) (chances mixes)

  pub expected_is : (y : Point) (j : ℕ)
      → expected_loss g losses y j ≡ dot (mix g y j) (strategy_losses g y j (losses_of g losses j))
  expected_is y j =
      let others : List ℕ = weights (map (mix g y) (opponents g j)) in
      expected_weights y j
      ∙ dot-spread (mix g y j) others (losses_of g losses j)
      ∙ ap (λ (n : ℕ). dot (mix g y j) (weighed n others (losses_of g losses j))) (block-length g y j)

  module _ (y : Point) (j k : ℕ) (h : k < size g j) where
    abbrev own : ℕ
    own = first_index g j + k

    -- the coordinate at the place t of block i
    replaced-at : (i t : ℕ) → t < size g i
        → at (replaced g y own) (first_index g i + t)
        ≡ cond (eqb i j) (cond (eqb (first_index g i + t) own) (division g j) 0) (at y (first_index g i + t))
    unfolding replaced
    replaced-at i t l = map_at _ 0 (num_indices g) (first_index g i + t) (omega (arith, block-fits g.sizes i))
        ∙ (let z : 0 + (first_index g i + t) ≡ first_index g i + t = omega arith in
        rw (z, block_at g.sizes i t l, block_at g.sizes j k h))

    own-mix : mix g (replaced g y own) j ≡ map (λ i. cond (eqb i own) (division g j) 0) (indices_of g j)
    own-mix = map_range _ _ (first_index g j) (size g j) (λ t l. replaced-at j t l ∙ rw (eqb_self j))

    other-mix : (i : ℕ) → (i ≡ j → ⊥) → mix g (replaced g y own) i ≡ mix g y i
    other-mix i n = map_range _ _ (first_index g i) (size g i) (λ t l. replaced-at i t l ∙ rw (ne_eqb i j n))

    others_agree : map (mix g (replaced g y own)) (opponents g j) ≡ map (mix g y) (opponents g j)
    others_agree =
        map-agree (λ i. not (eqb i j)) (mix g (replaced g y own)) (mix g y) (opponents g j)
        (in_all on_numbers _ (opponents g j) (λ i m. (filter_in on_numbers (λ i. not (eqb i j)) i (blocks g) m).1))
        (λ i b. other-mix i (eqb-false i j (not-true (eqb i j) b)))

    pub replaced-is : replaced_loss g losses y own ≡ division g j * get_or (strategy_losses g y j (losses_of g losses j)) k 0
    replaced-is =
        let b : block_of g own ≡ j = block_at g.sizes j k h in
        ap (λ (i : ℕ). expected_loss g losses (replaced g y own) i) b
        ∙ expected_is (replaced g y own) j
        ∙ rw (others_agree, own-mix)
        (picked (division g j) (first_index g j) (size g j) k (strategy_losses g y j (losses_of g losses j)) h)

  -- at the indices of a block: the same expected loss, and d_j times the losses of the strategies
  const_range : (f : ℕ → ℕ) (v b n : ℕ) → ((k : ℕ) → k < n → f (b + k) ≡ v) → map f (up_from b n) ≡ replicate n v
  const_range f v b zero h = refl
  const_range f v b (suc n) h =
      let z : b + 0 ≡ b = omega arith in
      let here : f b ≡ v = rw z at (h 0 (omega arith)) in
      rw (
        here,
        const_range f v (suc b) n
            (λ k l. let s : b + suc k ≡ suc b + k = omega arith in rw s at (h (suc k) (omega arith))),
      )

  times-range : (f : ℕ → ℕ) (d b : ℕ) (t : List ℕ) → ((k : ℕ) → k < length t → f (b + k) ≡ d * get_or t k 0)
      → map f (up_from b (length t)) ≡ map (λ v. d * v) t
  times-range f d b [] h = refl
  times-range f d b (x ∷ t) h =
      let z : b + 0 ≡ b = omega arith in
      let here : f b ≡ d * x = rw z at (h 0 (omega arith)) in
      rw (
        here,
        times-range f d (suc b) t
            (λ k l. let s : b + suc k ≡ suc b + k = omega arith in rw s at (h (suc k) (omega arith))),
      )

  pub block_expected : (y : Point) (j : ℕ)
      → map (player_loss g losses y) (indices_of g j)
      ≡ replicate (size g j) (dot (mix g y j) (strategy_losses g y j (losses_of g losses j)))
  block_expected y j = const_range _ _ (first_index g j) (size g j)
      (λ k l. ap (λ (i : ℕ). expected_loss g losses y i) (block_at g.sizes j k l) ∙ expected_is y j)

  pub block-replaced : (y : Point) (j : ℕ)
      → map (replaced_loss g losses y) (indices_of g j)
      ≡ map (λ v. division g j * v) (strategy_losses g y j (losses_of g losses j))
  block-replaced y j =
      let t : List ℕ = strategy_losses g y j (losses_of g losses j) in
      let n : length t ≡ size g j = length-weighed (size g j) _ _ in
      subst (λ (m : ℕ). map (replaced_loss g losses y) (up_from (first_index g j) m) ≡ map (λ v. division g j * v) t) n
      (times-range (replaced_loss g losses y) (division g j) (first_index g j) t (λ k l. replaced-is y j k (omega arith)))
