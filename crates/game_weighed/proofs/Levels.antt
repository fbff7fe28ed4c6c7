-- The tables of a level, out of those of the level before; that their numbers are few and fit; and that the losses of
-- the strategies stand behind the last level. Assumes nothing.
use mathlib.Core.Bool.{true, not}
use mathlib.Core.List.{List, [], ◌∷◌, ◌++◌, map, append-nil}
use mathlib.Core.Logic.{⊎_elim}
use mathlib.Core.Path.{◌≡◌, refl, sym, ap, ◌∙◌}
use Prim.Native.Nat.{ℕ, zero, suc, ◌+◌, ◌-◌, ◌*◌, ◌≤◌, ◌<◌}
use borrow.Author.Tests.{eq-eqb, ne_eqb, leb-true}
use lib.Dec.{eqb, leb}
use lib.ListN.{length, get_or, take, drop, drop_of_length-le, get_or-eq_default}
use lib.Seq.{drop-cons, get_or-take, get_or-drop}
use native.Mathlib.Nat.{mul-le-mul, mul-le-mul_left, mul-le-mul_right}
use native.Mathlib.Numerals.{add-one}
use native.Mathlib.Omega.{arith}
use Rattle.combinatorics.proofs.Agreement.{map_range, all_drop}
use Rattle.combinatorics.proofs.Basics.{true_or_false, and_right, before_or_not}
use Rattle.combinatorics.proofs.Lists.{at_all, sums_rise}
use Rattle.combinatorics.proofs.Turns.{map-append, up_from-next}
use Rattle.combinatorics.specs.Lists.{all, filter, sum, up_from}
use Rattle.grid_points.proofs.Accepted.{Accepted, size-two}
use Rattle.grid_points.proofs.Round.{block_at}
use Rattle.grid_points.specs.Grid.{Grid, Point, at, num_blocks, size, division, first_index, block_of, is_grid_point, lent}
use Rattle.points_in_order.proofs.Blocks.{block-sum, block-length}
use Rattle.game_losses.proofs.Players.{product-own, product-positive, divisions-few}
use Rattle.game_losses.proofs.Replaced.{mix_lengths}
use Rattle.game_losses.proofs.Table.{product-few, part_few}
use Rattle.game_losses.proofs.Weights.{length-weights, sum-weights, weighed-at}
use Rattle.game_losses.specs.Game.{product, mix, opponents, losses_of}
use Rattle.game_losses.specs.Table.{in_range}
use Rattle.game_losses.specs.Weights.{spread, weights, strategy_losses}
use Rattle.game_weighed.proofs.Blends.{blend-agree, blend-bound, blend_exchange, blend-behind, blend_one}
use Rattle.game_weighed.proofs.Blends.{dot-blend}
use Rattle.game_weighed.specs.Levels.{blend, size_against, mix_against, behind, losses_begin, levelled, Stand}
use Rattle.game_weighed.specs.Levels.{StandTo}

-- points that agree before block l have the same mixes there
mix-kept : (g : Grid) (y z : Point) (l : ℕ) → take (first_index g l) y ≡ take (first_index g l) z → (i : ℕ) → i < l
    → mix g y i ≡ mix g z i
mix-kept g y z l e i h = map_range _ _ (first_index g i) (size g i) (λ t m.
    let low : first_index g i + t < first_index g l = omega (arith, sums_rise g.sizes i l h) in
    sym (get_or-take (first_index g l) y (first_index g i + t) 0 low)
    ∙ ap (λ (p : Point). at p (first_index g i + t)) e
    ∙ get_or-take (first_index g l) z (first_index g i + t) 0 low)

module _ (g : Grid) (j : ℕ) where
  pub against_other : (i : ℕ) → (i ≡ j → ⊥) → size_against g j i ≡ size g i
  against_other i n = rw (ne_eqb i j n)

  pub behind-next : (l : ℕ) → l < num_blocks g → behind g j l ≡ size_against g j l * behind g j (suc l)
  unfolding behind
  behind-next l h = let z : num_blocks g - l ≡ suc (num_blocks g - suc l) = omega arith in rw z

  pub behind-none : (l : ℕ) → num_blocks g ≤ l → behind g j l ≡ 1
  unfolding behind
  behind-none l h = let z : num_blocks g - l ≡ 0 = omega arith in rw z

  -- the own block counts for nothing
  sizes_against : (l : List ℕ)
      → product (map (size_against g j) l) ≡ product (map (size g) (filter (λ i. not (eqb i j)) l))
  sizes_against [] = refl
  sizes_against (i ∷ l) = ⊎_elim
      (λ e. rw e (rw (sizes_against l) (omega arith)))
      (λ e. rw e (rw (sizes_against l)))
      (true_or_false (eqb i j))

  weights_against : (y : Point) (l : List ℕ)
      → weights (map (mix_against g y j) l) ≡ weights (map (mix g y) (filter (λ i. not (eqb i j)) l))
  weights_against y [] = refl
  weights_against y (i ∷ l) = ⊎_elim
      (λ e. rw e (one-first _ ∙ weights_against y l))
      (λ e. rw e (rw (weights_against y l)))
      (true_or_false (eqb i j))
    where
      once : (u : List ℕ) → map (λ x. 1 * x) u ≡ u
      once [] = refl
      once (x ∷ u) = let z : 1 * x ≡ x = omega arith in rw (z, once u)

      one-first : (u : List ℕ) → spread (1 ∷ []) u ≡ u
      one-first u = append-nil (map (λ x. 1 * x) u) ∙ once u

  pub behind-opponents : behind g j 0 ≡ product (map (size g) (opponents g j))
  unfolding behind
  behind-opponents =
      let z : num_blocks g - 0 ≡ num_blocks g = omega arith in
      rw z (sizes_against (up_from 0 (num_blocks g)))

  pub own_behind : j < num_blocks g → product g.sizes ≡ size g j * behind g j 0
  own_behind h = rw behind-opponents (product-own g.sizes j h)

  -- no table has more than 162 numbers
  pub behind-few : Accepted g → j < num_blocks g → (l : ℕ) → behind g j l ≤ 162
  behind-few a h zero =
      let two = (size-two g a j h).0 in
      omega (arith, own_behind h, product-few g.sizes a.few_indices, mul-le-mul_right (behind g j 0) two)
  behind-few a h (suc l) = ⊎_elim (before (behind-few a h l))
      (λ (b : num_blocks g ≤ l). rw (behind-none (suc l) (omega arith)) (omega arith))
      (before_or_not l (num_blocks g))
    where
      some : l < num_blocks g → 1 ≤ size_against g j l
      some b =
          ⊎_elim (λ e. rw e (omega arith)) (λ e. rw e (omega (arith, (size-two g a l b).0))) (true_or_false (eqb l j))

      before : behind g j l ≤ 162 → l < num_blocks g → behind g j (suc l) ≤ 162
      before few b = omega (arith, behind-next l b, mul-le-mul_right (behind g j (suc l)) (some b))

  -- one block more, from the first on
  pub behind_turn : (l : ℕ) → l < num_blocks g → (l ≡ j → ⊥) → behind g j l ≡ size g l * behind g j (l + 1)
  behind_turn l h n = rw (add-one, ← against_other l n) (behind-next l h)

  pub behind_skip : (l : ℕ) → l < num_blocks g → l ≡ j → behind g j l ≡ behind g j (l + 1)
  behind_skip l h e = behind-next l h ∙ rw (add-one, eq-eqb l j e) (omega arith)

  -- and for players that are none: at most the product of the sizes
  behind-product : all (λ s. leb 2 s) g.sizes ≡ true → (l n : ℕ) → l + n ≡ num_blocks g
      → product (map (size_against g j) (up_from l n)) ≤ product (drop l g.sizes)
  behind-product two l zero e = rw (drop_of_length-le g.sizes {i = l} (omega arith)) (omega arith)
  behind-product two l (suc n) e = rw (drop-cons g.sizes l 0 (omega arith))
      (mul-le-mul {n₁ = size_against g j l}
      (⊎_elim
      (λ s. rw s (omega (arith, leb-true 2 (size g l) (at_all (λ s. leb 2 s) g.sizes l two (omega arith)))))
      (λ s. rw s (omega arith))
      (true_or_false (eqb l j)))
      (behind-product two (suc l) n (omega arith)))

  pub behind-low : all (λ s. leb 2 s) g.sizes ≡ true → sum g.sizes ≤ 16 → (l : ℕ) → behind g j l ≤ 324
  unfolding behind
  behind-low two few l = ⊎_elim
      (λ (b : l < num_blocks g).
      omega (arith, behind-product two l (num_blocks g - l) (omega arith), part_few g.sizes l few))
      (λ (b : num_blocks g ≤ l). let z : num_blocks g - l ≡ 0 = omega arith in rw z (omega arith))
      (before_or_not l (num_blocks g))

  some-behind : all (λ s. leb 2 s) g.sizes ≡ true → (l n : ℕ) → l + n ≡ num_blocks g
      → 1 ≤ product (map (size_against g j) (up_from l n))
  some-behind two l zero e = omega arith
  some-behind two l (suc n) e =
      let own : 1 ≤ size_against g j l = ⊎_elim
      (λ s. rw s (omega arith))
      (λ s. rw s (omega (arith, leb-true 2 (size g l) (at_all (λ s. leb 2 s) g.sizes l two (omega arith)))))
      (true_or_false (eqb l j)) in
      let later : 1 ≤ product (map (size_against g j) (up_from (suc l) n)) = some-behind two (suc l) n (omega arith) in
      omega (arith, mul-le-mul {n₁ = 1} own later)

  pub behind-some : all (λ s. leb 2 s) g.sizes ≡ true → (l : ℕ) → 1 ≤ behind g j l
  unfolding behind
  behind-some two l = ⊎_elim
      (λ (b : l < num_blocks g). some-behind two l (num_blocks g - l) (omega arith))
      (λ (b : num_blocks g ≤ l). let z : num_blocks g - l ≡ 0 = omega arith in rw z (omega arith))
      (before_or_not l (num_blocks g))

  -- what is counted from block f on, before what is left is counted
  pub counted-low : all (λ s. leb 2 s) g.sizes ≡ true → sum g.sizes ≤ 16 → (f count l : ℕ) → l < num_blocks g
      → (l ≡ j → ⊥) → count * behind g j l ≡ behind g j f
      → count * size g l ≤ 324
  counted-low two few f count l h n e =
      let whole = rw (behind_turn l h n) at e in
      omega (arith, behind-low two few f, mul-le-mul_left (count * size g l) (behind-some two (l + 1)))

  pub mix_against-length : (y : Point) (i : ℕ) → length (mix_against g y j i) ≡ size_against g j i
  mix_against-length y i = ⊎_elim (λ e. rw e) (λ e. rw e (block-length g y i)) (true_or_false (eqb i j))

pub begin_is : (g : Grid) (h : ℕ)
    → losses_begin g h ≡ block_of g h * product g.sizes + (h - first_index g (block_of g h)) * behind g (block_of g h) 0
unfolding losses_begin
begin_is g h = refl

-- the numbers of a table
module _ (g : Grid) (losses : List ℕ) (h : ℕ) where
  abbrev owner : ℕ
  owner = block_of g h

  pub levelled-start : (y : Point) (e : ℕ) → levelled g losses y h 0 e ≡ at losses (losses_begin g h + e)
  unfolding levelled
  levelled-start y e =
      blend_one (λ i. at losses (losses_begin g h + (i * behind g owner 0 + e)))
      ∙ (let z : 0 * behind g owner 0 + e ≡ e = omega arith in rw z)

  levelled_against : (y : Point) (l e : ℕ) → l < num_blocks g
      → levelled g losses y h (suc l) e
      ≡ blend (mix_against g y owner l) (λ k. levelled g losses y h l (k * behind g owner (suc l) + e))
  unfolding levelled
  levelled_against y l e b =
      let x : List ℕ = mix_against g y owner l in
      let xs : List (List ℕ) = map (mix_against g y owner) (up_from 0 l) in
      let rest : ℕ = behind g owner (suc l) in
      let s = mix_against-length g owner y l in
      let n = behind-next g owner l b in
      let split : map (mix_against g y owner) (up_from 0 (suc l)) ≡ xs ++ x ∷ [] = (let z : 0 + l ≡ l = omega arith in
      ap (λ (n : ℕ). map (mix_against g y owner) (up_from 0 n)) (sym (add-one l))
      ∙ rw (up_from-next 0 l, map-append, z)) in
      ap (λ (m : List (List ℕ)). blend (weights m) (λ i. at losses (losses_begin g h + (i * rest + e)))) split
      ∙ blend-behind xs x _
      ∙ blend-agree (weights xs) _ _
      (λ i m. blend-agree x _
      (λ k. at losses (losses_begin g h + (i * behind g owner l + (k * rest + e))))
      (λ k t.
      let z : losses_begin g h + ((i * length x + k) * rest + e)
      ≡ losses_begin g h + (i * behind g owner l + (k * rest + e)) =
      rw (n, s) (omega arith) in
      ap (at losses) z))
      ∙ sym
      (blend_exchange x (weights xs) (λ k i. at losses (losses_begin g h + (i * behind g owner l + (k * rest + e)))))

  -- the own block changes nothing
  pub levelled-own : (y : Point) (l e : ℕ) → l < num_blocks g → l ≡ owner
      → levelled g losses y h (suc l) e ≡ levelled g losses y h l e
  levelled-own y l e b s = levelled_against y l e b
      ∙ rw (eq-eqb l owner s)
      (blend_one (λ k. levelled g losses y h l (k * behind g owner (suc l) + e))
      ∙ (let z : 0 * behind g owner (suc l) + e ≡ e = omega arith in rw z))

  -- another block is weighed by its mix
  pub levelled-other : (y : Point) (l e : ℕ) → l < num_blocks g → (l ≡ owner → ⊥)
      → levelled g losses y h (suc l) e
      ≡ blend (mix g y l) (λ k. levelled g losses y h l (k * behind g owner (suc l) + e))
  levelled-other y l e b n = levelled_against y l e b ∙ rw (ne_eqb l owner n)

  -- only the mixes before the level count
  pub levelled-kept : (y z : Point) (l e : ℕ) → take (first_index g l) y ≡ take (first_index g l) z
      → levelled g losses y h l e ≡ levelled g losses z h l e
  unfolding levelled
  levelled-kept y z l e k =
      ap (λ (m : List (List ℕ)). blend (weights m) (λ i. at losses (losses_begin g h + (i * behind g owner l + e))))
      (map_range _ _ 0 l (λ i b. let q : 0 + i ≡ i = omega arith in rw (q, mix-kept g y z l k i b)))

-- the numbers fit 32 bits
module _ (g : Grid) (a : Accepted g) (y : Point) (p : is_grid_point g y ≡ true) where
  mix-sum : (j i : ℕ) → i < num_blocks g → sum (mix_against g y j i) ≤ division g i
  mix-sum j i b = ⊎_elim
      (λ e. rw e (omega (
        arith,
        leb-true 1 (get_or g.divisions i 0)
            (at_all (λ d. leb 1 d) g.divisions i a.divisions_one (omega (arith, a.same_number))),
      )))
      (λ e. rw e (omega (arith, block-sum g a y p i b)))
      (true_or_false (eqb i j))

  sums-few : (j b n : ℕ) → b + n ≤ num_blocks g
      → product (map sum (map (mix_against g y j) (up_from b n))) ≤ product (drop b g.divisions)
  sums-few j b zero h = product-positive (drop b g.divisions) (all_drop _ b g.divisions a.divisions_one)
  sums-few j b (suc n) h = rw (drop-cons g.divisions b 0 (omega (arith, a.same_number)))
      (mul-le-mul (mix-sum j b (omega arith)) (sums-few j (suc b) n (omega arith)))

  pub levelled-low : (losses : List ℕ) → all in_range losses ≡ true → (h l e : ℕ) → l ≤ num_blocks g
      → levelled g losses y h l e < 4294967296
  unfolding levelled
  levelled-low losses r h l e b =
      let w : List ℕ = weights (map (mix_against g y (block_of g h)) (up_from 0 l)) in
      let total : sum w ≤ 60000 =
      rw sum-weights (omega (arith, sums-few (block_of g h) 0 l (omega arith), divisions-few g a)) in
      let number : ℕ → ℕ = λ i. losses_begin g h + (i * behind g (block_of g h) l + e) in
      omega (
        arith,
        blend-bound w (λ i. at losses (number i)) 1000 (λ i. low losses r (number i)),
        mul-le-mul_right 1000 total,
      )
    where
      low : (t : List ℕ) → all in_range t ≡ true → (i : ℕ) → at t i ≤ 1000
      low t r i = ⊎_elim
          (λ (b : i < length t).
          leb-true _ 1000 (and_right (leb 1 (at t i)) (leb (at t i) 1000) (at_all in_range t i r b)))
          (λ (b : length t ≤ i). rw (get_or-eq_default t 0 b) (omega arith))
          (before_or_not i (length t))

-- behind the last block stand the losses of the strategies
pub strategy_levelled : (g : Grid) (losses : List ℕ) (y : Point) (j i : ℕ) → j < num_blocks g → i < size g j
    → get_or (strategy_losses g y j (losses_of g losses j)) i 0 ≡ levelled g losses y (first_index g j + i) (num_blocks g) 0
unfolding levelled losses_begin
strategy_levelled g losses y j i b h =
    let w : List ℕ = weights (map (mix g y) (opponents g j)) in
    let rest : ℕ = behind g j 0 in
    let count : ℕ = product g.sizes in
    let long : length w ≡ rest = length-weights (map (mix g y) (opponents g j))
    ∙ ap product (sym (mix_lengths g y (opponents g j)))
    ∙ sym (behind-opponents g j) in
    let row : i * rest + rest ≤ count = omega (arith, own_behind g j b, mul-le-mul_right rest h) in
    weighed-at (size g j) i w (losses_of g losses j) h
    ∙ dot-blend w (drop (i * length w) (losses_of g losses j))
    ∙ rw (
      block_at g.sizes j i h,
      behind-none g j (num_blocks g) (omega arith),
      weights_against g j y (up_from 0 (num_blocks g)),
    )
    (blend-agree w _ _ (λ q l.
    let inside : i * rest + q < count = omega arith in
    let z : j * count + (i * rest + q) ≡ j * count + (first_index g j + i - first_index g j) * rest + (q * 1 + 0) =
    (let s : first_index g j + i - first_index g j ≡ i = omega arith in rw s (omega arith)) in
    get_or-drop (i * length w) (losses_of g losses j) q 0
    ∙ rw long
    (get_or-take count (drop (j * count) losses) (i * rest + q) 0 inside
    ∙ get_or-drop (j * count) losses (i * rest + q) 0
    ∙ ap (at losses) z)))

-- the divisions do not count
module _ (ss ds es : List ℕ) where
  pub behind-alike : (j l : ℕ) → behind (lent ss ds) j l ≡ behind (lent ss es) j l
  unfolding behind
  behind-alike j l = refl

  pub stand-alike : (losses : List ℕ) (y : Point) (l n : ℕ) (levels : List ℕ) → Stand (lent ss ds) losses y l n levels
      → Stand (lent ss es) losses y l n levels
  unfolding behind losses_begin levelled
  stand-alike losses y l n levels s = s

  pub stand-to-alike : (losses : List ℕ) (y : Point) (l : ℕ) (levels : List ℕ) → StandTo (lent ss ds) losses y l levels
      → StandTo (lent ss es) losses y l levels
  stand-to-alike losses y l levels s i b = stand-alike losses y i (sum ss) levels (s i b)
