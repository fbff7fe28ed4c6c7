-- Laws of the definitions of a slip. Assumes nothing.
use mathlib.Core.Bool.{Bool, true, false, not, cond, beq}
use mathlib.Core.List.{List, [], ◌∷◌, ◌++◌, map}
use mathlib.Core.Logic.{⊎_elim}
use mathlib.Core.Path.{◌≡◌, refl, sym, ap, ◌∙◌}
use Prim.Native.Nat.{ℕ, zero, suc, ◌+◌, ◌-◌, ◌*◌, ◌≤◌, ◌<◌}
use borrow.Author.Tests.{leb-true, eq-eqb, ne_eqb}
use lib.Dec.{eqb, leb, ltb}
use lib.ListN.{length, get_or, take, drop, replicate}
use native.Mathlib.Omega.{arith}
use Rattle.combinatorics.proofs.Basics.{absurd_bool, and_left, and_right, true_or_false, beq_same}
use Rattle.combinatorics.proofs.Lists.{all_in, on_numbers}
use Rattle.combinatorics.proofs.Ranges.{in_up_from}
use Rattle.combinatorics.proofs.Turns.{sum-counted}
use Rattle.combinatorics.specs.Front.{front, padded}
use Rattle.combinatorics.specs.Lists.{all, filter, sum, up_from}
use Rattle.little_endian.proofs.Laws.{length-words}
use Rattle.little_endian.specs.Numbers.{words}
use Rattle.grid_points.specs.Grid.{Grid, num_indices, num_points, division, first_index, block_of, lent}
use Rattle.game_losses.specs.Table.{num_losses}
use Rattle.slip_fields.specs.Slip.{map_bit, num_blocks_of, slip_grid, is_map, stands, head_length, field_lengths}
use Rattle.slip_fields.specs.Slip.{field_length}
use Rattle.slip_fields.specs.Slip.{field_at, fields_end, default_coordinate, slip_start, question13, question14}

-- the maps that question 13 lets pass are 4 to 11 and 16 to 19
abbrev pub passes : ℕ → Bool
passes b = cond (ltb b 4) false (cond (ltb b 12) true (cond (ltb b 16) false (ltb b 20)))

-- by a test of all bytes
pub map-passes : (b : ℕ) → b < 256 → is_map b ≡ passes b
unfolding is_map
map-passes b h = beq_same (is_map b) (passes b)
    (all_in on_numbers (λ x. beq (is_map x) (passes x)) (up_from 0 256) refl b
    (in_up_from 0 256 b (omega arith) (omega arith)))

-- "each block has d_j at its first index", and 0 elsewhere
module _ (g : Grid) (h j : ℕ) (in_block : j ≡ block_of g h) where
  pub default_first : h ≡ first_index g j → division g j ≡ default_coordinate g h
  unfolding default_coordinate
  default_first e = ap (division g) in_block
      ∙ sym (ap
      (λ b. cond b (division g (block_of g h)) 0)
      (eq-eqb h (first_index g (block_of g h)) (e ∙ ap (first_index g) in_block)))

  pub default_other : (h ≡ first_index g j → ⊥) → 0 ≡ default_coordinate g h
  unfolding default_coordinate
  default_other n = sym (ap
      (λ b. cond b (division g (block_of g h)) 0)
      (ne_eqb h (first_index g (block_of g h)) (λ e. n (e ∙ sym (ap (first_index g) in_block)))))

-- the fields of a slip
module _ (slip : List ℕ) where
  pub length-there : (k : ℕ) → stands slip k ≡ true → field_length slip k ≡ get_or (field_lengths (slip_grid slip)) k 0
  unfolding field_length
  length-there k e = rw e

  pub length_absent : (k : ℕ) → stands slip k ≡ false → field_length slip k ≡ 0
  unfolding field_length
  length_absent k e = rw e

  pub at_first : field_at slip 0 ≡ head_length slip
  unfolding field_at
  at_first = omega arith

  -- "in bit order"
  pub at_next : (k : ℕ) → field_at slip (suc k) ≡ field_at slip k + field_length slip k
  unfolding field_at
  at_next k =
      let e : suc k ≡ k + 1 = omega arith in
      let z : 0 + k ≡ k = omega arith in
      let s = ap (λ n. sum (map (field_length slip) (up_from 0 n))) e ∙ sum-counted (field_length slip) 0 k in
      omega (arith, s, ap (field_length slip) z)

  at-grows : (k d : ℕ) → field_at slip k ≤ field_at slip (d + k)
  at-grows k zero = let z : 0 + k ≡ k = omega arith in rw z (omega arith)
  at-grows k (suc d) =
      let z : suc d + k ≡ suc (d + k) = omega arith in
      rw z (omega (arith, at_next (d + k), at-grows k d))

  -- the sizes are a part of the slip
  pub grid-from : (n : ℕ) (divisions : List ℕ) → n ≡ num_blocks_of slip → divisions ≡ words n slip (2 + n)
      → lent (take (2 + n - 2) (drop 2 slip)) divisions ≡ slip_grid slip
  grid-from n divisions e d =
      let z : 2 + n - 2 ≡ n = omega arith in
      rw (d, z, e)

  pub start-there : (n at : ℕ) → stands slip 0 ≡ true → n ≡ num_indices (slip_grid slip) → at ≡ field_at slip 0
      → words n slip at ++ drop n (replicate 16 0) ≡ padded 16 (slip_start slip)
  unfolding slip_start front
  start-there n at t e f = rw (t, e, f, length-words)

  -- field k ends behind the slip's end
  pub inexact : (k d : ℕ) → d + k ≡ 5 → length slip < field_at slip k → (question14 slip).answered_yes ≡ false
  inexact k d e h =
      let g : field_at slip k ≤ field_at slip 5 = rw e at (at-grows k d) in
      ne_eqb (length slip) (fields_end slip) (λ f. omega arith)

  pub exact : length slip ≡ fields_end slip → (question14 slip).answered_yes ≡ true
  exact = eq-eqb (length slip) (fields_end slip)

  -- where question 13 is answered yes, exactly one of bits 2, 3 and 4 stands
  module _ (head : (question13 slip).answered_yes ≡ true) where
    pub head-fits : head_length slip ≤ length slip
    head-fits = leb-true (head_length slip) (length slip) (and_left (leb (head_length slip) (length slip)) _ head)

    one_bit : eqb (length (filter (stands slip) (2 ∷ 3 ∷ 4 ∷ []))) 1 ≡ true
    unfolding is_map stands
    one_bit = and_right (all (λ k. not (map_bit (get_or slip 0 0) k)) (up_from 5 3)) _
        (and_right (leb (head_length slip) (length slip)) (is_map (get_or slip 0 0)) head)

    -- labels: neither game nor losses
    pub labels-only : stands slip 2 ≡ true → (stands slip 3 ≡ false) × (stands slip 4 ≡ false)
    labels-only two = go (stands slip 3) (stands slip 4) refl refl
      where
        go : (b c : Bool) → stands slip 3 ≡ b → stands slip 4 ≡ c → (b ≡ false) × (c ≡ false)
        go true true y z = absurd_bool (sym (rw (two, y, z) at one_bit))
        go true false y z = absurd_bool (sym (rw (two, y, z) at one_bit))
        go false true y z = absurd_bool (sym (rw (two, y, z) at one_bit))
        go false false y z = (refl, refl)

    module _ (two : stands slip 2 ≡ false) where
      -- a game: no losses
      pub game-only : stands slip 3 ≡ true → stands slip 4 ≡ false
      game-only three = ⊎_elim
          (λ (y : stands slip 4 ≡ true). absurd_bool (sym (rw (two, three, y) at one_bit)))
          (λ n. n)
          (true_or_false (stands slip 4))

      -- neither labels nor a game: losses
      pub losses-only : stands slip 3 ≡ false → stands slip 4 ≡ true
      losses-only three = ⊎_elim
          (λ y. y)
          (λ (n : stands slip 4 ≡ false). absurd_bool (sym (rw (two, three, n) at one_bit)))
          (true_or_false (stands slip 4))

    -- the one field of the three is the last of the slip
    pub labels-last : stands slip 2 ≡ true → fields_end slip ≡ field_at slip 2 + num_points (slip_grid slip)
    labels-last two =
        let none = labels-only two in
        omega (
          arith,
          at_next 2,
          at_next 3,
          at_next 4,
          length-there 2 two,
          length_absent 3 none.0,
          length_absent 4 none.1,
        )

    pub game-last : stands slip 2 ≡ false → stands slip 3 ≡ true
        → (field_at slip 3 ≡ field_at slip 2) × (fields_end slip ≡ field_at slip 2 + 1)
    game-last two three =
        let none = length_absent 2 two in (
          omega (arith, at_next 2, none),
          omega (
            arith,
            at_next 2,
            at_next 3,
            at_next 4,
            none,
            length-there 3 three,
            length_absent 4 (game-only two three),
          ),
        )

    pub losses-last : stands slip 2 ≡ false → stands slip 3 ≡ false
        → (field_at slip 4 ≡ field_at slip 2) × (fields_end slip ≡ field_at slip 2 + 2 * num_losses (slip_grid slip))
    losses-last two three =
        let none = length_absent 2 two in
        let some = length-there 4 (losses-only two three) in (
          omega (arith, at_next 2, at_next 3, none, length_absent 3 three),
          omega (arith, at_next 2, at_next 3, at_next 4, none, length_absent 3 three, some),
        )
