-- Where a level starts, by what the level before has written. Assumes nothing.
use mathlib.Core.List.{List}
use mathlib.Core.Path.{◌≡◌, sym, ap, ◌∙◌}
use Prim.Native.Nat.{ℕ, suc, ◌+◌, ◌-◌, ◌*◌, ◌≤◌, ◌<◌}
use lib.ListN.{length, drop, replicate, take}
use lib.Seq.{take_all}
use native.Mathlib.Nat.{mul-le-mul}
use native.Mathlib.Omega.{arith}
use Rattle.combinatorics.specs.Front.{front, padded}
use Rattle.grid.proofs.Fields.{made-indices}
use Rattle.grid_points.specs.Grid.{dimension, num_indices}
use Rattle.grid.specs.Made.{IsMade, shape}
use Rattle.grid.specs.declared.Grid.{Grid as GridStruct}
use Rattle.refinement_levels.specs.Levels.{times}
use Rattle.refinement_levels.specs.Questions.{level_room}
use Rattle.refinement.specs.Runs.{CanStart, Fit, level_start_from}

-- a room begins before the end of the buffer, and 16 bits and more are left
pub room-begins : (level room : ℕ) → level ≤ 8 → room ≤ 272 → level * room ≤ 2176
room-begins level room a b = let p : level * room ≤ 8 * 272 = mul-le-mul a b in omega arith

module _ (g : GridStruct) (made : IsMade g) (level : ℕ) (start : List ℕ) (k : ℕ) (answer : List ℕ)
    (ok : CanStart (shape g) level start k answer) where
  pub start-long : g.indices ≤ length start
  start-long = omega (arith, ok.long, made-indices g made)

  -- the first level
  pub start_first : level ≡ 0 → (r : List ℕ) → r ≡ front (take g.indices start) (replicate 16 0)
      → r ≡ padded 16 (level_start_from (shape g) level start k answer)
  start_first z r e =
      e ∙ ap (λ (l : List ℕ). padded 16 l) (take_all g.indices start (omega (arith, ok.long, made-indices g made)))
      ∙ ap (λ (l : ℕ). padded 16 (level_start_from (shape g) l start k answer)) (sym z)

  -- a later one
  module _ (later : level ≡ 0 → ⊥) (room : ℕ) (is : room ≡ level_room (shape g)) where
    one_more : level ≡ suc (level - 1)
    one_more = let h : 0 < level = positive level later in omega arith
      where
        positive : (n : ℕ) → (n ≡ 0 → ⊥) → 0 < n
        positive n f = omega arith

    pub ends-inside : (level - 1) * room + g.indices ≤ length answer
    ends-inside =
        let m = num_indices (shape g) in
        let a : 1 * m ≤ suc (dimension (shape g)) * m = mul-le-mul (omega arith) (omega arith) in
        let b : level * level_room (shape g) ≡ suc (level - 1) * level_room (shape g) =
        ap (λ (l : ℕ). l * level_room (shape g)) one_more
        in
        rw is (omega (arith, a, b, ok.room, made-indices g made))

    part_is : take ((level - 1) * room + g.indices - (level - 1) * room) (drop ((level - 1) * room) answer)
        ≡ take (num_indices (shape g)) (drop ((level - 1) * level_room (shape g)) answer)
    part_is =
        let n : (level - 1) * room + g.indices - (level - 1) * room ≡ num_indices (shape g) =
        omega (arith, made-indices g made)
        in
        ap (λ (x : ℕ). take x (drop ((level - 1) * room) answer)) n
        ∙ ap (λ (x : ℕ). take (num_indices (shape g)) (drop ((level - 1) * x) answer)) is

    pub part_fits : Fit k (take ((level - 1) * room + g.indices - (level - 1) * room)
        (drop ((level - 1) * room) answer))
    part_fits = rw part_is (ok.fit (level - 1) one_more)

    pub start-later : (r : List ℕ)
        → r ≡ padded 16 (times k
        (take ((level - 1) * room + g.indices - (level - 1) * room) (drop ((level - 1) * room) answer)))
        → r ≡ padded 16 (level_start_from (shape g) level start k answer)
    start-later r e =
        e ∙ ap (λ (l : List ℕ). padded 16 (times k l)) part_is
        ∙ ap (λ (l : ℕ). padded 16 (level_start_from (shape g) l start k answer)) (sym one_more)
