-- The next grid from the one before: its divisions one by one, and the answer of the constructor. Assumes nothing.
use mathlib.Core.Bool.{true, false}
use mathlib.Core.List.{List}
use mathlib.Core.Path.{◌≡◌, sym, ap, ◌∙◌}
use Prim.Native.Nat.{ℕ, ◌+◌, ◌*◌, ◌≤◌, ◌<◌}
use lib.ListN.{length, get_or, length-map, length-take, replicate, set, take}
use lib.Seq.{get_or-take}
use native.Mathlib.Nat.{mul-le-mul}
use native.Mathlib.Omega.{arith}
use Rattle.combinatorics.proofs.Basics.{absurd_bool}
use Rattle.combinatorics.proofs.Fronts.{front-copy, front_length, front_taken, front-whole}
use Rattle.combinatorics.specs.Front.{front}
use Rattle.grid.proofs.Fields.{blocks-range, made-accepted, made-blocks}
use Rattle.grid_points.specs.Grid.{Grid, lent}
use Rattle.grid.specs.Made.{IsMade, made_of, no_grid, shape}
use Rattle.grid.specs.declared.Grid.{Grid as GridStruct}
use Rattle.grid.specs.declared.Made.{Made}
use Rattle.refinement_levels.proofs.Grids.{times-at, too_large}
use Rattle.refinement_levels.specs.Levels.{finer, times}
use Rattle.refinement_questions.specs.Grids.{AreNext}
use Rattle.refinement_questions.specs.declared.grids.Divisions.{Divisions}

-- a product of k and a number of 16 bits needs no more than 20
pub product_small : (k x : ℕ) → k ≤ 10 → x ≤ 65535 → k * x ≤ 655350
product_small k x a b = let p : k * x ≤ 10 * 65535 = mul-le-mul a b in omega arith

module _ (g : GridStruct) (made : IsMade g) (k : ℕ) where
  -- as many divisions as blocks
  many : length (times k (shape g).divisions) ≡ g.blocks
  many = length-map (shape g).divisions (λ d. k * d) ∙ (made-accepted g made).same_number ∙ sym (made-blocks g made)

  pub next-at : (j x : ℕ) → j < g.blocks → x ≡ get_or g.divisions j 0
      → k * x ≡ get_or (times k (shape g).divisions) j 0
  next-at j x h e = rw (times-at k (shape g).divisions j, get_or-take g.blocks g.divisions j 0, e)

  pub next_put : (numbers : List ℕ) (j x : ℕ) → numbers ≡ front (take j (times k (shape g).divisions)) (replicate 6 0)
      → j < g.blocks
      → x ≡ get_or g.divisions j 0
      → set numbers j (k * x) ≡ front (take (j + 1) (times k (shape g).divisions)) (replicate 6 0)
  next_put numbers j x n h e =
      rw (n, next-at j x h e)
      (front-copy (times k (shape g).divisions) (replicate 6 0) j (omega (arith, many))
      (omega (arith, (blocks-range g made).1)))

  some-long : (numbers : List ℕ) (j : ℕ) → numbers ≡ front (take j (times k (shape g).divisions)) (replicate 6 0)
      → length numbers ≡ 6
  some-long numbers j n =
      rw n (front_length (take j (times k (shape g).divisions)) (replicate 6 0)
      (rw (length-take j (times k (shape g).divisions)) (omega (arith, many, (blocks-range g made).1))))

  pub next-all : (numbers : List ℕ) (j : ℕ) → numbers ≡ front (take j (times k (shape g).divisions)) (replicate 6 0)
      → g.blocks ≡ j
      → AreNext g k (record { fit = true; numbers = numbers })
  next-all numbers j n e =
      let w : numbers ≡ front (times k (shape g).divisions) (replicate 6 0) =
      n ∙ front-whole (times k (shape g).divisions) (replicate 6 0) j (omega (arith, many))
      in
      record {
        whole = some-long numbers j n;
        numbers = λ t.
            ap (take g.blocks) w ∙ ap (λ (n : ℕ). take n (front (times k (shape g).divisions) (replicate 6 0)))
            (sym many)
            ∙ front_taken (times k (shape g).divisions) (replicate 6 0);
        large = λ f. absurd_bool f;
      }

  pub next_not : (numbers : List ℕ) (j x : ℕ) → numbers ≡ front (take j (times k (shape g).divisions)) (replicate 6 0)
      → j < g.blocks
      → x ≡ get_or g.divisions j 0 → 65535 < k * x → AreNext g k (record { fit = false; numbers = numbers })
  next_not numbers j x n h e l = record {
    whole = some-long numbers j n;
    numbers = λ t. absurd_bool (sym t);
    large = λ f. (j, omega (arith, next-at j x h e));
  }

-- the grid made of them, or the refusal
module _ (g : GridStruct) (made : IsMade g) (k : ℕ) (some : 1 ≤ k) (r : Divisions) (next : AreNext g k r) where
  pub next-refused : (none : GridStruct) → none ≡ no_grid → r.fit ≡ false
      → ◌≡◌ {A = Made} (record { code = 4; grid = none }) (made_of (finer k (shape g)))
  unfolding made_of
  next-refused none n f =
      let l = next.large f in
      rw (n, too_large (shape g) k some l.0 made.accepted l.1)

  pub next-lent : r.fit ≡ true → lent (take g.blocks g.sizes) (take g.blocks r.numbers) ≡ finer k (shape g)
  next-lent t =
      ap (λ (ds : List ℕ). let h : Grid = record { sizes = (shape g).sizes; divisions = ds } in h) (next.numbers t)
