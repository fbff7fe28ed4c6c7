-- The grids of the levels, made one after another. Assumes nothing.
use mathlib.Core.List.{List, ◌∷◌}
use mathlib.Core.Logic.{⊎_elim}
use mathlib.Core.Path.{◌≡◌, refl, sym, ap, ◌∙◌}
use Prim.Native.Nat.{ℕ, zero, suc, ◌+◌, ◌≤◌, ◌<◌}
use lib.ListN.{length, get_or, length-set, set}
use lib.Seq.{get_or-set_other, get_or-set_same}
use native.Mathlib.Numerals.{add-one}
use native.Mathlib.Omega.{arith}
use Rattle.combinatorics.proofs.Basics.{same_or}
use Rattle.grid_points.proofs.Accepted.{accepted}
use Rattle.grid.proofs.Fields.{is_made, made_code, made-grid, shape_of}
use Rattle.grid_points.specs.Grid.{Grid}
use Rattle.grid.specs.Made.{IsMade, grid_of, made_of, shape}
use Rattle.grid_points.specs.Questions.{grid_questions}
use Rattle.grid.specs.declared.Grid.{Grid as GridStruct}
use Rattle.grid.specs.declared.Made.{Made}
use Rattle.refinement_levels.proofs.Grids.{level_first, level_next, levels_more, levels_no, levels_yes}
use Rattle.refinement_levels.specs.Levels.{finer, grid_at}
use Rattle.refinement_levels.specs.Questions.{level_questions}
use Rattle.questions.specs.Questions.{first_no}
use Rattle.refinement_questions.specs.Grids.{AreMade}

-- the grids of the first i levels, with the last of them
pub record SomeMade (g : Grid) (k i : ℕ) (grids : List GridStruct) (last : GridStruct) : Type 0 where
  pub whole : length grids ≡ 8
  pub some : 1 ≤ i
  pub yes : first_no (level_questions g k i) ≡ 0
  pub are : (j : ℕ) → j < i → (other : GridStruct) → get_or grids j other ≡ grid_of (grid_at g k j)
  pub is_last : (j : ℕ) → suc j ≡ i → last ≡ grid_of (grid_at g k j)

module _ (g : Grid) (k : ℕ) where
  none-asked : first_no (level_questions g k 0) ≡ 0
  unfolding first_no
  none-asked = refl

  asked-first : first_no (grid_questions (grid_at g k 0)) ≡ first_no (grid_questions g)
  asked-first = ap (λ (h : Grid). first_no (grid_questions h)) (level_first g k)

  -- the first grid refused, and made
  pub first-refused : (levels : ℕ) (r : Made) (grids : List GridStruct) → 1 ≤ levels → r ≡ made_of g → (r.code ≡ 0 → ⊥)
      → AreMade g k levels (record { code = r.code; grids = grids })
  first-refused levels r grids some is n =
      let e : first_no (grid_questions (grid_at g k 0)) ≡ r.code = asked-first ∙ sym (made_code g r is) in
      record { code = sym (levels_no g k levels 0 r.code (omega arith) none-asked n e); grids = λ z. absurd (n z) }

  pub first_made : (r : Made) (rest : List GridStruct) → length rest ≡ 7 → r ≡ made_of g → r.code ≡ 0
      → SomeMade g k 1 (r.grid ∷ rest) r.grid
  first_made r rest l is z =
      let yes : first_no (grid_questions (grid_at g k 0)) ≡ 0 = asked-first ∙ sym (made_code g r is) ∙ z in
      let e : r.grid ≡ grid_of (grid_at g k 0) = made-grid g r is z ∙ ap grid_of (sym (level_first g k)) in
      record {
        whole = omega (arith, l);
        some = omega arith;
        yes = levels_more g k 0 none-asked yes;
        are = λ j h other. let q : j ≡ 0 = omega arith in rw q e;
        is_last = λ j h. let q : j ≡ 0 = omega arith in rw q e;
      }

  -- one level more
  module _ (i : ℕ) (grids : List GridStruct) (last : GridStruct) (m : SomeMade g k i grids last) where
    level_yes : (j : ℕ) → suc j ≡ i → first_no (grid_questions (grid_at g k j)) ≡ 0
    level_yes j e = levels_yes g k i m.yes j (omega arith)

    pub last_made : IsMade last
    last_made = go i refl
      where
        go : (n : ℕ) → n ≡ i → IsMade last
        go zero e = absurd (omega (arith, m.some))
        go (suc j) e = rw (m.is_last j e) (is_made (grid_at g k j) (level_yes j e))

    module _ (n : Made) (is : n ≡ made_of (finer k (shape last))) where
      -- it is the level's own
      next-is : n ≡ made_of (grid_at g k i)
      next-is = go i refl
        where
          go : (l : ℕ) → l ≡ i → n ≡ made_of (grid_at g k i)
          go zero e = absurd (omega (arith, m.some))
          go (suc j) e =
              let h = grid_at g k j in
              let s : shape last ≡ h = ap shape (m.is_last j e) ∙ shape_of h (accepted h (level_yes j e)).same_number in
              is ∙ ap (λ (x : Grid). made_of (finer k x)) s ∙ ap made_of (sym (level_next g k j)) ∙ ap
              (λ (x : ℕ). made_of (grid_at g k x)) e

      pub next-stops : (levels : ℕ) → i < levels → (n.code ≡ 0 → ⊥)
          → AreMade g k levels (record { code = n.code; grids = grids })
      next-stops levels h z = record {
        code = sym (levels_no g k levels i n.code h m.yes z (sym (made_code (grid_at g k i) n next-is)));
        grids = λ e. absurd (z e);
      }

      pub next-goes : n.code ≡ 0 → i < 8 → SomeMade g k (i + 1) (set grids i n.grid) n.grid
      next-goes z h =
          let w = m.whole in
          let e : n.grid ≡ grid_of (grid_at g k i) = made-grid (grid_at g k i) n next-is z in
          record {
            whole = length-set grids i n.grid ∙ w;
            some = omega arith;
            yes = rw (add-one i) (levels_more g k i m.yes (sym (made_code (grid_at g k i) n next-is) ∙ z));
            are = λ j l other. ⊎_elim
                (λ (q : j ≡ i). rw q (get_or-set_same grids i n.grid other (omega arith) ∙ e))
                (λ (q : j ≡ i → ⊥). get_or-set_other grids i j n.grid other q ∙ m.are j (omega arith) other)
                (same_or j i);
            is_last = λ j l. let q : j ≡ i = omega arith in rw q e;
          }

    pub all_made : (levels : ℕ) → levels ≡ i → AreMade g k levels (record { code = 0; grids = grids })
    all_made levels e = record { code = rw e (sym m.yes); grids = λ z j h other. m.are j (omega arith) other }
