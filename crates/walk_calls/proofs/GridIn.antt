-- The grid of a walk as `Grid::new` makes it. Assumes nothing.
use mathlib.Core.Bool.{cond}
use mathlib.Core.List.{[]}
use mathlib.Core.Logic.{⊎_elim}
use mathlib.Core.Path.{◌≡◌, sym, ap, ◌∙◌}
use Prim.Native.Nat.{ℕ, ◌<◌}
use borrow.Author.Tests.{leb-true, leb-false}
use lib.Dec.{leb}
use lib.ListN.{take}
use Rattle.combinatorics.proofs.Basics.{true_or_false}
use Rattle.grid.proofs.Fields.{made_code, made-is, made-shape}
use Rattle.grid_points.specs.Grid.{Grid, lent}
use Rattle.grid.specs.Made.{made_of}
use Rattle.grid_points.specs.Questions.{grid_questions}
use Rattle.grid.specs.declared.Made.{Made}
use Rattle.questions.specs.Questions.{first_no}
use Rattle.walk_calls.specs.Moving.{GridIn}
use Rattle.walk_calls.proofs.Calls.{none-refused, six-blocks, too_many_blocks}
use Rattle.walk_places.specs.Walks.{walk_grid}
use Rattle.walk_places.specs.declared.Walk.{Walk as WalkStruct}

module _ (w : WalkStruct) (n : ℕ) (is : n ≡ cond (leb w.blocks 6) w.blocks 0) (r : Made) (made : r ≡ made_of (lent
    (take n w.sizes) (take n w.divisions))) where
  abbrev G : Grid
  G = lent (take n w.sizes) (take n w.divisions)

  of_own : G ≡ walk_grid w → GridIn (walk_grid w) r
  of_own e = record {
    code = made_code G r made ∙ ap (λ (g : Grid). first_no (grid_questions g)) e;
    is = λ z. (made-is G r made z, made-shape G r made z ∙ e);
  }

  of_none : 6 < w.blocks → n ≡ 0 → GridIn (walk_grid w) r
  of_none l z =
      let e : G ≡ record { sizes = []; divisions = [] } = ap (λ (k : ℕ). lent (take k w.sizes) (take k
      w.divisions)) z in
      let c : r.code ≡ first_no (grid_questions (record { sizes = []; divisions = [] })) = made_code G r made
      ∙ ap (λ (g : Grid). first_no (grid_questions g)) e in
      record { code = c ∙ sym (too_many_blocks w l); is = λ q. absurd (none-refused r.code c q) }

  pub grid_in : GridIn (walk_grid w) r
  grid_in =
      ⊎_elim (λ t. let k : n ≡ w.blocks = is ∙ (rw t) in
      of_own (ap (λ (b : ℕ). lent (take b w.sizes) (take b w.divisions)) k
      ∙ sym (six-blocks w (leb-true w.blocks 6 t))))
      (λ f. of_none (leb-false w.blocks 6 f) (is ∙ (rw f))) (true_or_false (leb w.blocks 6))
