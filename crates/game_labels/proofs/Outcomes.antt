-- What each outcome of the questions makes of the answer and of the buffer. Assumes nothing.
use mathlib.Core.Bool.{true, false}
use mathlib.Core.List.{List, [], ◌∷◌}
use mathlib.Core.Path.{◌≡◌, refl, ap, ◌∙◌}
use Prim.Native.Nat.{ℕ, ◌*◌, ◌≤◌}
use borrow.Author.Tests.{eq-eqb, ne_eqb}
use lib.ListN.{length, replicate}
use native.Mathlib.Omega.{arith}
use Rattle.combinatorics.proofs.Fronts.{front_length}
use Rattle.combinatorics.specs.Front.{front}
use Rattle.combinatorics.specs.Lists.{all}
use Rattle.grid.proofs.Fields.{made-accepted, blocks-range, made-is, made-shape, made-blocks, made-first, made-points}
use Rattle.grid_points.specs.Grid.{Grid, num_blocks, num_points}
use Rattle.grid.specs.Made.{made_of, grid_of, IsMade, shape}
use Rattle.questions.specs.Questions.{Question, first_no}
use Rattle.questions.proofs.Answers.{asked-next}
use Rattle.grid_points.specs.Questions.{grid_questions}
use Rattle.grid.specs.declared.Grid.{Grid as GridStruct}
use Rattle.grid.specs.declared.Made.{Made}
use Rattle.game_losses.specs.Game.{product, labels}
use Rattle.game_losses.specs.Table.{question10, question11, in_range}
use Rattle.points_in_order.specs.Lent.{WithFirsts}
use Rattle.game_labels.specs.Labelling.{question12, label_questions, labelled_of, left_in}
use Rattle.game_labels.specs.declared.Labelled.TheVariants.{Refused, Written}

module _ (g : Grid) (questions : List Question) (losses buffer : List ℕ) where
  pub refused : (n : ℕ) → (n ≡ 0 → ⊥) → first_no questions ≡ n
      → (Refused n ≡ labelled_of g questions) × (buffer ≡ left_in g questions losses buffer)
  unfolding labelled_of left_in
  refused n h e = (rw (e, ne_eqb n 0 h), rw (e, ne_eqb n 0 h))

  pub written : first_no questions ≡ 0
      → (Written (num_points g) ≡ labelled_of g questions)
      × (front (labels g losses) buffer ≡ left_in g questions losses buffer)
  unfolding labelled_of left_in
  written e = (rw e, rw e)

-- questions 10 to 12, behind a grid that is accepted
module _ (g : Grid) (losses buffer : List ℕ) (a : first_no (grid_questions g) ≡ 0) where
  rest : first_no (label_questions g losses buffer)
      ≡ first_no (question10 g losses ∷ question11 losses ∷ question12 g buffer ∷ [])
  rest = asked-next (grid_questions g) _ refl a

  pub asked10 : (length losses ≡ num_blocks g * product g.sizes → ⊥) → first_no (label_questions g losses buffer) ≡ 10
  unfolding first_no
  asked10 h = rest ∙ rw (ne_eqb _ _ h)

  module _ (e : length losses ≡ num_blocks g * product g.sizes) where
    pub asked11 : all in_range losses ≡ false → first_no (label_questions g losses buffer) ≡ 11
    unfolding first_no
    asked11 h = rest ∙ rw (eq-eqb _ _ e, h)

    pub asked12 : all in_range losses ≡ true → (length buffer ≡ num_points g → ⊥)
        → first_no (label_questions g losses buffer) ≡ 12
    unfolding first_no
    asked12 h n = rest ∙ rw (eq-eqb _ _ e, h, ne_eqb _ _ n)

    pub asked-all : all in_range losses ≡ true → length buffer ≡ num_points g
        → first_no (label_questions g losses buffer) ≡ 0
    unfolding first_no
    asked-all h n = rest ∙ rw (eq-eqb _ _ e, h, eq-eqb _ _ n)

-- what a struct that the constructor has made holds
module _ (s : GridStruct) (made : IsMade s) where
  pub made-firsts : WithFirsts (shape s) s.firsts
  made-firsts = record {
    accepted = made.accepted;
    first = λ j h. made-first s made j (omega (arith, made-blocks s made));
  }

  -- the numbers of the blocks lie in their arrays
  pub blocks-room : (s.blocks ≤ length s.sizes) × (s.blocks ≤ length s.divisions)
  unfolding grid_of
  blocks-room =
      let a = made-accepted s made in
      let few : length (shape s).divisions ≤ 6 = omega (arith, a.same_number, a.few_blocks) in
      let sizes =
      ap (λ z. length z.sizes) made.made ∙ front_length (shape s).sizes (replicate 6 0) a.few_blocks in
      let divisions =
      ap (λ z. length z.divisions) made.made ∙ front_length (shape s).divisions (replicate 6 0) few in
      (omega (arith, sizes, (blocks-range s made).1), omega (arith, divisions, (blocks-range s made).1))

-- and what it answers of sizes and divisions that are lent
pub made-on : (g : Grid) (r : Made) → r ≡ made_of g → r.code ≡ 0
    → IsMade r.grid × (shape r.grid ≡ g) × (r.grid.points ≡ num_points g)
made-on g r is z =
    let m = made-is g r is z in
    let e = made-shape g r is z in
    (m, e, made-points r.grid m ∙ ap num_points e)
