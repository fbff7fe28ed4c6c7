-- What each outcome of the questions makes of a refinement's answer and of both buffers. Assumes nothing.
use mathlib.Core.Bool.{true, false}
use mathlib.Core.List.{List, [], ◌∷◌, ◌++◌}
use mathlib.Core.Logic.{⊎_elim}
use mathlib.Core.Path.{◌≡◌, refl, sym, ap, ◌∙◌, subst}
use Prim.Native.Nat.{ℕ, pred, ◌*◌, ◌-◌, ◌≤◌, ◌<◌}
use borrow.Author.Tests.{eqb-true, leb-true, ne_eqb}
use lib.ListN.{length, get_or}
use native.Mathlib.Omega.{arith}
use Rattle.combinatorics.proofs.Basics.{same_or}
use Rattle.game_labels.specs.Labelling.{question12}
use Rattle.grid_points.proofs.Accepted.{accepted}
use Rattle.grid.proofs.Fields.{is_made, made-points, shape_of}
use Rattle.grid_points.specs.Grid.{Grid, num_points}
use Rattle.grid.specs.Made.{IsMade, no_grid, shape}
use Rattle.grid_points.specs.Questions.{question5}
use Rattle.grid.specs.declared.Grid.{Grid as GridStruct}
use Rattle.refinement_questions.specs.Grids.{AreMade}
use Rattle.refinement_questions.specs.Later.{asked_behind}
use Rattle.refinement_questions.specs.declared.grids.Grids.{Grids}
use Rattle.refinement_levels.proofs.Claims.{passed}
use Rattle.refinement_levels.proofs.Grids.{level_first, levels_yes, numbered_levels}
use Rattle.refinement_levels.specs.Buffers.{numbers_after}
use Rattle.refinement_levels.specs.Levels.{Refinement, grid_at}
use Rattle.refinement_levels.specs.Questions.{last_grid, later_level_questions, level_questions, level_room, question18}
use Rattle.refinement_levels.specs.Questions.{level_question8}
use Rattle.game_losses.specs.Game.{labels}
use Rattle.game_losses.specs.Table.{num_losses, question10, question11}
use Rattle.questions.proofs.Answers.{asked-next, asked-no, first-yes}
use Rattle.questions.specs.Questions.{Question, first_no}
use Rattle.refinement.specs.Answer.{answer_left, labels_left, lent_game, levels_of, refine_answer, refine_refusal}
use Rattle.refinement.specs.Answer.{refused}
use Rattle.refinement.specs.Runs.{CanRunAll, game_of}
use Rattle.refinement.specs.declared.Level.{Level}
use Rattle.refinement.specs.declared.Refined.{Refined}

-- the first of a list of questions
asked-no-first : (q : Question) (qs : List Question) → q.answered_yes ≡ false → first_no (q ∷ qs) ≡ q.number
unfolding first_no
asked-no-first q qs e = rw e

asked-yes : (q : Question) (qs : List Question) → q.answered_yes ≡ true → first_no (q ∷ qs) ≡ first_no qs
unfolding first_no
asked-yes q qs e = rw e

module _ (r : Refinement) (levels : ℕ) (buffer old : List ℕ) where
  -- what a refinement answers and leaves in both buffers
  abbrev pub Left : Refined → List ℕ → List ℕ → Type 0
  Left a b c =
      (a ≡ refine_answer r levels buffer old)
      × ((b ≡ labels_left r levels buffer old) × (c ≡ answer_left r levels buffer old))

  refused_with : (a : Refined) (n : ℕ) → (n ≡ 0 → ⊥) → refine_refusal r levels buffer old ≡ n → a ≡ refused n
      → Left a buffer old
  unfolding refine_answer labels_left answer_left
  refused_with a n z e w = (rw (w, e, ne_eqb n 0 z), (rw (e, ne_eqb n 0 z), rw (e, ne_eqb n 0 z)))

  passed_with : refine_refusal r levels buffer old ≡ 0 → (found : List Level) (b c : List ℕ) → found ≡ levels_of r levels
      → b ≡ labels (last_grid r levels) r.losses → c ≡ numbers_after r levels old
      → Left (record { code = 0; count = levels; levels = found }) b c
  unfolding refine_answer labels_left answer_left
  passed_with e found b c f l n = (rw (e, f), (rw (e, l), rw (e, n)))

  -- question 18
  pub refused-range : (a : Refined) → (question18 r.factor levels).answered_yes ≡ false → a ≡ refused 18
      → Left a buffer old
  refused-range a e w = refused_with a 18 (λ z. omega arith) (asked-no-first (question18 r.factor levels) _ e) w

  module _ (yes : (question18 r.factor levels).answered_yes ≡ true) where
    rest : refine_refusal r levels buffer old ≡ first_no
        (level_questions r.grid r.factor levels ++ later_level_questions r levels buffer (length old))
    rest = asked-yes (question18 r.factor levels) _ yes

    -- questions 1 to 4 of all levels
    pub refused-grids : (a : Refined) (n : ℕ) → (n ≡ 0 → ⊥) → n ≡ first_no (level_questions r.grid r.factor levels)
        → a ≡ refused n → Left a buffer old
    refused-grids a n z e w =
        refused_with a n z (rest ∙ asked-no (level_questions r.grid r.factor levels)
        (later_level_questions r levels buffer (length old)) n z (sym e)) w

    module _ (grids : first_no (level_questions r.grid r.factor levels) ≡ 0) where
      later : refine_refusal r levels buffer old ≡ first_no (later_level_questions r levels buffer (length old))
      later =
          rest ∙ asked-next (level_questions r.grid r.factor levels)
          (later_level_questions r levels buffer (length old))
          (numbered_levels r.grid r.factor levels) grids

      pub refused-later : (a : Refined) (n : ℕ) → (n ≡ 0 → ⊥)
          → n ≡ first_no (later_level_questions r levels buffer (length old)) → a ≡ refused n → Left a buffer old
      refused-later a n z e w = refused_with a n z (later ∙ sym e) w

      pub passed_later : first_no (later_level_questions r levels buffer (length old)) ≡ 0
          → (found : List Level) (b c : List ℕ)
          → found ≡ levels_of r levels
          → b ≡ labels (last_grid r levels) r.losses → c ≡ numbers_after r levels old
          → Left (record { code = 0; count = levels; levels = found }) b c
      passed_later e = passed_with (later ∙ e)

-- the grids that were made
module _ {g : Grid} {k levels : ℕ} {m : Grids} (some : 1 ≤ levels) (made : AreMade g k levels m) (z : m.code ≡ 0) where
  grids-yes : first_no (level_questions g k levels) ≡ 0
  grids-yes = sym made.code ∙ z

  level_made : (i : ℕ) → i < levels → (other : GridStruct)
      → IsMade (get_or m.grids i other) × (shape (get_or m.grids i other) ≡ grid_at g k i)
  level_made i h other =
      let e = levels_yes g k levels grids-yes i h in
      rw (made.grids z i h other) (
        is_made (grid_at g k i) e,
        shape_of (grid_at g k i)
            (accepted (grid_at g k i) e).same_number,
      )

  pub first_made : (other : GridStruct) → IsMade (get_or m.grids 0 other)
  first_made other = (level_made 0 (omega arith) other).0

  first-shape : (other : GridStruct) → shape (get_or m.grids 0 other) ≡ g
  first-shape other = (level_made 0 (omega arith) other).1 ∙ level_first g k

  last-points : (other : GridStruct) → (get_or m.grids (levels - 1) other).points ≡ num_points (grid_at g k (pred levels))
  last-points other =
      let e : levels - 1 ≡ pred levels = omega arith in
      let l = level_made (levels - 1) (omega arith) other in
      made-points (get_or m.grids (levels - 1) other) l.0 ∙ ap num_points l.1 ∙ ap
      (λ (i : ℕ). num_points (grid_at g k i)) e

  module _ (start losses buffer old : List ℕ) where
    abbrev game : Refinement
    game = lent_game g start losses k

    game-same : game_of m.grids start losses k ≡ game
    game-same = ap (λ (h : Grid). lent_game h start losses k) (first-shape no_grid)

    -- the questions behind the grids'
    pub asked-later : (n : ℕ) (one other : GridStruct)
        → n ≡ first_no (asked_behind (shape (get_or m.grids 0 one)) (get_or m.grids (levels - 1) other).points start
        losses levels (length buffer) (length old))
        → n ≡ first_no (later_level_questions game levels buffer (length old))
    asked-later n one other e =
        e
        ∙ ap (λ (h : Grid). first_no (asked_behind h (get_or m.grids (levels - 1) other).points start losses levels
        (length buffer) (length old))) (first-shape one)
        ∙ ap (λ (p : ℕ). first_no (asked_behind g p start losses levels (length buffer) (length old))) (last-points other)

    module _ (range : ((2 ≤ k) × (k ≤ 10)) × ((1 ≤ levels) × (levels ≤ 8)))
        (yes : first_no (later_level_questions game levels buffer (length old)) ≡ 0) where
      can-run-game : CanRunAll game levels m.grids buffer old
      can-run-game =
          let q5 = first-yes (question5 g start) _ (omega arith) yes in
          let q10 = first-yes (question10 g losses) _ (omega arith) q5.1 in
          let q11 = first-yes (question11 losses) _ (omega arith) q10.1 in
          let q12 = first-yes (question12 (last_grid game levels) buffer) _ (omega arith) q11.1 in
          let q8 = first-yes (level_question8 g levels (length old)) [] (omega arith) q12.1 in
          record {
            factor = range.0;
            some = range.1;
            yes = grids-yes;
            are = made.grids z;
            on_grid = q5.0;
            table = record { whole = eqb-true (length losses) (num_losses g) q10.0; range = q11.0 };
            exact = eqb-true (length buffer) (num_points (last_grid game levels)) q12.0;
            room = leb-true (levels * level_room g) (length old) q8.0;
          }

      pub can-run-all : CanRunAll (game_of m.grids start losses k) levels m.grids buffer old
      can-run-all = subst (λ (r : Refinement). CanRunAll r levels m.grids buffer old) (sym game-same) can-run-game

    -- what was run is the game lent
    pub as_lent : (found : List Level) (b c : List ℕ) → found ≡ levels_of (game_of m.grids start losses k) levels
        → (b ≡ labels (last_grid (game_of m.grids start losses k) levels) losses)
        × (c ≡ numbers_after (game_of m.grids start losses k) levels old)
        → (found ≡ levels_of game levels) × (b ≡ labels (last_grid game levels) losses)
        × (c ≡ numbers_after game levels old)
    as_lent found b c f w = (
      f ∙ ap (λ (r : Refinement). levels_of r levels) game-same,
      w.0 ∙ ap (λ (r : Refinement). labels (last_grid r levels) losses) game-same,
      w.1 ∙ ap (λ (r : Refinement). numbers_after r levels old) game-same,
    )

-- an answer has at most as many levels as its array
pub answer-few : (r : Refinement) (levels : ℕ) (buffer old : List ℕ)
    → ((refine_answer r levels buffer old).count ≤ 8) × (length (refine_answer r levels buffer old).levels ≡ 8)
unfolding refine_answer levels_of
answer-few r levels buffer old =
    ⊎_elim
    (λ (z : refine_refusal r levels buffer old ≡ 0). let w = passed r levels buffer (length old) z in
    rw z (w.levels_range.1, refl))
    (λ (n : refine_refusal r levels buffer old ≡ 0 → ⊥). rw (ne_eqb (refine_refusal r levels buffer old) 0 n)
    (omega arith, refl))
    (same_or (refine_refusal r levels buffer old) 0)
