-- The questions up to 15 leave question 11 to a slip's losses, and 5 and 7 to the run, which refuses as the slip's own
-- order of questions does. Assumes nothing.
use mathlib.Core.Bool.{true, false, cond}
use mathlib.Core.List.{List, [], ◌∷◌, ◌++◌}
use mathlib.Core.Logic.{⊎_elim}
use mathlib.Core.Path.{◌≡◌, refl, sym, ap, ◌∙◌}
use Prim.Native.Nat.{ℕ}
use borrow.Author.Tests.{eqb-true, eq-eqb}
use lib.Dec.{eqb}
use lib.ListN.{length, length-map, length-drop, drop}
use lib.Seq.{take_all}
use native.Mathlib.Omega.{arith}
use Rattle.combinatorics.proofs.Basics.{true_or_false}
use Rattle.little_endian.proofs.Laws.{length-words}
use Rattle.game_losses.specs.Game.{game_label, labels}
use Rattle.game_losses.specs.Table.{num_losses, IsTable}
use Rattle.game_built_in.proofs.Games.{game-table}
use Rattle.grid_points.specs.Grid.{num_points, points}
use Rattle.questions.proofs.Answers.{first-yes, first-append, both_yes, asked-next, asked-no}
use Rattle.questions.specs.Questions.{first_no}
use Rattle.grid_points.specs.Questions.{grid_questions, question5}
use Rattle.place.specs.Questions.{question6, question7, question8, run_questions}
use Rattle.slip_fields.proofs.Laws.{length-there, length_absent, labels-last, game-only, losses-only}
use Rattle.slip_fields.specs.Runs.{RefusedAsRead, ThenRuns}
use Rattle.slip_fields.specs.Slip.{stands, slip_grid, slip_start, slip_game, slip_losses, slip_labels, label_field}
use Rattle.slip_fields.specs.Slip.{field_length, field_at, fields_end, slip_problem, slip_refusal}
use Rattle.slip_fields.specs.Slip.{slip_question11, question13, question14, slip_question15, slip_read_questions}
use Rattle.slip_fields.specs.Slip.{later_slip_questions}

module _ (slip : List ℕ) where
  -- 13, then 1 to 4, then 14, then 15
  pub number_is : first_no (slip_read_questions slip)
      ≡ cond (question13 slip).answered_yes
      (cond (eqb (first_no (grid_questions (slip_grid slip))) 0)
      (cond (question14 slip).answered_yes (cond (slip_question15 slip).answered_yes 0 15) 14)
      (first_no (grid_questions (slip_grid slip))))
      13
  unfolding first_no
  number_is = ap
      (λ n. cond (question13 slip).answered_yes n 13)
      (first-append (grid_questions (slip_grid slip)) (question14 slip ∷ slip_question15 slip ∷ []) refl)

  pub refused_as-read : RefusedAsRead slip
  refused_as-read = record {
    refused = λ h. asked-no (slip_read_questions slip) (later_slip_questions slip) (first_no (slip_read_questions slip)) h
        refl;
  }

  -- where none of the questions up to 15 refuses the slip
  module _ (zero : first_no (slip_read_questions slip) ≡ 0) where
    later : slip_refusal slip ≡ first_no (later_slip_questions slip)
    later = asked-next (slip_read_questions slip) (later_slip_questions slip) refl zero

    pub answers : ((question13 slip).answered_yes ≡ true) × (first_no (grid_questions (slip_grid slip)) ≡ 0)
        × ((question14 slip).answered_yes ≡ true) × ((slip_question15 slip).answered_yes ≡ true)
    answers =
        let fields = question14 slip ∷ slip_question15 slip ∷ [] in
        let h = first-yes (question13 slip) (grid_questions (slip_grid slip) ++ fields) (omega arith) zero in
        let g = both_yes (grid_questions (slip_grid slip)) fields refl h.1 in
        let f = first-yes (question14 slip) (slip_question15 slip ∷ []) (omega arith) g.1 in
        (h.0, g.0, f.0, (first-yes (slip_question15 slip) [] (omega arith) f.1).0)

    pub whole : length slip ≡ fields_end slip
    whole = eqb-true (length slip) (fields_end slip) answers.2

    -- the label field is the rest of the slip
    labels-rest : stands slip 2 ≡ true
        → (label_field slip ≡ drop (field_at slip 2) slip)
        × (length (drop (field_at slip 2) slip) ≡ num_points (slip_grid slip))
    unfolding label_field
    labels-rest two =
        let l : length (drop (field_at slip 2) slip) ≡ num_points (slip_grid slip) =
        omega (arith, length-drop (field_at slip 2) slip, whole, labels-last slip answers.0 two) in
        (take_all (field_length slip 2) (drop (field_at slip 2) slip) (omega (arith, l, length-there slip 2 two)), l)

    no_part_lem : stands slip 2 ≡ false → label_field slip ≡ []
    unfolding label_field
    no_part_lem two = rw (length_absent slip 2 two)

    length-labels : length (slip_labels slip) ≡ num_points (slip_grid slip)
    unfolding slip_labels labels
    length-labels = ⊎_elim
        (λ (two : stands slip 2 ≡ true). rw two (ap length (labels-rest two).0 ∙ (labels-rest two).1))
        (λ (two : stands slip 2 ≡ false).
        rw two (length-map (points (slip_grid slip)) (game_label (slip_grid slip) (slip_losses slip))))
        (true_or_false (stands slip 2))

    runs : (slip_question11 slip).answered_yes ≡ true → (room : ℕ) → (question8 (slip_grid slip) room).answered_yes ≡ true
        → first_no (run_questions (slip_problem slip) room) ≡ slip_refusal slip
    unfolding first_no
    runs range room e =
        let p = slip_problem slip in
        let six : (question6 p).answered_yes ≡ true =
        eq-eqb (length (slip_labels slip)) (num_points (slip_grid slip)) length-labels in
        let rest =
        question5 (slip_grid slip) (slip_start slip) ∷ question6 p ∷ question7 p ∷ question8 (slip_grid slip) room ∷ [] in
        asked-next (grid_questions (slip_grid slip)) rest refl answers.1 ∙ (rw (six, e) (sym (later ∙ rw range)))

    out_of_range_lem : (slip_question11 slip).answered_yes ≡ false → slip_refusal slip ≡ 11
    unfolding first_no
    out_of_range_lem e = later ∙ rw e

    is-table : stands slip 2 ≡ false → (slip_question11 slip).answered_yes ≡ true
        → IsTable (slip_grid slip) (slip_losses slip)
    unfolding slip_losses
    is-table two range = ⊎_elim
        (λ (three : stands slip 3 ≡ true). rw (game-only slip answers.0 two three)
        (game-table (slip_grid slip) (slip_game slip) (rw three at answers.3)))
        (λ (three : stands slip 3 ≡ false).
        let four = losses-only slip answers.0 two three in
        rw four
        (record { whole = length-words (num_losses (slip_grid slip)) slip (field_at slip 4); range = rw four at range }))
        (true_or_false (stands slip 3))

    pub then_runs : ThenRuns slip
    unfolding slip_labels
    then_runs =
        record {
          out_of_range = out_of_range_lem;
          runs = runs;
          table = λ two. rw two;
          rest = λ two. (labels-rest two).0;
          no_part = no_part_lem;
          game = λ two. rw two;
          losses = is-table;
        }
