-- Of a long input the sheet depends on its first bytes alone, so a program may stop reading where no slip that is
-- accepted goes on. Assumes nothing.
use mathlib.Core.Bool.{true, false, cond}
use mathlib.Core.List.{List, [], ◌∷◌}
use mathlib.Core.Logic.{⊎_elim}
use mathlib.Core.Path.{◌≡◌, refl, sym, ap, ◌∙◌}
use Prim.Native.Nat.{ℕ, suc, ◌+◌, ◌-◌, ◌≤◌, ◌<◌}
use borrow.Author.Tests.{le-leb, eq-eqb, ne_eqb}
use lib.Dec.{eqb}
use lib.ListN.{length, length-drop, get_or, take, drop}
use lib.Seq.{get_or-take, take-take, take_all, length-take-le}
use native.Mathlib.Nat.{mul-le-mul}
use native.Mathlib.Omega.{arith}
use Rattle.combinatorics.proofs.Basics.{true_or_false, same_or, before_or_not}
use Rattle.little_endian.proofs.Laws.{words_same}
use Rattle.game_losses.proofs.Table.{product-few}
use Rattle.game_losses.specs.Game.{product}
use Rattle.grid_points.proofs.Accepted.{accepted}
use Rattle.grid_points.specs.Grid.{Grid, num_blocks}
use Rattle.questions.specs.Questions.{first_no}
use Rattle.grid_points.specs.Questions.{grid_questions}
use Rattle.sheet_lines.specs.Sheet.{refused_sheet}
use Rattle.slip_fields.proofs.Laws.{at_first, at_next, length-there, length_absent}
use Rattle.slip.proofs.Readings.{refused_13, refused-grid, refused_14}
use Rattle.slip_fields.specs.Slip.{is_map, stands, num_blocks_of, slip_grid, field_lengths, field_length, fields_end}
use Rattle.slip_fields.specs.Slip.{head_length}
use Rattle.slip_fields.specs.Slip.{question13, question14}
use Rattle.printer.proofs.Slips.{refused_by}
use Rattle.printer.specs.Printed.{sheet_of}

-- no slip that is accepted is longer: 20 bytes of map, N, sizes and divisions, 32 of the start, 8 of the budget, 60,000
-- labels, the game and 1,944 losses. (Only one of the last three is there, so 60,060 bytes are the most.)
abbrev pub longest : ℕ
longest = 63949

-- what refuses a longer one
abbrev long_refusal : ℕ → Grid → ℕ
long_refusal map g = cond (is_map map) (cond (eqb (first_no (grid_questions g)) 0) 14 (first_no (grid_questions g))) 13

module _ (slip : List ℕ) (byte : num_blocks_of slip ≤ 255) (long : longest < length slip) where
  field_most : (k : ℕ) → field_length slip k ≤ get_or (field_lengths (slip_grid slip)) k 0
  field_most k = ⊎_elim
      (λ y. omega (arith, length-there slip k y))
      (λ n. omega (arith, length_absent slip k n))
      (true_or_false (stands slip k))

  too_long : first_no (grid_questions (slip_grid slip)) ≡ 0 → fields_end slip < length slip
  too_long e =
      let a = accepted (slip_grid slip) e in
      let most = mul-le-mul {n₁ = num_blocks (slip_grid slip)} {m₁ = product (slip_grid slip).sizes} {n₂ = 6} {m₂ = 324}
      a.few_blocks (product-few (slip_grid slip).sizes a.few_indices) in
      let blocks = length-take-le (num_blocks_of slip) (drop 2 slip) (omega (arith, length-drop 2 slip)) in
      omega (
        arith,
        a.few_blocks,
        blocks,
        a.few_indices,
        a.few_points,
        at_first slip,
        at_next slip 0,
        at_next slip 1,
        at_next slip 2,
        at_next slip 3,
        at_next slip 4,
        field_most 0,
        field_most 1,
        field_most 2,
        field_most 3,
        field_most 4,
        most,
      )

  no_fields : (question13 slip).answered_yes ≡ true → first_no (grid_questions (slip_grid slip)) ≡ 0
      → sheet_of slip ≡ refused_sheet 14
  no_fields q e =
      let more : (question14 slip).answered_yes ≡ false =
      ne_eqb (length slip) (fields_end slip) (λ f. omega (arith, f, too_long e)) in
      refused_by slip 14 (λ z. omega arith) (refused_14 slip q e more)

  long-sheet : sheet_of slip ≡ refused_sheet (long_refusal (get_or slip 0 0) (slip_grid slip))
  long-sheet =
      let n = first_no (grid_questions (slip_grid slip)) in
      let head = le-leb (head_length slip) (length slip) (omega arith) in
      ⊎_elim
      (λ m.
      let q : (question13 slip).answered_yes ≡ true = rw head m in
      ⊎_elim
      (λ e. rw (m, eq-eqb n 0 e) (no_fields q e))
      (λ h. rw (m, ne_eqb n 0 h) (refused_by slip n h (refused-grid slip n q refl h)))
      (same_or n 0))
      (λ m.
      let q : (question13 slip).answered_yes ≡ false = rw head m in
      rw m (refused_by slip 13 (λ z. omega arith) (refused_13 slip q)))
      (true_or_false (is_map (get_or slip 0 0)))

drop_cut : (n : ℕ) (slip : List ℕ) → drop 2 (take (suc (suc n)) slip) ≡ take n (drop 2 slip)
drop_cut n [] = sym (take_all n [] (omega arith))
drop_cut n (x ∷ []) = sym (take_all n [] (omega arith))
drop_cut n (x ∷ y ∷ slip) = refl

module _ (slip : List ℕ) (n : ℕ) (byte : num_blocks_of slip ≤ 255) (enough : longest < n) where
  same-grid : slip_grid (take n slip) ≡ slip_grid slip
  same-grid =
      let N = num_blocks_of slip in
      let blocks = get_or-take n slip 1 0 (omega arith) in
      let two : n ≡ suc (suc (n - 2)) = omega arith in
      let sizes : take N (drop 2 (take n slip)) ≡ take N (drop 2 slip) =
      rw (two, drop_cut (n - 2) slip) (take-take N (n - 2) (drop 2 slip) (omega arith)) in
      let divisions = words_same N (take n slip) slip (2 + N) n (omega arith) (λ i l h. get_or-take n slip i 0 h) in
      rw (blocks, sizes, divisions)

  -- the sheet of what was read of a long input is the input's
  pub cut_alike : sheet_of (take n slip) ≡ sheet_of slip
  cut_alike =
      ⊎_elim
      (λ l. let kept = length-take-le n slip (omega arith) in
      let blocks = get_or-take n slip 1 0 (omega arith) in
      long-sheet (take n slip) (omega (arith, blocks)) (omega (arith, kept))
      ∙ ap (λ (map : ℕ). refused_sheet (long_refusal map (slip_grid (take n slip)))) (get_or-take n slip 0 0 (omega arith))
      ∙ ap (λ (g : Grid). refused_sheet (long_refusal (get_or slip 0 0) g)) same-grid
      ∙ sym (long-sheet slip byte (omega arith)))
      (λ l. ap sheet_of (take_all n slip l))
      (before_or_not n (length slip))
