-- Filling gaps in the labels that a slip brings changes no sheet but one that asks for a label: the two slips are asked
-- alike, and run on the two tables. Assumes nothing.
use mathlib.Core.Bool.{Bool, true, false, cond}
use mathlib.Core.List.{List, [], ◌∷◌, ◌++◌}
use mathlib.Core.Logic.{⊎_elim}
use mathlib.Core.Path.{◌≡◌, refl, sym, ap, ◌∙◌}
use Prim.Native.Nat.{ℕ, zero, suc, ◌+◌, ◌*◌, ◌≤◌, ◌<◌}
use borrow.Author.Tests.{le-leb}
use lib.ListN.{length, length-append, length-drop, get_or, take, drop, get_or-append}
use lib.Seq.{take-append-le, drop-append-le, drop-append_seam, take_all}
use native.Mathlib.Omega.{arith}
use Rattle.combinatorics.proofs.Basics.{true_or_false}
use Rattle.little_endian.proofs.Laws.{words_same, number_same}
use Rattle.little_endian.specs.Numbers.{number, words}
use Rattle.finder.proofs.Demand.{unrefused}
use Rattle.grid_points.specs.Grid.{Grid, Point, dimension, num_indices, num_points, bound}
use Rattle.grid_points.specs.Questions.{grid_questions, question5}
use Rattle.questions.proofs.Answers.{asked-next, both_yes, first-yes}
use Rattle.questions.specs.Questions.{ask, first_no}
use Rattle.place.specs.Path.{answer}
use Rattle.place.specs.Problem.{Problem, with_labels}
use Rattle.place.specs.Questions.{question7}
use Rattle.path_laws.proofs.Accepted.{accepted-table}
use Rattle.path_laws.proofs.Filling.{filling_holds}
use Rattle.path_laws.specs.Demand.{Accepted, Filling}
use Rattle.slip_fields.proofs.Laws.{exact, at_first, at_next, length-there, labels-only, labels-last}
use Rattle.slip_fields.proofs.Runs.{answers, whole, then_runs}
use Rattle.slip_fields.specs.Slip.{stands, num_blocks_of, slip_grid, head_length, field_lengths, field_length, field_at}
use Rattle.slip_fields.specs.Slip.{default_start}
use Rattle.slip_fields.specs.Slip.{slip_start, slip_budget, slip_labels, label_field, slip_problem, slip_refusal}
use Rattle.slip_fields.specs.Slip.{slip_question11, question13, question14, slip_question15, slip_read_questions}
use Rattle.slip_fields.specs.Slip.{later_slip_questions}
use Rattle.printer.specs.Filling.{FilledSlip, SheetFilling}
use Rattle.printer.specs.Printed.{answer_sheet, sheet_of}

-- a slip that no question refuses is read
read_by : (slip : List ℕ) → slip_refusal slip ≡ 0 → first_no (slip_read_questions slip) ≡ 0
read_by slip e = (both_yes (slip_read_questions slip) (later_slip_questions slip) refl e).0

-- all questions of a slip are answered yes
all_asked : (a c d e f s : Bool) (g : Grid) → a ≡ true → first_no (grid_questions g) ≡ 0
    → c ≡ true → d ≡ true → e ≡ true → f ≡ true → s ≡ true
    → first_no ((ask 13 a ∷ (grid_questions g ++ (ask 14 c ∷ ask 15 d ∷ []))) ++ (ask 11 e ∷ ask 5 f ∷ ask 7 s ∷ [])) ≡ 0
unfolding first_no
all_asked a c d e f s g x grid y z w u v =
    rw (x, y, z, w, u, v)
    (asked-next (grid_questions g ++ (ask 14 true ∷ ask 15 true ∷ []))
    (ask 11 true ∷ ask 5 true ∷ ask 7 true ∷ []) refl
    (asked-next (grid_questions g) (ask 14 true ∷ ask 15 true ∷ []) refl grid))

-- problems with the same grid, start and labels
pub same_parts : (g h : Grid) (x y k l : List ℕ) → g ≡ h → x ≡ y → k ≡ l
    → ◌≡◌ {A = Problem} (record { grid = g; start = x; labels = k }) (record { grid = h; start = y; labels = l })
same_parts g h x y k l e f i = rw (e, f, i)

module _ (before labels filling : List ℕ) (F : FilledSlip before labels filling) where
  abbrev old : List ℕ
  old = before ++ labels

  abbrev new : List ℕ
  new = before ++ filling

  -- the old slip is read, and its labels are the last field
  read : first_no (slip_read_questions old) ≡ 0
  read = read_by old F.accepted

  none : (stands old 3 ≡ false) × (stands old 4 ≡ false)
  none = labels-only old (answers old read).0 F.brings

  head : head_length old ≤ length before
  head = omega (arith, at_first old, at_next old 0, at_next old 1, F.seam)

  many : length labels ≡ num_points (slip_grid old)
  many = omega (
    arith,
    whole old read,
    labels-last old (answers old read).0 F.brings,
    F.seam,
    length-append before labels,
  )

  same_length : length old ≡ length new
  same_length = omega (arith, length-append before labels, length-append before filling, F.as_many)

  -- before the labels both slips are the same
  agree : (i : ℕ) → i < length before → get_or old i 0 ≡ get_or new i 0
  agree i h = get_or-append before labels 0 i h ∙ sym (get_or-append before filling 0 i h)

  sizes_by : (last : List ℕ) (n : ℕ) → 2 + n ≤ length before → take n (drop 2 (before ++ last)) ≡ take n (drop 2 before)
  sizes_by last n h = rw (drop-append-le 2 before last (omega arith))
      (take-append-le n (drop 2 before) last (omega (arith, length-drop 2 before)))

  same_blocks : num_blocks_of old ≡ num_blocks_of new
  same_blocks = agree 1 (omega (arith, head))

  same-grid : slip_grid old ≡ slip_grid new
  same-grid =
      let N = num_blocks_of old in
      let fits : 2 + N ≤ length before = omega (arith, head) in
      let s = sizes_by labels N fits ∙ sym (sizes_by filling N fits) in
      let d = words_same N old new (2 + N) (length before) (omega (arith, head)) (λ i l h. agree i h) in
      rw (s, d, same_blocks)

  same-stands : (k : ℕ) → stands old k ≡ stands new k
  unfolding stands
  same-stands k = rw (agree 0 (omega (arith, head)))

  same_field : (k : ℕ) → field_length old k ≡ field_length new k
  unfolding field_length
  same_field k =
      ap (λ (t : Bool). cond t (get_or (field_lengths (slip_grid old)) k 0) 0) (same-stands k)
      ∙ ap (λ (g : Grid). cond (stands new k) (get_or (field_lengths g) k 0) 0) same-grid

  same_at : (k : ℕ) → field_at old k ≡ field_at new k
  same_at zero = omega (arith, at_first old, at_first new, same_blocks)
  same_at (suc k) = omega (arith, at_next old k, at_next new k, same_at k, same_field k)

  same_start : slip_start old ≡ slip_start new
  unfolding slip_start
  same_start =
      let m = num_indices (slip_grid old) in
      ⊎_elim
      (λ (t : stands old 0 ≡ true).
      let u : stands new 0 ≡ true = sym (same-stands 0) ∙ t in
      let fits : field_at old 0 + 2 * m ≤ length before =
      omega (arith, at_next old 0, at_next old 1, length-there old 0 t, F.seam)
      in
      let w = words_same m old new (field_at old 0) (length before) fits (λ i l h. agree i h) in
      rw (t, u)
      (w
      ∙ ap (λ (g : Grid). words (num_indices g) new (field_at old 0)) same-grid
      ∙ ap (λ (n : ℕ). words (num_indices (slip_grid new)) new n) (same_at 0)))
      (λ (t : stands old 0 ≡ false).
      let u : stands new 0 ≡ false = sym (same-stands 0) ∙ t in rw (t, u) (ap default_start same-grid))
      (true_or_false (stands old 0))

  same-budget : slip_budget old ≡ slip_budget new
  unfolding slip_budget
  same-budget = ⊎_elim
      (λ (t : stands old 1 ≡ true).
      let fits : field_at old 1 + 8 ≤ length before = omega (arith, at_next old 1, length-there old 1 t, F.seam) in
      let w = number_same 8 old new (field_at old 1) (length before) fits (λ i l h. agree i h) in
      let u : stands new 1 ≡ true = sym (same-stands 1) ∙ t in
      rw (t, u) (w ∙ ap (λ (n : ℕ). number 8 new n) (same_at 1)))
      (λ (t : stands old 1 ≡ false).
      let u : stands new 1 ≡ false = sym (same-stands 1) ∙ t in
      rw (t, u) (ap bound same-grid))
      (true_or_false (stands old 1))

  -- each runs on its own labels
  labels_by : (last : List ℕ) (n : ℕ) → length last ≡ n → take n (drop (length before) (before ++ last)) ≡ last
  labels_by last n e = rw (drop-append_seam before last) (take_all n last (omega (arith, e)))

  labels-old : slip_labels old ≡ labels
  unfolding slip_labels label_field
  labels-old = rw (F.brings, F.seam)
      (labels_by labels (field_length old 2) (omega (arith, many, length-there old 2 F.brings)))

  labels_new : slip_labels new ≡ filling
  unfolding slip_labels label_field
  labels_new =
      rw (sym (same-stands 2), F.brings, sym (same_at 2), F.seam, sym (same_field 2))
      (labels_by filling (field_length old 2) (omega (arith, many, length-there old 2 F.brings, F.as_many)))

  abbrev p : Problem
  p = slip_problem old

  same-problem : slip_problem new ≡ with_labels p filling
  same-problem =
      same_parts (slip_grid new) (slip_grid old) (slip_start new) (slip_start old) (slip_labels new) filling
      (sym same-grid) (sym same_start) labels_new

  -- of the questions only 7 is asked of other labels, and it is answered yes of both
  yes : ((slip_question11 old).answered_yes ≡ true) × ((question5 (slip_grid old) (slip_start old)).answered_yes ≡ true)
  yes =
      let late = (both_yes (slip_read_questions old) (later_slip_questions old) refl F.accepted).1 in
      let a =
      first-yes (slip_question11 old) (question5 (slip_grid old) (slip_start old) ∷ question7 p ∷ []) (omega arith) late in
      (a.0, (first-yes (question5 (slip_grid old) (slip_start old)) (question7 p ∷ []) (omega arith) a.1).0)

  yes13 : (question13 new).answered_yes ≡ true
  yes13 = rw (same_blocks, same_length, agree 0 (omega (arith, head))) at (answers old read).0

  yes14 : (question14 new).answered_yes ≡ true
  yes14 = exact new (omega (arith, same_length, whole old read, same_at 5))

  yes15 : (slip_question15 new).answered_yes ≡ true
  yes15 = rw (sym (same-stands 3), none.0)

  yes11 : (slip_question11 new).answered_yes ≡ true
  yes11 = rw (sym (same-stands 4), none.1)

  yes5 : (question5 (slip_grid new) (slip_start new)).answered_yes ≡ true
  yes5 =
      sym (ap (λ (g : Grid). (question5 g (slip_start new)).answered_yes) same-grid)
      ∙ sym (ap (λ (x : Point). (question5 (slip_grid old) x).answered_yes) same_start)
      ∙ yes.1

  yes7 : (question7 (slip_problem new)).answered_yes ≡ true
  yes7 = ap (λ (q : Problem). (question7 q).answered_yes) same-problem ∙ F.in_range

  accepted-new : slip_refusal new ≡ 0
  accepted-new =
      let grid = ap (λ (g : Grid). first_no (grid_questions g)) (sym same-grid) ∙ (answers old read).1 in
      all_asked _ _ _ _ _ _ (slip_grid new) yes13 grid yes14 yes15 yes11 yes5 yes7

  -- a run with room for its answer asks nothing more
  accepted_by : (slip : List ℕ) → slip_refusal slip ≡ 0 → (slip_question11 slip).answered_yes ≡ true
      → Accepted (slip_problem slip)
  accepted_by slip e range =
      let room = suc (dimension (slip_grid slip)) * num_indices (slip_grid slip) in
      unrefused (slip_problem slip) room
      ((then_runs slip (read_by slip e)).runs range room (le-leb room room (omega arith)) ∙ e)

  filled : Filling p filling
  filled =
      let new-accepted : Accepted (with_labels p filling) = rw (sym same-problem) (accepted_by new accepted-new yes11) in
      filling_holds (accepted-table (accepted_by old F.accepted yes.0)) (accepted-table new-accepted) F.fills

  printed : (slip : List ℕ) → slip_refusal slip ≡ 0
      → sheet_of slip ≡ answer_sheet (slip_grid slip) (answer (slip_problem slip) (slip_budget slip))
  unfolding sheet_of
  printed slip e = rw e

  same-sheet : answer (with_labels p filling) (slip_budget old) ≡ answer p (slip_budget old) → sheet_of new ≡ sheet_of old
  same-sheet e =
      printed new accepted-new
      ∙ sym (ap (λ (g : Grid). answer_sheet g (answer (slip_problem new) (slip_budget new))) same-grid)
      ∙ ap (answer_sheet (slip_grid old))
      (ap (λ (q : Problem). answer q (slip_budget new)) same-problem
      ∙ sym (ap (answer (with_labels p filling)) same-budget)
      ∙ e)
      ∙ sym (printed old F.accepted)

  pub sheet_filling : SheetFilling before labels filling
  sheet_filling = record {
    same = λ h. same-sheet (filled.same (slip_budget old) h);
    stays = λ n read e r. same-sheet (filled.stays (slip_budget old) n read e r ∙ sym r);
  }
