-- A game that is named and the same table brought print the same sheet: the two slips are asked alike, and run on the
-- same. Assumes nothing.
use mathlib.Core.Bool.{Bool, true, false, ◌&&◌, ◌||◌, cond, not}
use mathlib.Core.List.{List, [], ◌∷◌, ◌++◌, append_assoc}
use mathlib.Core.Logic.{⊎_elim}
use mathlib.Core.Path.{◌≡◌, refl, sym, ap, ◌∙◌}
use Prim.Native.Nat.{ℕ, zero, suc, ◌+◌, ◌*◌, ◌≤◌, ◌<◌}
use borrow.Author.Rules.{rules}
use borrow.Author.Tests.{ne_eqb, le-leb}
use lib.Dec.{eqb, leb}
use lib.ListN.{length, length-append, get_or, get_or-append}
use lib.Seq.{take-append_seam, get_or-append-add}
use native.Mathlib.Omega.{arith}
use Rattle.combinatorics.proofs.Basics.{absurd_bool, and_both, before_or_not, same_or, true_or_false}
use Rattle.combinatorics.proofs.Lists.{all_in, eqb_self, on_numbers}
use Rattle.combinatorics.proofs.Ranges.{in_up_from}
use Rattle.combinatorics.specs.Lists.{all, same, up_from}
use Rattle.little_endian.proofs.Laws.{words_same, number_same, words-read, length-bytes_of}
use Rattle.little_endian.specs.Numbers.{number, words, bytes_of}
use Rattle.game_built_in.proofs.Games.{table-whole, table-range}
use Rattle.game_built_in.specs.Tables.{game_sizes, game_losses}
use Rattle.grid_points.specs.Grid.{Grid, num_indices, bound}
use Rattle.questions.specs.Questions.{Question, ask, first_no}
use Rattle.grid_points.specs.Questions.{grid_questions, question5}
use Rattle.game_losses.specs.Game.{product, labels}
use Rattle.game_losses.specs.Table.{num_losses}
use Rattle.place.specs.Path.{answer}
use Rattle.place.specs.Problem.{Problem}
use Rattle.place.specs.Questions.{question7}
use Rattle.sheet_lines.specs.Sheet.{refused_sheet}
use Rattle.slip_fields.proofs.Laws.{at_first, at_next, length-there, game-last, losses-last, exact}
use Rattle.slip.proofs.Readings.{refused_13, refused_14, refused-grid}
use Rattle.slip_fields.specs.Slip.{map_bit, is_map, stands, sizes_of, slip_grid, head_length, field_lengths, field_length}
use Rattle.slip_fields.specs.Slip.{field_at}
use Rattle.slip_fields.specs.Slip.{fields_end, default_start}
use Rattle.slip_fields.specs.Slip.{slip_start, slip_budget, slip_game, slip_losses, slip_labels, slip_problem, slip_question11}
use Rattle.slip_fields.specs.Slip.{question13, question14, slip_question15, slip_questions}
use Rattle.printer.proofs.Slips.{refused_by}
use Rattle.printer.specs.OwnGame.{slip_on, OwnGame}
use Rattle.printer.specs.Printed.{answer_sheet, sheet_of}
use Rattle.printer.proofs.Filling.{same_parts}

-- the bits of the two maps
record Bits (others : ℕ) : Type 0 where
  start : map_bit (others + 8) 0 ≡ map_bit (others + 16) 0
  budget : map_bit (others + 8) 1 ≡ map_bit (others + 16) 1
  no_labels : map_bit (others + 8) 2 ≡ false
  no_labels' : map_bit (others + 16) 2 ≡ false
  game : map_bit (others + 8) 3 ≡ true
  no_losses : map_bit (others + 8) 4 ≡ false
  no_game : map_bit (others + 16) 3 ≡ false
  losses : map_bit (others + 16) 4 ≡ true
  map : is_map (others + 8) ≡ true
  map' : is_map (others + 16) ≡ true

bits : (others : ℕ) → others < 4 → Bits others
unfolding is_map
bits zero h = search rules
bits (suc zero) h = search rules
bits (suc (suc zero)) h = search rules
bits (suc (suc (suc zero))) h = search rules
bits (suc (suc (suc (suc n)))) h = absurd (omega arith)

same_self : (xs : List ℕ) → same eqb xs xs ≡ true
same_self [] = refl
same_self (x ∷ xs) = and_both _ _ (eqb_self x) (same_self xs)

-- a sheet by what it is made of
sheet_by : List Question → Grid → Problem → ℕ → List ℕ
sheet_by questions g p budget =
    cond (eqb (first_no questions) 0) (answer_sheet g (answer p budget)) (refused_sheet (first_no questions))

sheet_by_lem : (a b : List ℕ) → slip_questions a ≡ slip_questions b → slip_grid a ≡ slip_grid b → slip_problem a ≡ slip_problem b
    → slip_budget a ≡ slip_budget b
    → sheet_of a ≡ sheet_of b
unfolding sheet_of sheet_by
sheet_by_lem a b q g p n =
    let e : sheet_by (slip_questions a) (slip_grid a) (slip_problem a) (slip_budget a)
    ≡ sheet_by (slip_questions b) (slip_grid b) (slip_problem b) (slip_budget b) =
    cc in
    e

module _ (game others : ℕ) (low : 1 ≤ game) (high : game ≤ 3) (few : others < 4) (divisions between : List ℕ)
    (each : length divisions ≡ length (game_sizes game)) where
  abbrev sizes : List ℕ
  sizes = game_sizes game

  abbrev N : ℕ
  N = length sizes

  -- what both slips have behind N
  abbrev common : List ℕ
  common = sizes ++ (bytes_of divisions ++ between)

  abbrev named : List ℕ
  named = slip_on game (others + 8) divisions between (game ∷ [])

  abbrev brought : List ℕ
  brought = slip_on game (others + 16) divisions between (bytes_of (game_losses game))

  b : Bits others
  b = bits others few

  common_length : length common ≡ 3 * N + length between
  common_length = rw (length-append, length-append, length-bytes_of) (omega (arith, each))

  -- they agree there
  agree : (i : ℕ) → 1 ≤ i → i < 2 + length common → get_or named i 0 ≡ get_or brought i 0
  agree zero l h = absurd (omega arith)
  agree (suc zero) l h = refl
  agree (suc (suc i)) l h = get_or-append common (game ∷ []) 0 i (omega arith)
      ∙ sym (get_or-append common (bytes_of (game_losses game)) 0 i (omega arith))

  sizes-are : (map : ℕ) (last : List ℕ) → sizes_of (slip_on game map divisions between last) ≡ sizes
  sizes-are map last = rw (append_assoc sizes (bytes_of divisions ++ between) last)
      (take-append_seam sizes ((bytes_of divisions ++ between) ++ last))

  same-grid : slip_grid named ≡ slip_grid brought
  same-grid =
      let s = sizes-are (others + 8) (game ∷ []) ∙ sym (sizes-are (others + 16) (bytes_of (game_losses game))) in
      let d = words_same N named brought (2 + N) (2 + length common) (omega (arith, common_length))
      (λ i l h. agree i (omega arith) h) in
      rw (s, d)

  head-named : (question13 named).answered_yes ≡ true
  head-named = and_both _ _
      (le-leb (head_length named) (length named) (omega (arith, common_length, length-append common (game ∷ []))))
      b.map

  head-brought : (question13 brought).answered_yes ≡ true
  head-brought = and_both _ _
      (le-leb (head_length brought) (length brought)
      (omega (arith, common_length, length-append common (bytes_of (game_losses game)))))
      b.map'

  -- the fields before the last begin alike
  same-stands : (k : ℕ) → map_bit (others + 8) k ≡ map_bit (others + 16) k → stands named k ≡ stands brought k
  unfolding stands
  same-stands k e = e

  same_length : (k : ℕ) → map_bit (others + 8) k ≡ map_bit (others + 16) k → field_length named k ≡ field_length brought k
  unfolding field_length
  same_length k e =
      ap (λ (t : Bool). cond t (get_or (field_lengths (slip_grid named)) k 0) 0) (same-stands k e)
      ∙ ap (λ (g : Grid). cond (stands brought k) (get_or (field_lengths g) k 0) 0) same-grid

  at-budget : field_at named 1 ≡ field_at brought 1
  at-budget =
      omega (arith, at_first named, at_first brought, at_next named 0, at_next brought 0, same_length 0 b.start)

  at_last : field_at named 2 ≡ field_at brought 2
  at_last = omega (arith, at-budget, at_next named 1, at_next brought 1, same_length 1 b.budget)

  -- the last field is a game, or losses
  bit_of : (map k : ℕ) (last : List ℕ) (t : Bool) → map_bit map k ≡ t
      → stands (slip_on game map divisions between last) k ≡ t
  unfolding stands
  bit_of map k last t e = e

  game-there : (field_at named 3 ≡ field_at named 2) × (fields_end named ≡ field_at named 2 + 1)
  game-there = game-last named head-named (bit_of (others + 8) 2 (game ∷ []) false b.no_labels)
      (bit_of (others + 8) 3 (game ∷ []) true b.game)

  losses-there : (field_at brought 4 ≡ field_at brought 2)
      × (fields_end brought ≡ field_at brought 2 + 2 * num_losses (slip_grid brought))
  losses-there =
      let last = bytes_of (game_losses game) in
      losses-last brought head-brought (bit_of (others + 16) 2 last false b.no_labels')
      (bit_of (others + 16) 3 last false b.no_game)

  count-is : num_losses (slip_grid brought) ≡ length (game_losses game)
  count-is = ap (λ (ss : List ℕ). length ss * product ss) (sizes-are (others + 16) (bytes_of (game_losses game)))
      ∙ sym (table-whole game)

  long-named : length named ≡ 2 + length common + 1
  long-named = omega (arith, length-append common (game ∷ []))

  long-brought : length brought ≡ 2 + length common + 2 * length (game_losses game)
  long-brought = omega (arith, length-append common (bytes_of (game_losses game)), length-bytes_of (game_losses game))

  -- where the fields named are not the bytes between, 14 refuses both, unless the grid is refused
  inexact : (2 + length common ≡ field_at named 2 → ⊥) → sheet_of named ≡ sheet_of brought
  inexact h =
      let g = slip_grid named in
      let n : ℕ = first_no (grid_questions g) in
      let other : first_no (grid_questions (slip_grid brought)) ≡ n =
      ap (λ (x : Grid). first_no (grid_questions x)) (sym same-grid) in
      ⊎_elim
      (λ (e : n ≡ 0).
      let x = ne_eqb (length named) (fields_end named) (λ f. h (omega (arith, f, long-named, game-there.1))) in
      let y = ne_eqb (length brought) (fields_end brought)
      (λ f. h (omega (arith, f, long-brought, losses-there.1, count-is, at_last))) in
      refused_by named 14 (λ z. omega arith) (refused_14 named head-named e x)
      ∙ sym (refused_by brought 14 (λ z. omega arith) (refused_14 brought head-brought (other ∙ e) y)))
      (λ (e : n ≡ 0 → ⊥). refused_by named n e (refused-grid named n head-named refl e)
      ∙ sym (refused_by brought n e (refused-grid brought n head-brought other e)))
      (same_or n 0)

  -- where they are, the two slips are asked alike and run on the same
  module _ (fits : 2 + length common ≡ field_at named 2) where
    whole-named : (question14 named).answered_yes ≡ true
    whole-named = exact named (omega (arith, fits, long-named, game-there.1))

    whole-brought : (question14 brought).answered_yes ≡ true
    whole-brought = exact brought (omega (arith, fits, long-brought, losses-there.1, count-is, at_last))

    game-is : slip_game named ≡ game
    unfolding slip_game
    game-is =
        let at : field_at named 3 ≡ suc (suc (length common + 0)) = omega (arith, fits, game-there.0) in
        rw at (get_or-append-add common (game ∷ []) 0 0)

    losses-named : slip_losses named ≡ game_losses game
    unfolding slip_losses
    losses-named = rw (bit_of (others + 8) 4 (game ∷ []) false b.no_losses, game-is)

    losses-brought : slip_losses brought ≡ game_losses game
    unfolding slip_losses
    losses-brought =
        let last = bytes_of (game_losses game) in
        let at : field_at brought 4 ≡ suc (suc (length common)) = omega (arith, fits, losses-there.0, at_last) in
        rw (bit_of (others + 16) 4 last true b.losses, at, count-is)
        (words-read ((others + 16) ∷ N ∷ common) (game_losses game))

    known : (slip_question15 named).answered_yes ≡ true
    known =
        rw (bit_of (others + 8) 3 (game ∷ []) true b.game, game-is, sizes-are (others + 8) (game ∷ []))
        (and_both _ _ (and_both _ _ (le-leb 1 game low) (le-leb game 3 high)) (same_self sizes))

    same_start : slip_start named ≡ slip_start brought
    unfolding slip_start
    same_start =
        let m = num_indices (slip_grid named) in
        let read : stands named 0 ≡ true → words m named (field_at named 0) ≡ words m brought (field_at named 0) = λ t.
        words_same m named brought (field_at named 0) (2 + length common)
        (omega (arith, fits, at_next named 0, at_next named 1, length-there named 0 t))
        (λ i l h. agree i (omega (arith, at_first named)) h) in
        ⊎_elim
        (λ (t : stands named 0 ≡ true).
        let u : stands brought 0 ≡ true = sym (same-stands 0 b.start) ∙ t in
        rw (t, u, read t) (again m))
        (λ (t : stands named 0 ≡ false).
        let u : stands brought 0 ≡ false = sym (same-stands 0 b.start) ∙ t in
        rw (t, u) (ap default_start same-grid))
        (true_or_false (stands named 0))
      where
        again : (m : ℕ)
            → words (num_indices (slip_grid named)) brought (field_at named 0)
            ≡ words (num_indices (slip_grid brought)) brought (field_at brought 0)
        again m =
            let at : field_at named 0 ≡ field_at brought 0 = omega (arith, at_first named, at_first brought) in
            ap (λ (g : Grid). words (num_indices g) brought (field_at named 0)) same-grid
            ∙ ap (λ (n : ℕ). words (num_indices (slip_grid brought)) brought n) at

    same-budget : slip_budget named ≡ slip_budget brought
    unfolding slip_budget
    same-budget = ⊎_elim
        (λ (t : stands named 1 ≡ true).
        let u : stands brought 1 ≡ true = sym (same-stands 1 b.budget) ∙ t in
        let read = number_same 8 named brought (field_at named 1) (2 + length common)
        (omega (arith, fits, at_next named 1, length-there named 1 t))
        (λ i l h. agree i (omega (arith, at_first named, at_next named 0)) h) in
        rw (t, u) (read ∙ ap (λ (n : ℕ). number 8 brought n) at-budget))
        (λ (t : stands named 1 ≡ false).
        let u : stands brought 1 ≡ false = sym (same-stands 1 b.budget) ∙ t in
        rw (t, u) (ap bound same-grid))
        (true_or_false (stands named 1))

    same-labels : slip_labels named ≡ slip_labels brought
    unfolding slip_labels
    same-labels = rw (
      bit_of (others + 8) 2 (game ∷ []) false b.no_labels,
      bit_of (others + 16) 2 (bytes_of (game_losses game)) false b.no_labels',
      losses-named,
      losses-brought,
    ) (ap (λ (g : Grid). labels g (game_losses game)) same-grid)

    same-problem : slip_problem named ≡ slip_problem brought
    same-problem = same_parts (slip_grid named) (slip_grid brought) (slip_start named) (slip_start brought)
        (slip_labels named)
        (slip_labels brought) same-grid same_start same-labels

    yes15 : (slip_question15 brought).answered_yes ≡ true
    yes15 = rw (bit_of (others + 16) 3 (bytes_of (game_losses game)) false b.no_game)

    yes11 : (slip_question11 named).answered_yes ≡ true
    yes11 = rw (bit_of (others + 8) 4 (game ∷ []) false b.no_losses)

    range : (slip_question11 brought).answered_yes ≡ true
    range = rw (bit_of (others + 16) 4 (bytes_of (game_losses game)) true b.losses, losses-brought) (table-range game)

    same-questions : slip_questions named ≡ slip_questions brought
    same-questions = asked _ _ _ _ _ _ _ _ (head-named ∙ sym head-brought) (whole-named ∙ sym whole-brought)
        (known ∙ sym yes15) (yes11 ∙ sym range) (slip_grid named) (slip_grid brought) same-grid (slip_problem named)
        (slip_problem brought) same-problem
      where
        asked : (a a' c c' d d' e e' : Bool) → a ≡ a' → c ≡ c' → d ≡ d' → e ≡ e' → (g h : Grid) → g ≡ h
            → (p q : Problem) → p ≡ q
            → ◌≡◌ {A = List Question}
            ((ask 13 a ∷ (grid_questions g ++ (ask 14 c ∷ ask 15 d ∷ [])))
            ++ (ask 11 e ∷ question5 p.grid p.start ∷ question7 p ∷ []))
            ((ask 13 a' ∷ (grid_questions h ++ (ask 14 c' ∷ ask 15 d' ∷ [])))
            ++ (ask 11 e' ∷ question5 q.grid q.start ∷ question7 q ∷ []))
        asked a a' c c' d d' e e' x y z w g h i p q j = rw (x, y, z, w, i, j)

    pub alike : sheet_of named ≡ sheet_of brought
    alike = sheet_by_lem named brought same-questions same-grid same-problem same-budget

-- any other map with bit 3 or bit 4 is refused with 13, whatever stands behind it
abbrev no_map : ℕ → Bool
no_map others = map_bit others 3 || map_bit others 4 || not (is_map (others + 8) || is_map (others + 16))

no_maps : all no_map (up_from 4 252) ≡ true
unfolding is_map
no_maps = refl

no-map : (others : ℕ) → 4 ≤ others → others < 256 → map_bit others 3 ≡ false → map_bit others 4 ≡ false
    → (is_map (others + 8) ≡ false) × (is_map (others + 16) ≡ false)
no-map others low high three four = told (is_map (others + 8)) (is_map (others + 16))
    (rw (three, four) at (all_in on_numbers no_map (up_from 4 252) no_maps others
    (in_up_from 4 252 others (omega arith) (omega arith))))
  where
    told : (a b : Bool) → not (a || b) ≡ true → (a ≡ false) × (b ≡ false)
    told true b e = absurd_bool (sym e)
    told false true e = absurd_bool (sym e)
    told false false e = (refl, refl)

unread : (slip : List ℕ) → is_map (get_or slip 0 0) ≡ false → sheet_of slip ≡ refused_sheet 13
unread slip e = refused_by slip 13 (λ z. omega arith)
    (refused_13 slip (rw e (neither (leb (head_length slip) (length slip)))))
  where
    neither : (b : Bool) → (b && false) ≡ false
    neither true = refl
    neither false = refl

-- one proof over the three games
pub own-game : (game : ℕ) → 1 ≤ game → game ≤ 3 → OwnGame game
own-game game low high = record {
  same = λ others byte three four divisions between each. ⊎_elim
      (λ (few : others < 4). ⊎_elim (alike game others low high few divisions between each)
      (inexact game others low high few divisions between each)
      (same_or (2 + length (game_sizes game ++ (bytes_of divisions ++ between)))
      (field_at (slip_on game (others + 8) divisions between (game ∷ [])) 2)))
      (λ (many : 4 ≤ others).
      let none = no-map others many byte three four in
      unread (slip_on game (others + 8) divisions between (game ∷ [])) none.0
      ∙ sym (unread (slip_on game (others + 16) divisions between (bytes_of (game_losses game))) none.1))
      (before_or_not others 4);
}
