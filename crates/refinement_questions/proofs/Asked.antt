-- Questions 5, 10, 11, 12 and 8: which is the first that is answered no. Assumes nothing.
use mathlib.Core.Bool.{true, false}
use mathlib.Core.List.{List}
use mathlib.Core.Path.{◌≡◌}
use Prim.Native.Nat.{ℕ, ◌*◌, ◌≤◌, ◌<◌}
use borrow.Author.Tests.{eq-eqb, le-leb, lt-leb, ne_eqb}
use lib.ListN.{length}
use Rattle.combinatorics.specs.Lists.{all}
use Rattle.grid_points.specs.Grid.{Grid, is_grid_point}
use Rattle.refinement_levels.specs.Questions.{level_room}
use Rattle.game_losses.specs.Table.{in_range, num_losses}
use Rattle.questions.specs.Questions.{first_no}
use Rattle.refinement_questions.specs.Later.{asked_behind}

module _ (g : Grid) (points : ℕ) (start losses : List ℕ) (levels label_room room : ℕ) where
  abbrev number : ℕ
  number = first_no (asked_behind g points start losses levels label_room room)

  pub no_start : is_grid_point g start ≡ false → 5 ≡ number
  unfolding first_no
  no_start on = rw on

  module _ (on : is_grid_point g start ≡ true) where
    pub no_length : (length losses ≡ num_losses g → ⊥) → 10 ≡ number
    unfolding first_no
    no_length n = rw (on, ne_eqb (length losses) (num_losses g) n)

    module _ (whole : length losses ≡ num_losses g) where
      pub no-range : all in_range losses ≡ false → 11 ≡ number
      unfolding first_no
      no-range e = rw (on, eq-eqb (length losses) (num_losses g) whole, e)

      module _ (range : all in_range losses ≡ true) where
        pub no_buffer : (label_room ≡ points → ⊥) → 12 ≡ number
        unfolding first_no
        no_buffer n = rw (on, eq-eqb (length losses) (num_losses g) whole, range, ne_eqb label_room points n)

        module _ (exact : label_room ≡ points) where
          pub no_room : room < levels * level_room g → 8 ≡ number
          unfolding first_no
          no_room l =
              rw (
                on,
                eq-eqb (length losses) (num_losses g) whole,
                range,
                eq-eqb label_room points exact,
                lt-leb
                    (levels * level_room g) room l,
              )

          pub none-no : levels * level_room g ≤ room → ◌≡◌ {A = ℕ} 0 number
          unfolding first_no
          none-no l =
              rw (
                on,
                eq-eqb (length losses) (num_losses g) whole,
                range,
                eq-eqb label_room points exact,
                le-leb
                    (levels * level_room g) room l,
              )
