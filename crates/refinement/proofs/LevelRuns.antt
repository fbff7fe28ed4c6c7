-- One level: its labels and its run, behind all questions. Assumes nothing.
use mathlib.Core.List.{List}
use mathlib.Core.Path.{◌≡◌, refl, ap, ◌∙◌}
use Prim.Native.Nat.{ℕ}
use lib.ListN.{length}
use Rattle.combinatorics.specs.Front.{front}
use Rattle.end_kinds.specs.declared.Kind.{Kind}
use Rattle.finder.specs.Asked.{CanRun as CanAnnounce}
use Rattle.finder.specs.Run.{case_of, numbers_of}
use Rattle.finder.specs.declared.answers.RunAnswer.{RunAnswer}
use Rattle.finder.specs.declared.answers.RunAnswer.TheVariants.{Refused, Spent, Unknown, End}
use Rattle.game_labels.proofs.AllLabels.{labels_length}
use Rattle.grid_points.proofs.Accepted.{accepted}
use Rattle.grid_points.specs.Grid.{bound}
use Rattle.grid.specs.Made.{shape}
use Rattle.grid.specs.declared.Grid.{Grid as GridStruct}
use Rattle.refinement_levels.proofs.Claims.{numbers-are}
use Rattle.refinement_levels.proofs.Starts.{game_full}
use Rattle.refinement_levels.specs.Levels.{end_of, game_problem}
use Rattle.game_losses.specs.Game.{labels}
use Rattle.marks.specs.Reading.{problem_from}
use Rattle.place.specs.Path.{answer}
use Rattle.place.specs.Problem.{Problem}
use Rattle.path_laws.proofs.Filled.{full_accepted}
use Rattle.positions.specs.Binomials.{HasBinomials}
use Rattle.refinement.specs.Answer.{level_of, no_level}
use Rattle.refinement.specs.Runs.{CanRunLevel, numbers_in}

-- what is no end
pub not_end : (a : RunAnswer)
    → ((places read : ℕ) (kind : Kind) (block vertices : ℕ) → a ≡ End places read kind block vertices → ⊥)
    → level_of a ≡ no_level
not_end (Refused number) h = refl
not_end (Spent places) h = refl
not_end (Unknown places position) h = refl
not_end (End places read kind block vertices) h = absurd (h places read kind block vertices refl)

module _ (g : GridStruct) (start losses : List ℕ) (label_room room : ℕ) (ok : CanRunLevel g start losses label_room room)
    (table : List ℕ) (is : table ≡ labels (shape g) losses) where
  same-problem : problem_from g start table ≡ game_problem (shape g) start losses
  same-problem = ap (problem_from g start) is

  pub can_announce : (binomials buffer : List ℕ) → HasBinomials (shape g) binomials → length buffer ≡ room
      → CanAnnounce g binomials start table buffer
  can_announce binomials buffer filled e =
      let full = game_full (shape g) start losses ok.made.accepted ok.on_grid in
      record {
        readable = record { made = ok.made; filled = filled; whole = rw is (labels_length (shape g) losses) };
        accepted = rw is (full_accepted full (accepted (shape g) ok.made.accepted).few_points);
        room = rw e ok.enough;
      }

  module _ (budget : ℕ) (b : budget ≡ bound (shape g)) where
    ended : answer (problem_from g start table) budget ≡ end_of (game_problem (shape g) start losses)
    ended =
        ap (λ (n : ℕ). answer (problem_from g start table) n) b ∙ ap (λ (p : Problem). answer p (bound (shape g)))
        same-problem

    pub told : (a : RunAnswer) → a ≡ case_of (answer (problem_from g start table) budget)
        → level_of a ≡ level_of (case_of (end_of (game_problem (shape g) start losses)))
    told a e = ap level_of (e ∙ ap case_of ended)

    pub written : (old now : List ℕ) → now ≡ front (numbers_of (answer (problem_from g start table) budget)) old
        → now ≡ front (numbers_in (game_problem (shape g) start losses)) old
    written old now e =
        e ∙ ap (λ (l : List ℕ). front l old)
        (ap numbers_of ended ∙ numbers-are (end_of (game_problem (shape g) start losses)))
