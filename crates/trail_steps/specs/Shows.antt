-- A state that holds an unlabelled place: what a reader keeps of the place it has come to. A place is here a chain x of
-- coefficient lists, whose points are `points_of p x`. The reader's own promise does not cite it. Assumes nothing.
use Rattle.std.specs.Prelude.{Bool, true, List, map, ◌≡◌, ℕ, suc, ◌<◌, length}
use Rattle.geometry.proofs.Definitions.{Chain, coord, zeros}
use Rattle.geometry.proofs.LabelledChains.{list_at}
use Rattle.grid_points.specs.Grid.{Point, at, num_indices, position}
use Rattle.place.specs.Places.{Simplex, is_unlabelled_place}
use Rattle.place.specs.Problem.{Problem}
use Rattle.path_laws.proofs.BlocksOfGrid.{blocks_of}
use Rattle.path_laws.proofs.ToChain.{in_t, points_of}
use Rattle.rules.specs.Mask.{bit}
use Rattle.rules.specs.Ready.{IsRound}
use Rattle.rules.specs.Moves.{State, mark}

-- the mark of a point that has no label
abbrev pub bare : Problem → Point → ℕ
bare p y = mark (position p.grid y) 0

pub record Shows (p : Problem) (a : Simplex) (s : State) : Type 0 where
  pub T : ℕ → Bool
  pub t : ℕ
  pub o : ℕ → ℕ
  pub x : List (ℕ → ℕ)
  pub chain : Chain (blocks_of p) T t (list_at x) o
  pub size : length x ≡ suc t
  pub here : points_of p x ≡ a
  pub place : is_unlabelled_place p a ≡ true
  pub is_t : in_t p a ≡ T
  pub round : IsRound p.grid s.round
  pub order_length : length s.order ≡ t
  pub order_at : (j : ℕ) → j < t → at s.order j ≡ o j
  pub first_length : length s.first ≡ 16
  pub first_at : (k : ℕ) → k < num_indices p.grid → at s.first k ≡ coord (blocks_of p) (list_at x 0) k
  pub coefficients_length : length s.coefficients ≡ 16
  pub coefficients_at : (k : ℕ) → k < num_indices p.grid → at s.coefficients k ≡ list_at x 0 k
  pub bits_t : (k : ℕ) → k < 16 → bit s.T k ≡ T k
  pub bits_u : (k : ℕ) → k < 16 → bit s.U k ≡ zeros (blocks_of p) T (list_at x 0) k
  pub marks : s.marks ≡ map (bare p) a
