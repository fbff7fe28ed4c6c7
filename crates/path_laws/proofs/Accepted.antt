-- A table is accepted exactly if questions 1 to 7 are answered yes. Assumes nothing.
use mathlib.Core.List.{[], ◌∷◌}
use mathlib.Core.Path.{◌≡◌, refl}
use Prim.Native.Nat.{◌≤◌}
use borrow.Author.Tests.{eqb-true, le-leb, eq-eqb}
use native.Mathlib.Omega.{arith}
use Rattle.questions.proofs.Answers.{both_yes, first-yes}
use Rattle.questions.specs.Questions.{first_no}
use Rattle.grid_points.proofs.Accepted.{Accepted as GridAccepted, accepted as grid-accepted}
use Rattle.grid_points.proofs.CoordinatesBelow.{low-divisions}
use Rattle.grid_points.specs.Grid.{num_points}
use Rattle.grid_points.specs.Questions.{grid_questions, question5}
use Rattle.place.specs.Problem.{Problem}
use Rattle.place.specs.Questions.{question6, question7, table_questions}
use Rattle.path_laws.specs.Demand.{Accepted, HasStart, HasTable}

-- its grid alone
pub accepted-grid : {p : Problem} → HasStart p → num_points p.grid ≤ 60000 → GridAccepted p.grid
accepted-grid ok few = record {
  some_block = ok.some_block;
  few_blocks = ok.six_blocks;
  sizes_two = ok.sizes;
  few_indices = ok.sixteen_indices;
  same_number = ok.same_number;
  divisions_one = ok.divisions;
  few_points = few;
}

-- the laws of the path hold of an accepted table
pub accepted-table : {p : Problem} → Accepted p → HasTable p
accepted-table ok = record { has_start = ok.has_start; table_length = ok.table_length; labels = ok.labels }

pub accepted_of : (p : Problem) → first_no (table_questions p) ≡ 0 → Accepted p
accepted_of p e =
    let g = p.grid in
    let parts = both_yes (grid_questions g) (question5 g p.start ∷ question6 p ∷ question7 p ∷ []) refl e in
    let a = grid-accepted g parts.0 in
    let q5 = first-yes (question5 g p.start) (question6 p ∷ question7 p ∷ []) (omega arith) parts.1 in
    let q6 = first-yes (question6 p) (question7 p ∷ []) (omega arith) q5.1 in
    let q7 = first-yes (question7 p) [] (omega arith) q6.1 in
    record {
      has_start = record {
        some_block = a.some_block;
        six_blocks = a.few_blocks;
        sizes = a.sizes_two;
        sixteen_indices = a.few_indices;
        same_number = a.same_number;
        divisions = a.divisions_one;
        low = low-divisions g a;
        start = q5.0;
      };
      points = a.few_points;
      table_length = eqb-true _ (num_points g) q6.0;
      labels = q7.0;
    }

pub accepted-is : {p : Problem} → Accepted p → first_no (table_questions p) ≡ 0
unfolding first_no
accepted-is {p} ok = rw (
  le-leb 1 _ ok.has_start.some_block,
  le-leb _ 6 ok.has_start.six_blocks,
  ok.has_start.sizes,
  le-leb _ 16 ok.has_start.sixteen_indices,
  eq-eqb _ _ ok.has_start.same_number,
  ok.has_start.divisions,
  le-leb _ 60000 ok.points,
  ok.has_start.start,
  eq-eqb _ _ ok.table_length,
  ok.labels,
)
