-- Request 02, of sheets: "Filling a gap with any index never changes a sheet that was already printed with an end."
-- Assumes nothing.
use Rattle.std.specs.Prelude.{true, List, ◌++◌, ◌≡◌, ℕ, length, get_or}
use Rattle.place.specs.Ends.{End}
use Rattle.place.specs.Path.{answer, announcement, unknown}
use Rattle.place.specs.Problem.{with_labels}
use Rattle.place.specs.Questions.{question7}
use Rattle.path_laws.specs.Demand.{Fills}
use Rattle.slip_fields.specs.Slip.{stands, field_at, slip_problem, slip_budget, slip_refusal}
use Rattle.printer.specs.Printed.{sheet_of}

-- A slip that ends in the labels it brings, and other labels in their place: as many, from 0 to m, and the same
-- wherever the slip's have an index.
pub record FilledSlip (before labels filling : List ℕ) : Type 0 where
  pub accepted : slip_refusal (before ++ labels) ≡ 0
  pub brings : stands (before ++ labels) 2 ≡ true
  pub seam : field_at (before ++ labels) 2 ≡ length before
  pub as_many : length filling ≡ length labels
  pub in_range : (question7 (with_labels (slip_problem (before ++ labels)) filling)).answered_yes ≡ true
  pub fills : Fills (slip_problem (before ++ labels)) filling

-- The sheet stays, unless it asks for a label that has been filled in; so one "with an end" stays.
pub record SheetFilling (before labels filling : List ℕ) : Type 0 where
  pub same : ((n i : ℕ) → answer (slip_problem (before ++ labels)) (slip_budget (before ++ labels)) ≡ unknown n i
      → get_or filling i 0 ≡ 0)
      → sheet_of (before ++ filling) ≡ sheet_of (before ++ labels)
  pub stays : (n read : ℕ) (e : End)
      → answer (slip_problem (before ++ labels)) (slip_budget (before ++ labels)) ≡ announcement n read e
      → sheet_of (before ++ filling) ≡ sheet_of (before ++ labels)
