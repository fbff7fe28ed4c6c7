-- What the call that reports where the path came nearest writes beside a run's facts. Assumes nothing.
use Rattle.std.specs.Prelude.{List, [], ◌∷◌, None, Option, Some, ◌≡◌, ℕ}
use Rattle.finder.specs.Numbers.{run_facts, run_number}
use Rattle.nearest.specs.declared.Report.{Report}
use Rattle.nearest_pass.specs.declared.Vertex.{Vertex}

-- "report the table position of the visited vertex nearest to it", and "the result gives how much was written"; a
-- refusal "no count"
abbrev pub near_facts : Option Vertex → List ℕ
near_facts None = []
near_facts (Some v) = v.position ∷ v.listed ∷ []

-- The numbers tell the answer: two reports with the same number, the same facts and the same two numbers are the same.
abbrev pub NearNumbersTell : Type 0
NearNumbersTell = (a b : Report) → run_number a.run ≡ run_number b.run → run_facts a.run ≡ run_facts b.run
    → near_facts a.nearest ≡ near_facts b.nearest → a ≡ b
