-- What one place of a pass that writes a trail asks and gives. The writer's own promise does not cite it.
-- Assumes nothing.
use Rattle.std.specs.Prelude.{Bool, cond, List, ◌≡◌, ℕ, ◌+◌, ◌≤◌, ◌<◌, eqb, length}
use Rattle.std.proofs.Math.Seq.{paste}
use Rattle.moves.specs.declared.Status.{Status}
use Rattle.trail_records.specs.Records.{SameSets, first_record, record_from}
use Rattle.rules.specs.Read.{position_at}
use Rattle.rules.specs.Moves.{State}
use Rattle.trail_visits.specs.declared.Before.{Before}

-- the record of a place, at a position of the trail, by what is kept of the place before
abbrev pub record_here : State → Before → ℕ → List ℕ
record_here a before at =
    let come = position_at a a.active in
    cond (eqb at 0) (first_record come) (record_from before.sets.t before.sets.u a.T a.U come before.gone)

pub record HasPositions (a : State) (s : Status) (before : Before) : Type 0 where
  pub active : s.active ≤ s.count
  pub few : s.count ≤ 15
  pub come : position_at a a.active < 65536
  pub gone : before.gone < 65536

-- the record of a place can be made, and stored; rule 1 has kept T and U
pub record CanWrite (a : State) (s : Status) (trail : List ℕ) (at : ℕ) (before : Before) : Type 0 where
  pub positions : HasPositions a s before
  pub room : at + length (record_here a before at) ≤ length trail
  pub kept : a.rule ≡ 1 → 0 < at → SameSets before.sets.t before.sets.u a.T a.U

-- the trail with the record of a place, where the pass writes
abbrev pub with_record : State → List ℕ → ℕ → Before → Bool → List ℕ
with_record a old at before writes =
    let bytes = record_here a before at in
    cond writes (paste old at bytes (length bytes)) old
