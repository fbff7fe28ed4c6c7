-- A pass that stands at a place of the path: what a look at the place asks and tells, and where the move from it leads.
-- Every loop along the path cites these laws. Assumes nothing.
use mathlib.Core.List.{List, map}
use mathlib.Core.Path.{◌≡◌, refl, sym, subst}
use Prim.Native.Nat.{ℕ, suc, ◌+◌, ◌-◌, ◌^◌, ◌<◌}
use native.Mathlib.Omega.{arith}
use Rattle.combinatorics.proofs.EditsOfArrays.{counted}
use Rattle.combinatorics.specs.Lists.{sum, up_from}
use Rattle.grid_points.specs.Grid.{at}
use Rattle.grid.specs.Made.{IsMade, shape}
use Rattle.grid.specs.declared.Grid.{Grid as GridStruct}
use Rattle.marks.specs.Reading.{CanFind, table_problem}
use Rattle.moves.specs.Held.{answered, state_of}
use Rattle.end_kinds.specs.declared.Kind.TheVariants.{Facet as facet_end, Place as place_end}
use Rattle.arrays.specs.declared.holding.Held.{Held}
use Rattle.moves.specs.declared.Outcome.{Outcome}
use Rattle.moves.specs.declared.Outcome.TheVariants.{FacetEnd, Moved, PlaceEnd}
use Rattle.moves.specs.declared.Status.{Status}
use Rattle.path_laws.proofs.Filled.{filled_table}
use Rattle.path_laws.specs.Demand.{Accepted}
use Rattle.place.specs.Path.{answer, unknown}
use Rattle.place.specs.Problem.{Problem}
use Rattle.rules.proofs.Follow.{NextAt}
use Rattle.rules.specs.Read.{read}
use Rattle.rules.specs.Ready.{IsRound, RoundBelow}
use Rattle.rules.specs.Moves.{State, make_move}
use Rattle.rules.specs.declared.Round.{Round}
use Rattle.path_pass.specs.Finish.{CanVisit, Finished, HasBegun, IsKnown, IsUnknown, ended_of, labels_at, on_of}
use Rattle.path_pass.specs.Finish.{problem_in}
use Rattle.path_pass.specs.Looking.{LooksUp}
use Rattle.std.proofs.Common.{Ok}
use Rattle.path_pass.specs.declared.Stand.{Stand}
use Rattle.path_pass.proofs.Places.{IsRead, looked_up}
use Rattle.path_pass.proofs.Visits.{HasRead, OnPath, announced-facet, announced-place, asked, goes_on, leads}
use Rattle.path_pass.proofs.Visits.{begins, begins-reading, reads_fit, reads_on, visits}

-- the pass stands at place number `visited`, from 0
pub record Passing (p : Problem) (visited : ℕ) (a : Stand) (s : State) : Type 0 where
  pub here : OnPath p s visited
  pub read : HasRead p visited a.labels

-- at {v}
pub passes-first : (g : GridStruct) → IsMade g → (old new : Held) (table : List ℕ) → Accepted (problem_in g old.first table)
    → {round : Round} → IsRound (shape g) round → (stand : Stand) → HasBegun old new g.indices stand
    → Passing (problem_in g old.first table) 0 stand (state_of round new stand.status)
passes-first g made old new table ok N stand B = record {
  here = rw (B.first, B.no_coefficients, B.no_marks)
      (begins g made old.first table ok N old.first_long new.order stand.status B.status);
  read = begins-reading (problem_in g old.first table) stand.labels 1 B.labels refl;
}

-- such a place, which is not past the budget: grid and table, and what is held of it
pub record Place : Type 0 where
  pub g : GridStruct
  pub made : IsMade g
  pub start : List ℕ
  pub table : List ℕ
  pub ok : Accepted (problem_in g start table)
  pub round : Round
  pub held : Held
  pub budget : ℕ
  pub visited : ℕ
  pub stand : Stand
  pub passing : Passing (problem_in g start table) visited stand (state_of round held stand.status)
  pub more : visited < budget
  pub below : RoundBelow round
  pub tails : List ℕ
  pub sums : (k : ℕ) → k < g.indices → at tails k ≡ sum (map (at start) (up_from k (g.indices - k)))

module _ (P : Place) where
  abbrev a : Stand
  a = P.stand

  abbrev p : Problem
  p = problem_in P.g P.start P.table

  abbrev s : State
  s = state_of P.round P.held a.status

  abbrev k : ℕ
  k = P.visited

  pub counted-on : k + 1 ≡ suc k
  counted-on = omega arith

  visited : CanVisit P.g P.tails P.table s
  visited = visits P.g P.made P.start P.table P.ok s k P.passing.here P.below P.tails P.sums

  -- the look
  pub can_look : a.status.rule < 6 → CanFind P.g P.tails s a.status
  can_look r = record {
    reads = visited.reads r;
    marks = visited.marks r;
    many = counted P.held.order a.status.count P.held.order_long (visited.reads r).point.few;
  }

  pub has_looked : (held : Held) {x : Unit}
      → LooksUp (table_problem P.g P.table) P.round P.held held a.status (Ok x)
      → IsRead (table_problem P.g P.table) s P.round held a.status
  has_looked held L = looked_up (table_problem P.g P.table) P.round P.held held a.status L visited.ready

  pub asks : {place : ℕ} → IsUnknown (table_problem P.g P.table) s place → answer p P.budget ≡ unknown k place
  asks U =
      asked P.g P.made P.start P.table P.ok s k P.passing.here
      (record { reads = U.reads; zero = U.zero; at = U.at }) P.budget P.more

-- the state at a place
abbrev pub stands : Place → State
stands P = s P

-- the move from there, once its label is known, has led to an outcome
pub record MovesTo (P : Place) (held : Held) (o : Outcome) : Type 0 where
  pub known : IsKnown (table_problem P.g P.table) (s P)
  pub moves : answered P.round held P.stand.status o ≡ make_move (read (table_problem P.g P.table) (s P))

module _ (P : Place) {held : Held} where
  pub onward : {o : Outcome} → MovesTo P held o
      → NextAt (filled_table (p P)) (k P) (answered P.round held P.stand.status o)
  onward M = leads P.g P.made P.start P.table P.ok (s P) (k P) P.passing.here M.known _ M.moves

  module _ {status : Status} (M : MovesTo P held (Moved status)) where
    pub goes-next : OnPath (p P) (state_of P.round held status) (suc (k P))
    goes-next =
        goes_on P.g P.made P.start P.table P.ok (s P) (k P) P.passing.here M.known (onward M)

    passes : Passing (p P) (suc (k P)) (on_of P.stand status) (state_of P.round held status)
    passes = record {
      here = goes-next;
      read = reads_on P.g P.made P.start P.table P.ok (s P) (k P) P.passing.here M.known
          P.stand.labels P.passing.read (onward M);
    }

    pub passes_on : {a : Stand} → a ≡ on_of P.stand status
        → Passing (p P) (k P + 1) a (state_of P.round held a.status)
    passes_on e = subst
        (λ (x : Stand). Passing (p P) (k P + 1) x (state_of P.round held x.status))
        (sym e) (rw (counted-on P) passes)

    pub labels-fit : P.stand.labels + labels_at status.rule < 2 ^ 64
    labels-fit = reads_fit P.g P.made P.start P.table P.ok _ _ passes.here.1 passes.read

  pub place-ends : {h : ℕ} → MovesTo P held (PlaceEnd h)
      → Finished (p P) P.budget P.round held (ended_of P.stand place_end h P.visited)
  place-ends {h} M =
      announced-place P.g P.made P.start P.table P.ok (s P) (k P) P.passing.here M.known P.budget
      P.round held P.stand.status h _ _ (counted-on P) P.more P.passing.read (onward M)

  pub facet-ends : {h : ℕ} → MovesTo P held (FacetEnd h)
      → Finished (p P) P.budget P.round held (ended_of P.stand facet_end h P.visited)
  facet-ends {h} M =
      announced-facet P.g P.made P.start P.table P.ok (s P) (k P) P.passing.here M.known P.budget
      P.round held P.stand.status h _ _ (counted-on P) P.more P.passing.read (onward M)
