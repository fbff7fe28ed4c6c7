-- A place of a pass once its label is looked up: the marks, and what the state that they make is ready for. Assumes
-- nothing.
use mathlib.Core.Path.{◌≡◌, sym, subst}
use Prim.Native.Nat.{ℕ, suc, ◌≤◌, ◌<◌}
use borrow.Author.Tests.{lt-ltb, le-ltb}
use lib.ListN.{set}
use lib.Seq.{take-set-lt}
use native.Mathlib.Omega.{arith}
use Rattle.path_pass.specs.Finish.{IsKnown}
use Rattle.moves.specs.Held.{state_of, state_with}
use Rattle.arrays.specs.declared.holding.Held.{Held}
use Rattle.moves.specs.declared.Status.{Status}
use Rattle.place.specs.Problem.{Problem}
use Rattle.rules.specs.Read.{mark_of, point_in, read}
use Rattle.rules.specs.Ready.{Ready}
use Rattle.rules.specs.Moves.{State, with_mark}
use Rattle.rules.specs.declared.Round.{Round}
use Rattle.path_pass.specs.Looking.{LooksUp}
use Rattle.std.proofs.Common.{Ok}

-- after rules 6 and 7 nothing is read, and else the mark is stored
module _ (p : Problem) (round : Round) (held : Held) (s : Status) where
  abbrev here : State
  here = state_of round held s

  pub looked_none : 6 ≤ s.rule → here ≡ read p here
  unfolding read
  looked_none r = rw (le-ltb s.rule 6 r)

  pub looked_some : (m : ℕ) → s.rule < 6 → s.active ≤ s.count → m ≡ mark_of p (point_in p here s.active)
      → state_with round held.first held.coefficients held.order (set held.marks s.active m) s ≡ read p here
  unfolding read with_mark
  looked_some m r low e = rw (
    e,
    lt-ltb s.rule 6 r,
    take-set-lt (suc s.count) held.marks s.active (mark_of p (point_in p here s.active)) (omega arith),
  )

-- a place whose label is known, once the mark is stored
pub record IsRead (p : Problem) (a : State) (round : Round) (held : Held) (s : Status) : Type 0 where
  pub known : IsKnown p a
  pub is : state_of round held s ≡ read p a
  pub ready : Ready (state_of round held s)

pub looked_up : (p : Problem) (round : Round) (old new : Held) (s : Status) {x : Unit} → LooksUp p round old new s (Ok x)
    → (IsKnown p (state_of round old s) → Ready (read p (state_of round old s)))
    → IsRead p (state_of round old s) round new s
looked_up p round old new s L can = record { known = L.0; is = L.1; ready = subst Ready (sym L.1) (can L.0) }
