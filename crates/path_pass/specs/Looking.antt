-- What the look-up of the point that has come in gives. No promise of a customer's call cites it. Assumes nothing.
use Rattle.std.specs.Prelude.{◌≡◌, Result, Ok, Err}
use Rattle.marks.specs.declared.Unknown.{Unknown}
use Rattle.moves.specs.Held.{state_of}
use Rattle.arrays.specs.declared.holding.Held.{Held}
use Rattle.moves.specs.declared.Status.{Status}
use Rattle.path_pass.specs.Finish.{IsKnown, IsUnknown}
use Rattle.place.specs.Problem.{Problem}
use Rattle.rules.specs.Read.{read}
use Rattle.rules.specs.declared.Round.{Round}

-- the label is known, or nothing is read, and the marks are held; or it is not known, and what is held is as before
abbrev pub LooksUp : Problem → Round → Held → Held → Status → Result Unit Unknown → Type 0
LooksUp p round old new s (Ok x) =
    IsKnown p (state_of round old s) × (state_of round new s ≡ read p (state_of round old s)) × (new.order ≡ old.order)
LooksUp p round old new s (Err e) = IsUnknown p (state_of round old s) e.position × (new ≡ old)
