-- A lent array that a call writes, as an `ensures` sees it. Assumes nothing.
use Rattle.std.specs.Prelude.{List, ℕ}
use Rattle.std.specs.Borrow.{MutBor}
use denote.Triple.Both.{Both}

abbrev pub LentBoth : Type 0
LentBoth = Both (MutBor (List ℕ)) (MutBor (List ℕ))
