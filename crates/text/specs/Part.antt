-- A part of the sheet in the buffer that is lent. Assumes nothing.
use Rattle.std.specs.Prelude.{◌≡◌, List, ℕ, ◌+◌, length}
use Rattle.std.proofs.lemmas.List.Edits.{sets}

-- A part of the sheet: it is stored from the position `at` on, `next` is the position behind it, and nothing else
-- has changed.
pub record Part (written old new : List ℕ) (at next : ℕ) : Type 0 where
  pub buffer : new ≡ sets old at written
  pub behind : next ≡ at + length written
