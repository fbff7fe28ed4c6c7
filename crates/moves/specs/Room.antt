-- What `put_points` asks of a place and of the buffer. Assumes nothing.
use Rattle.std.specs.Prelude.{◌≡◌, ℕ, suc, ◌-◌, ◌*◌, ◌≤◌, length}
use Rattle.rules.specs.Read.{CanCompute}
use Rattle.rules.specs.Ready.{IndicesBelow}
use Rattle.rules.specs.Moves.{State}

-- the points of the place from number `from` on can be put into a buffer of `room` numbers, m each
pub record CanPut (a : State) (m from room : ℕ) : Type 0 where
  pub below : IndicesBelow a.round.previous
  pub first_length : length a.first ≡ 16
  pub points : CanCompute a (length a.order)
  pub short : m ≤ 16
  pub low : from ≤ length a.order
  pub fits : (suc (length a.order) - from) * m ≤ room
