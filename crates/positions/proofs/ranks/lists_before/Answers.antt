-- `ranks::lists_before` meets its contract. Assumes nothing.
use Prim.Native.Nat.{◌-◌, ◌≤◌}
use Rattle.combinatorics.proofs.Binomials.{choose-grows}
use native.Mathlib.Omega.{arith}
use Rattle.positions.proofs.ranks.lists_before.Goals as goal
use Rattle.positions.proofs.ranks.lists_before.Goals.{After-from-2}

fewer : (c : After-from-2) → c.from-2.result ≤ c.from.result
fewer c =
    let a = c.args in
    omega (
      arith,
      c.from-2.ensures,
      c.from.ensures,
      c.requires.binomial.0,
      c.requires.binomial.1,
      choose-grows (a.left - a.x) a.left a.k a.k (omega arith) (omega arith),
    )

pub overflow_sub-result : goal.overflow_sub-result
overflow_sub-result c = fewer c

pub returns : goal.returns
returns c =
    omega (arith, fewer c, c.from-2.ensures, c.from.ensures, c.requires.binomial.0, c.requires.binomial.1)
