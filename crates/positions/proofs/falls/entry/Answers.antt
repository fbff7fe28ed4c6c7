-- `falls::entry` meets its contract. Assumes nothing.
use mathlib.Core.Path.{◌≡◌}
use Prim.Native.Nat.{◌-◌}
use Rattle.combinatorics.proofs.Binomials.{choose_one}
use Rattle.positions.proofs.Table.{lists-row}
use native.Mathlib.Omega.{arith}
use Rattle.positions.proofs.falls.entry.Goals as goal

pub returns-then-k-eq2 : goal.returns-then-k-eq2
returns-then-k-eq2 c =
    let a = c.args in
    let e : a.k - 1 ≡ 1 = omega arith in
    omega (arith, rw e at (lists-row a.k a.x (omega arith)), choose_one a.x)
