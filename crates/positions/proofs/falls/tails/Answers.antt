-- `falls::tails` meets its contract. The invariant: the tails from k on stand in the array, and the last is that of k.
-- Assumes nothing.
use mathlib.Core.Path.{◌≡◌}
use Prim.Native.Nat.{ℕ, suc, ◌+◌, ◌-◌, ◌≤◌, ◌<◌}
use lib.ListN.{length-set}
use Rattle.combinatorics.proofs.Turns.{at_set}
use Rattle.grid_points.specs.Grid.{Point, at}
use Rattle.positions.proofs.ByTails.{tail}
use native.Mathlib.Omega.{arith}
use Rattle.positions.proofs.falls.tails.Goals as goal
use Rattle.positions.proofs.falls.tails.Goals.{After-from-last}

-- one index more
next-tail : (y : Point) (m k : ℕ) → 0 < k → k ≤ m → tail y (k - 1) (m - (k - 1)) ≡ at y (k - 1) + tail y k (m - k)
next-tail y m k l h =
    let a : m - (k - 1) ≡ suc (m - k) = omega arith in
    let b : suc (k - 1) ≡ k = omega arith in
    rw (a, b)

summed : (c : After-from-last)
    → let l = c.loop-k in
    let a = c.args in
    l.last + c.from-last.result ≡ tail a.y.now (l.k - 1) (a.m - (l.k - 1))
summed c =
    let l = c.loop-k in
    let a = c.args in
    omega (arith, next-tail a.y.now a.m l.k (omega arith) (omega arith), c.from-last.ensures)

pub loop-k-preserved : goal.loop-k-preserved
loop-k-preserved c =
    let l = c.loop-k in
    let a = c.args in (
      omega (arith, c.fits-y (l.k - 1), c.from-last.ensures),
      summed (goal.at.loop-k-preserved c).After-from-last,
      simp length-set l.invariant.2,
      (λ i h m. at_set
          (λ x. x ≡ tail a.y.now i (a.m - i))
          l.sums (l.k - 1) (l.last + c.from-last.result) i (omega (arith, l.invariant.2))
          (λ same. rw same (summed (goal.at.loop-k-preserved c).After-from-last))
          (λ other. l.invariant.3 i (omega (arith, other)) m)),
    )
