-- `profiles_behind` meets its contract: what is counted and what is left make the whole. Assumes nothing.
use mathlib.Core.List.{[]}
use native.Mathlib.Nat.{mul_assoc}
use native.Mathlib.Omega.{arith}
use Rattle.grid_points.specs.Grid.{lent}
use Rattle.game_weighed.proofs.Levels.{behind-none, behind_turn, behind_skip, counted-low}
use Rattle.game_weighed.proofs.lengths.profiles_behind.Goals as goal
use Rattle.game_weighed.proofs.lengths.profiles_behind.Goals.{then-j-player, else-j-player}

pub overflow_mul-count : goal.overflow_mul-count
overflow_mul-count c =
    let l = c.loop-j in
    let a = c.args in
    record {
      fits = rw c.from-count.ensures (omega (
        arith,
        counted-low (lent a.sizes.now []) a.player c.requires.0 c.requires.1 a.first l.count l.j (omega arith)
            c.if-j-player.true l.invariant,
      ));
    }

pub loop-j-preserved : goal.loop-j-preserved
loop-j-preserved c =
    let l = c.loop-j in
    let g = lent c.args.sizes.now [] in
    let p = c.args.player in
    elim c.if-j-player.branch [
      | then-j-player w ↦
          rw (w.count-is, w.from-count.ensures, mul_assoc, ← behind_turn g p l.j (omega arith) w.if-j-player.true)
          l.invariant
      | else-j-player w ↦
          rw (w.count-is, ← behind_skip g p l.j (omega arith) w.if-j-player.false) l.invariant
    ]

pub returns : goal.returns
returns c =
    let e = behind-none (lent c.args.sizes.now []) c.args.player c.loop-j.j (omega arith) in
    let i = rw e at c.loop-j.invariant in
    omega arith
