-- `cover::first_whole` meets its contract. The invariant: no block before j is whole. Assumes nothing.
use mathlib.Core.Path.{◌≡◌}
use Prim.Native.Nat.{◌-◌, ◌≤◌}
use lib.ListN.{take}
use Rattle.combinatorics.specs.Lists.{filter, up_from}
use Rattle.check_simplices.specs.Simplices.{first_of}
use Rattle.checker.proofs.Covering.{whole-block}
use Rattle.checker.proofs.cover.first_whole.Given as goal

abbrev pub invariant-loop-j : goal.invariant-loop-j
invariant-loop-j l = (l.j ≤ l.g.blocks) × (l.g.blocks ≤ 6)
    × (first_of (filter (whole-block (take l.g.blocks l.g.sizes) l.set) (up_from 0 l.g.blocks))
    ≡ first_of (filter (whole-block (take l.g.blocks l.g.sizes) l.set) (up_from l.j (l.g.blocks - l.j))))
