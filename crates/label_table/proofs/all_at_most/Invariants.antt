-- `all_at_most` meets its contract. The invariant: the largest byte so far is at most m exactly if all so far are.
-- Assumes nothing.
use Rattle.std.proofs.Common.{◌≡◌, leb, take}
use Rattle.combinatorics.specs.Lists.{all}
use Rattle.label_table.proofs.all_at_most.Given as goal

abbrev pub invariant-loop-label : goal.invariant-loop-label
invariant-loop-label v = leb v.most v.m ≡ all (λ l. leb l v.m) (take v.label-index v.labels)
