-- A number of a list by the sum of all, and so a size. Assumes nothing.
use mathlib.Core.Bool.{true}
use mathlib.Core.List.{List, [], ◌∷◌}
use mathlib.Core.Path.{◌≡◌}
use Prim.Native.Nat.{ℕ, zero, suc, ◌≤◌, ◌<◌}
use borrow.Author.Tests.{leb-true}
use lib.Dec.{leb}
use lib.ListN.{length, get_or}
use native.Mathlib.Omega.{arith}
use Rattle.combinatorics.proofs.Lists.{at_all}
use Rattle.combinatorics.specs.Lists.{all, sum}

pub at_sum : (a : List ℕ) (k : ℕ) → get_or a k 0 ≤ sum a
at_sum [] k = omega arith
at_sum (x ∷ a) zero = omega arith
at_sum (x ∷ a) (suc k) = omega (arith, at_sum a k)

-- a size of sizes that are each at least 2 and at most 16 in all
pub size-range : (ss : List ℕ) (j : ℕ) → all (λ s. leb 2 s) ss ≡ true → sum ss ≤ 16 → j < length ss
    → (2 ≤ get_or ss j 0) × (get_or ss j 0 ≤ 16)
size-range ss j a b c = (leb-true 2 (get_or ss j 0) (at_all (λ s. leb 2 s) ss j a c), omega (arith, at_sum ss j))
