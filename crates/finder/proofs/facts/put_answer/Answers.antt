-- `put_answer` meets its contract: each case stores its facts one behind the other. Assumes nothing.
use mathlib.Core.List.{List, [], ◌∷◌}
use mathlib.Core.Path.{◌≡◌, refl, sym}
use Prim.Native.Nat.{ℕ, ◌≤◌}
use native.Mathlib.Omega.{arith}
use lib.ListN.{length, set, length-set}
use Rattle.combinatorics.proofs.Fronts.{front-none}
use Rattle.combinatorics.specs.Front.{front}
use Rattle.finder.proofs.FiveFacts.{five}
use Rattle.finder.proofs.facts.put_answer.Goals as goal

one : (x : ℕ) (old : List ℕ) → 5 ≤ length old → set old 0 x ≡ front (x ∷ []) old
unfolding front
one x [] h = absurd (omega arith)
one x (o ∷ old) h = refl

two : (x y : ℕ) (old : List ℕ) → 5 ≤ length old → set (set old 0 x) 1 y ≡ front (x ∷ y ∷ []) old
unfolding front
two x y (a ∷ b ∷ old) h = refl
two x y [] h = absurd (omega arith)
two x y (a ∷ []) h = absurd (omega arith)

pub returns-in-Refused : goal.returns-in-Refused
returns-in-Refused c = rw c.in-Refused.is (refl, sym (front-none _))

pub returns-in-Spent : goal.returns-in-Spent
returns-in-Spent c = rw c.in-Spent.is (refl, one _ _ (omega arith))

pub returns-in-Unknown : goal.returns-in-Unknown
returns-in-Unknown c = rw c.in-Unknown.is (refl, two _ _ _ (omega arith))

pub returns-in-End : goal.returns-in-End
returns-in-End c =
    rw (c.in-End.is, c.from.ensures.0) (refl, five _ _ _ _ _ _ (omega arith))

pub bounds-facts-1 : goal.bounds-facts-1
bounds-facts-1 c = simp length-set (omega arith)

pub bounds-facts-1-in-End : goal.bounds-facts-1-in-End
bounds-facts-1-in-End c = simp length-set (omega arith)

pub bounds-facts-2 : goal.bounds-facts-2
bounds-facts-2 c = simp length-set (omega arith)

pub bounds-facts-3 : goal.bounds-facts-3
bounds-facts-3 c = simp length-set (omega arith)

pub bounds-facts-4 : goal.bounds-facts-4
bounds-facts-4 c = simp length-set (omega arith)
