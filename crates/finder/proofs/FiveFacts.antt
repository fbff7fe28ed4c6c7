-- Five facts at the front of a buffer. Assumes nothing.
use mathlib.Core.List.{List, [], ◌∷◌}
use mathlib.Core.Path.{◌≡◌, refl}
use Prim.Native.Nat.{ℕ, ◌≤◌}
use lib.ListN.{length, set}
use native.Mathlib.Omega.{arith}
use Rattle.combinatorics.specs.Front.{front}

-- five facts, stored one behind the other
pub five : (x y z u v : ℕ) (old : List ℕ) → 5 ≤ length old
    → set (set (set (set (set old 0 x) 1 y) 2 z) 3 u) 4 v ≡ front (x ∷ y ∷ z ∷ u ∷ v ∷ []) old
unfolding front
five x y z u v (a ∷ b ∷ c ∷ d ∷ e ∷ old) h = refl
five x y z u v [] h = absurd (omega arith)
five x y z u v (a ∷ []) h = absurd (omega arith)
five x y z u v (a ∷ b ∷ []) h = absurd (omega arith)
five x y z u v (a ∷ b ∷ c ∷ []) h = absurd (omega arith)
five x y z u v (a ∷ b ∷ c ∷ d ∷ []) h = absurd (omega arith)
