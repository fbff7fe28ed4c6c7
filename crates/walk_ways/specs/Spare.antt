-- The point of a place whose label the others do not need. Assumes nothing.
use Rattle.std.specs.Prelude.{false, List, [], ◌≡◌, ℕ, suc, ◌≤◌, eqb, length, get_or}
use Rattle.combinatorics.specs.Lists.{is_in}
use Rattle.place.specs.Places.{Simplex}
use Rattle.place.specs.Problem.{Problem, label}

-- it has no label, or one outside T, or one that another point has
pub data Spare (p : Problem) (s : Simplex) (o : List ℕ) (i : ℕ) : Type 0 where
  unknown : label p (get_or s i []) ≡ 0 → Spare p s o i
  outside : (h : ℕ) → label p (get_or s i []) ≡ suc h → is_in eqb h o ≡ false → Spare p s o i
  again : (j : ℕ) → j ≤ length o → (j ≡ i → ⊥) → label p (get_or s j []) ≡ label p (get_or s i []) → Spare p s o i
