-- What the search for the spare point gives, on lists. Assumes nothing.
use Rattle.std.specs.Prelude.{Bool, true, false, not, ◌&&◌, List, ◌≡◌, ℕ, suc, ◌-◌, ◌≤◌, ◌<◌, eqb}
use Rattle.grid_points.specs.Grid.{at}
use Rattle.rules.specs.Mask.{bit}
use Rattle.rules.specs.Moves.{mark_label}
use Rattle.walk_next.specs.declared.Spared.{Spared}

-- an index of T that is not yet seen
abbrev pub is_new : ℕ → ℕ → ℕ → Bool
is_new t seen label = not (eqb label 0) && (bit t (label - 1) && not (bit seen (label - 1)))

-- the label in mark j
abbrev pub label_at : List ℕ → ℕ → ℕ
label_at marks j = mark_label (at marks j)

abbrev pub LabelsLow : List ℕ → ℕ → Type 0
LabelsLow marks n = (j : ℕ) → j ≤ n → label_at marks j ≤ 16

-- the label of point k is none, or outside T, or one that a point before has
pub data NotNew (marks : List ℕ) (t k : ℕ) : Type 0 where
  unknown : label_at marks k ≡ 0 → NotNew marks t k
  outside : (h : ℕ) → label_at marks k ≡ suc h → bit t h ≡ false → NotNew marks t k
  again : (j : ℕ) → j < k → label_at marks j ≡ label_at marks k → NotNew marks t k

-- of the points before k: the indices of T that are labels, and a point that is not new, if there is one
pub record SparesBelow (marks : List ℕ) (k t seen point : ℕ) : Type 0 where
  pub known : (h : ℕ) → h < 16 → bit seen h ≡ true → (bit t h ≡ true) × ((j : ℕ) × (j < k) × (label_at marks j ≡ suc h))
  pub all : (j h : ℕ) → j < k → h < 16 → label_at marks j ≡ suc h → bit t h ≡ true → bit seen h ≡ true
  pub spare : (j : ℕ) → j < k → NotNew marks t j → (point < k) × NotNew marks t point

abbrev pub SparesOf : List ℕ → ℕ → ℕ → Spared → Type 0
SparesOf marks n t r = SparesBelow marks (suc n) t r.seen r.point
