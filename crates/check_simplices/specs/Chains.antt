-- The test by which points are found to lie in one simplex: with one of them as the start, the coefficient lists are 0s
-- and 1s, and any two are nested. Assumes nothing.
use Rattle.std.specs.Prelude.{Bool, true, not, ◌&&◌, ◌||◌, List, [], ◌∷◌, ℕ, eqb, leb}
use Rattle.combinatorics.specs.Lists.{all, any, same}
use Rattle.grid_points.specs.Grid.{Grid, Point, at, indices}
use Rattle.place.specs.Coefficients.{coefficients}
use Rattle.place.specs.Problem.{Problem}

-- a grid with a start; coefficients ask for no labels
abbrev pub starting_at : Grid → Point → Problem
starting_at g p = record { grid = g; start = p; labels = [] }

-- the coefficient list of z with p as the start
abbrev pub coefficients_from : Grid → Point → Point → List ℕ
coefficients_from g p z = coefficients (starting_at g p) z

-- the coefficients are 0s and 1s
abbrev pub zero_or_one : Grid → List ℕ → Bool
zero_or_one g c = all (λ h. leb (at c h) 1) (indices g)

-- each coefficient at most the other's: of 0s and 1s, one set of indices inside the other
abbrev pub inside : Grid → List ℕ → List ℕ → Bool
inside g a b = all (λ h. leb (at a h) (at b h)) (indices g)

-- one inside the other, and different
abbrev pub nested : Grid → List ℕ → List ℕ → Bool
nested g a b = (inside g a b || inside g b a) && not (same eqb a b)

-- any two, in the order of the list
abbrev pub pairwise : {A : Type 0} → (A → A → Bool) → List A → Bool
pairwise r [] = true
pairwise r (x ∷ xs) = all (r x) xs && pairwise r xs

-- with p as the start every point has 0s and 1s, any two nested
abbrev pub chain_from : Grid → List Point → Point → Bool
chain_from g zs p = all (λ z. zero_or_one g (coefficients_from g p z)) zs
    && pairwise (λ y z. nested g (coefficients_from g p y) (coefficients_from g p z)) zs

-- so it is for one of the points
unfoldable pub one_chain : Grid → List Point → Bool
one_chain g zs = any (chain_from g zs) zs
