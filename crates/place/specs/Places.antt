-- Document 01, "Places". A set of points is kept as the list of its points in rising order of coefficient sum.
-- Assumes nothing.
use Rattle.std.specs.Prelude.{Bool, true, not, ◌&&◌, cond, List, [], ◌∷◌, map, ℕ, zero, suc, ◌+◌, eqb, ltb, leb}
use Rattle.combinatorics.specs.Lists.{filter, all, any, is_in, first_or, occurrences, rising, sublists}
use Rattle.grid_points.specs.Grid.{Grid, Point, at, size, block_of, blocks, indices, indices_of, previous, is_grid_point}
use Rattle.grid_points.specs.Grid.{points}
use Rattle.place.specs.Coefficients.{coefficients, coefficient_sum}
use Rattle.place.specs.Problem.{Problem, label, has_label}

abbrev pub Simplex : Type 0
Simplex = List Point

-- "U is the set of indices h with y_h = 0 at all of them"
unfoldable pub set_u : Grid → Simplex → List ℕ
set_u g s = filter (λ h. all (λ y. eqb (at y h) 0) s) (indices g)

-- "T is the set of indices not in U whose coefficient is positive at one of them at least"
unfoldable pub set_t : Problem → Simplex → List ℕ
set_t p s =
    let u = set_u p.grid s in
    let cs = map (coefficients p) s in
    filter (λ h. not (is_in eqb h u) && any (λ c. ltb 0 (at c h)) cs) (indices p.grid)

-- the indices that are labels of the points; label l names index l - 1, and 0 names none
unfoldable pub label_set : Problem → Simplex → List ℕ
label_set p s = let ls = map (label p) s in filter (λ h. is_in eqb (suc h) ls) (indices p.grid)

-- every point of the set has a label
abbrev pub all_labelled : Problem → Simplex → Bool
all_labelled p s = all (has_label p) s

-- its points that have none
abbrev pub unlabelled : Problem → Simplex → Simplex
unlabelled p s = filter (λ y. not (has_label p y)) s

-- a set of indices within another
abbrev pub within : List ℕ → List ℕ → Bool
within a b = all (λ h. is_in eqb h b) a

-- "the first index met going back from h that is not in U", at most n steps back
abbrev pub search_back : Grid → List ℕ → ℕ → ℕ → ℕ
search_back g u zero h = h
search_back g u (suc n) h = let k = previous g h in let further = search_back g u n k in cond (is_in eqb k u) further k

-- "b is the first index met going back from h that is not in U"
unfoldable pub first_back_outside : Grid → List ℕ → ℕ → ℕ
first_back_outside g u h = search_back g u (size g (block_of g h)) h

-- 1 at index h, and 0 elsewhere
abbrev pub unit : ℕ → ℕ → ℕ
unit h k = cond (eqb k h) 1 0

-- y goes to z "by adding 1 to the coordinate at an index h .. and taking 1 from the coordinate at b"
unfoldable pub goes_to : Grid → ℕ → ℕ → Point → Point → Bool
goes_to g h b y z = all (λ k. eqb (at z k + unit b k) (at y k + unit h k)) (indices g)

-- the index at which y goes to z: where the coordinate has grown
unfoldable pub grown_at : Grid → Point → Point → ℕ
grown_at g y z = first_or 0 (filter (λ k. ltb (at y k) (at z k)) (indices g))

-- the indices at which each point goes to the next, in order
abbrev pub order : Grid → Simplex → List ℕ
order g [] = []
order g (y ∷ []) = []
order g (y ∷ z ∷ s) = grown_at g y z ∷ order g (z ∷ s)

-- "each goes to the next"
abbrev pub each_goes_to_next : Grid → List ℕ → Simplex → Bool
each_goes_to_next g u [] = true
each_goes_to_next g u (y ∷ []) = true
each_goes_to_next g u (y ∷ z ∷ s) =
    let h = grown_at g y z in
    goes_to g h (first_back_outside g u h) y z && each_goes_to_next g u (z ∷ s)

-- "an index h of T" each time, "each h of T is used once"
abbrev pub uses_each_once : List ℕ → List ℕ → Bool
uses_each_once t o = within o t && all (λ h. eqb (occurrences h o) 1) t

-- "every block has an index in neither T nor U"
unfoldable pub every_block_free : Grid → List ℕ → List ℕ → Bool
every_block_free g t u = all (λ j. any (λ h. not (is_in eqb h t) && not (is_in eqb h u)) (indices_of g j)) (blocks g)

-- "The points form a place if": first the conditions that do not look at labels
unfoldable pub is_unlabelled_place : Problem → Simplex → Bool
is_unlabelled_place p s =
    let g = p.grid in
    let u = set_u g s in
    let t = set_t p s in
    all (is_grid_point g) s && rising (map (coefficient_sum p) s) && each_goes_to_next g u s && uses_each_once t (order g s)
    && every_block_free g t u

-- and "every index of T is the label of one of the points"
unfoldable pub is_place : Problem → Simplex → Bool
is_place p s = is_unlabelled_place p s && within (set_t p s) (label_set p s)

abbrev pub insert : Problem → Point → Simplex → Simplex
insert p y [] = y ∷ []
insert p y (z ∷ s) =
    let later = z ∷ insert p y s in
    cond (leb (coefficient_sum p y) (coefficient_sum p z)) (y ∷ z ∷ s) later

-- points "put in rising order of coefficient sum"
abbrev pub in_order : Problem → List Point → List Point
in_order p [] = []
in_order p (y ∷ s) = insert p y (in_order p s)

-- all places: of all sets of grid points, those that are places
unfoldable pub places : Problem → List Simplex
places p = filter (is_place p) (sublists (in_order p (points p.grid)))
