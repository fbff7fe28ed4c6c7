-- A list with one element put in, taken out or moved. Assumes nothing.
use Rattle.std.specs.Prelude.{cond, not, ◌&&◌, List, [], ◌∷◌, ◌++◌, ℕ, zero, suc, eqb}

-- x put before element i; behind the last where there is no element i
abbrev pub insert_at : {A : Type 0} → ℕ → A → List A → List A
insert_at zero x ys = x ∷ ys
insert_at (suc i) x [] = x ∷ []
insert_at (suc i) x (y ∷ ys) = y ∷ insert_at i x ys

-- the list less its element i
abbrev pub remove_at : {A : Type 0} → ℕ → List A → List A
remove_at i [] = []
remove_at zero (x ∷ xs) = xs
remove_at (suc i) (x ∷ xs) = x ∷ remove_at i xs

-- the elements i and i + 1 exchanged
abbrev pub swap_at : {A : Type 0} → ℕ → List A → List A
swap_at i [] = []
swap_at i (x ∷ []) = x ∷ []
swap_at zero (x ∷ y ∷ zs) = y ∷ x ∷ zs
swap_at (suc i) (x ∷ y ∷ zs) = x ∷ swap_at i (y ∷ zs)

-- the first element put last
abbrev pub rotate_left : {A : Type 0} → List A → List A
rotate_left [] = []
rotate_left (x ∷ xs) = xs ++ (x ∷ [])

-- the last element, or d
abbrev pub last_or : {A : Type 0} → A → List A → A
last_or d [] = d
last_or d (x ∷ xs) = last_or x xs

-- the list less its last element
abbrev pub but_last : {A : Type 0} → List A → List A
but_last [] = []
but_last (x ∷ []) = []
but_last (x ∷ y ∷ ys) = x ∷ but_last (y ∷ ys)

-- the last element put first
abbrev pub rotate_right : {A : Type 0} → List A → List A
rotate_right [] = []
rotate_right (x ∷ xs) = last_or x xs ∷ but_last (x ∷ xs)

-- the number of the first element that is x, element `but` passed over, counted from k; past the last where there
-- is none
abbrev pub found_from : ℕ → ℕ → ℕ → List ℕ → ℕ
found_from k x but [] = k
found_from k x but (y ∷ ys) = let later = found_from (suc k) x but ys in cond (eqb y x && not (eqb k but)) k later

abbrev pub found : ℕ → ℕ → List ℕ → ℕ
found x but ys = found_from 0 x but ys
