-- Lists, and lists as finite sets: filters, tests, sums, sublists. Assumes nothing.
use Rattle.std.specs.Prelude.{Bool, true, false, not, ◌&&◌, ◌||◌, cond, List, [], ◌∷◌, ◌++◌, map, ℕ, zero, suc, ◌+◌, eqb, ltb}

abbrev pub filter : {A : Type 0} → (A → Bool) → List A → List A
filter p [] = []
filter p (x ∷ xs) = let rest = filter p xs in cond (p x) (x ∷ rest) rest

abbrev pub all : {A : Type 0} → (A → Bool) → List A → Bool
all p [] = true
all p (x ∷ xs) = p x && all p xs

abbrev pub any : {A : Type 0} → (A → Bool) → List A → Bool
any p [] = false
any p (x ∷ xs) = p x || any p xs

abbrev pub concat_map : {A B : Type 0} → (A → List B) → List A → List B
concat_map f [] = []
concat_map f (x ∷ xs) = f x ++ concat_map f xs

abbrev pub sum : List ℕ → ℕ
sum [] = 0
sum (x ∷ xs) = x + sum xs

-- the n numbers from k on
abbrev pub up_from : ℕ → ℕ → List ℕ
up_from k zero = []
up_from k (suc n) = k ∷ up_from (suc k) n

-- the first element, or d
abbrev pub first_or : {A : Type 0} → A → List A → A
first_or d [] = d
first_or d (x ∷ xs) = x

-- equality of lists, given a test for their elements
abbrev pub same : {A : Type 0} → (A → A → Bool) → List A → List A → Bool
same eq [] [] = true
same eq [] (y ∷ ys) = false
same eq (x ∷ xs) [] = false
same eq (x ∷ xs) (y ∷ ys) = eq x y && same eq xs ys

-- membership, given a test for the elements
abbrev pub is_in : {A : Type 0} → (A → A → Bool) → A → List A → Bool
is_in eq x ys = any (eq x) ys

-- no element stands twice
abbrev pub distinct : {A : Type 0} → (A → A → Bool) → List A → Bool
distinct eq [] = true
distinct eq (x ∷ xs) = not (is_in eq x xs) && distinct eq xs

-- how often x stands in the list
abbrev pub occurrences : ℕ → List ℕ → ℕ
occurrences x [] = 0
occurrences x (y ∷ ys) = let rest = occurrences x ys in cond (eqb x y) (suc rest) rest

-- each number is smaller than the next
abbrev pub rising : List ℕ → Bool
rising [] = true
rising (x ∷ []) = true
rising (x ∷ y ∷ ys) = ltb x y && rising (y ∷ ys)

-- all sublists, each in the list's order
abbrev pub sublists : {A : Type 0} → List A → List (List A)
sublists [] = [] ∷ []
sublists (x ∷ xs) = let rest = sublists xs in map (λ l. x ∷ l) rest ++ rest

-- the lists with one element left out
abbrev pub one_less : {A : Type 0} → List A → List (List A)
one_less [] = []
one_less (x ∷ xs) = xs ∷ map (λ l. x ∷ l) (one_less xs)

-- lists of at most n different elements, in every order
abbrev pub selections : ℕ → List ℕ → List (List ℕ)
selections zero xs = [] ∷ []
selections (suc n) xs = [] ∷ concat_map (λ x. map (λ l. x ∷ l) (selections n (filter (λ y. not (eqb x y)) xs))) xs
