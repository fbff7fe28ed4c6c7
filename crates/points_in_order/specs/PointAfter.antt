-- The grid points, one from the other. Assumes nothing.
use Rattle.std.specs.Prelude.{Bool, true, false, cond, List, [], ◌∷◌, ◌++◌, ◌≡◌, ℕ, zero, suc, ◌-◌, ◌<◌, pred, length, get_or, take, drop, replicate}
use Rattle.combinatorics.specs.Lists.{sum}

-- a list, and whether it comes after the one before it; it does not where the last is followed by the first
pub record Step : Type 0 where
  pub moved : Bool
  pub list : List ℕ

abbrev pub point_step : Bool → List ℕ → Step
point_step moved list = record { moved = moved; list = list }

-- the numbers behind a are the last list of their sum: a takes 1 from them, and the rest goes to the last place
abbrev pub carry : ℕ → List ℕ → Step
carry a [] = point_step false (a ∷ [])
carry a (zero ∷ l) = point_step false (replicate (suc (length l)) 0 ++ (a ∷ []))
carry a (suc v ∷ l) = point_step true (suc a ∷ (replicate (length l) 0 ++ (v ∷ [])))

-- the list of a block after this one
abbrev pub after : List ℕ → Step
after [] = point_step false []
after (a ∷ l) = let later = after l in cond later.moved (point_step true (a ∷ later.list)) (carry a l)

-- the list of all blocks, given their sizes, after this one
abbrev pub after_all : List ℕ → List ℕ → Step
after_all [] y = point_step false y
after_all (s ∷ ss) y =
    let later = after_all ss (drop s y) in
    let own = after (take s y) in
    cond later.moved (point_step true (take s y ++ later.list)) (point_step own.moved (own.list ++ later.list))

-- the coordinates before those of block j
abbrev pub before_block : List ℕ → ℕ → List ℕ → List ℕ
before_block sizes j y = take (sum (take j sizes)) y

-- the first: each block has its division at its last index
abbrev pub first_point : List ℕ → List ℕ → List ℕ
first_point [] ds = []
first_point (s ∷ ss) [] = []
first_point (s ∷ ss) (d ∷ ds) = (replicate (pred s) 0 ++ (d ∷ [])) ++ first_point ss ds

-- the last place with a positive number, or the first place where there is none behind it
pub record LastPositive (b : List ℕ) (i : ℕ) : Type 0 where
  pub inside : i < length b
  pub positive : 0 < i → 0 < get_or b i 0
  pub behind : drop (suc i) b ≡ replicate (length b - suc i) 0
