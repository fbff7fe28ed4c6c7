-- Document 01's sheet: the trail of its path; and what a reader makes of trails, right and wrong. Assumes nothing.
use Rattle.std.specs.Prelude.{List, [], ◌∷◌, ◌++◌, ℕ, take}
use Rattle.place.specs.Problem.{Problem, problem_of}
use Rattle.trail.specs.Trail.{Reading, no_record, placed}

-- "2 2; 1 1; 1 0 1 0; 2 2 2 4"
abbrev pub sheet : Problem
sheet = problem_of (2 ∷ 2 ∷ []) (1 ∷ 1 ∷ []) (1 ∷ 0 ∷ 1 ∷ 0 ∷ []) (2 ∷ 2 ∷ 2 ∷ 4 ∷ [])

-- 01 0300, 65 0200 04 04 05, 65 0000 02 02 05, 43 0100 0200 01, 5a 0000 04 04 06
abbrev pub sheet_trail : List ℕ
sheet_trail =
    1 ∷ 3 ∷ 0
    ∷ 101 ∷ 2 ∷ 0 ∷ 4 ∷ 4 ∷ 5
    ∷ 101 ∷ 0 ∷ 0 ∷ 2 ∷ 2 ∷ 5
    ∷ 67 ∷ 1 ∷ 0 ∷ 2 ∷ 0 ∷ 1
    ∷ 90 ∷ 0 ∷ 0 ∷ 4 ∷ 4 ∷ 6
    ∷ []

-- a reader is given a grid and a start: "3; 1; 1 0 0", and "3; 3; 1 1 1"
abbrev pub triangle : Problem
triangle = problem_of (3 ∷ []) (1 ∷ []) (1 ∷ 0 ∷ 0 ∷ []) []

abbrev pub wide : Problem
wide = problem_of (3 ∷ []) (3 ∷ []) (1 ∷ 1 ∷ 1 ∷ []) []

pub record Row : Type 0 where
  pub problem : Problem
  pub bytes : List ℕ
  pub number : ℕ
  pub result : Reading

abbrev pub row : Problem → List ℕ → ℕ → Reading → Row
row p bytes number r = record { problem = p; bytes = bytes; number = number; result = r }

abbrev pub table : List Row
table =
    -- its first record, its last, and one more
    row sheet sheet_trail 1 (placed 1 ((1 ∷ 0 ∷ 1 ∷ 0 ∷ []) ∷ []) [] (1 ∷ 3 ∷ []))
    ∷ row sheet sheet_trail 5 (placed 4 ((1 ∷ 0 ∷ 1 ∷ 0 ∷ []) ∷ (0 ∷ 1 ∷ 1 ∷ 0 ∷ []) ∷ []) (1 ∷ []) (3 ∷ []))
    ∷ row sheet sheet_trail 6 no_record
    -- 0 is no number
    ∷ row sheet (1 ∷ 3 ∷ 0 ∷ []) 0 no_record
    -- what is behind the record asked for is not looked at
    ∷ row sheet (take 26 sheet_trail) 4
    (placed 4 ((1 ∷ 0 ∷ 1 ∷ 0 ∷ []) ∷ (0 ∷ 1 ∷ 1 ∷ 0 ∷ []) ∷ (0 ∷ 1 ∷ 0 ∷ 1 ∷ []) ∷ []) (1 ∷ 3 ∷ []) [])
    -- "do not begin with v's"
    ∷ row sheet (1 ∷ 2 ∷ 0 ∷ []) 1 no_record
    -- "change no point"
    ∷ row sheet (1 ∷ 3 ∷ 0 ∷ 64 ∷ 1 ∷ []) 2 no_record
    -- "bring in one already there"
    ∷ row sheet (take 9 sheet_trail ++ (101 ∷ 3 ∷ 0 ∷ 2 ∷ 2 ∷ 5 ∷ [])) 3 no_record
    -- "or off the table"
    ∷ row sheet (1 ∷ 3 ∷ 0 ∷ 101 ∷ 4 ∷ 0 ∷ 4 ∷ 4 ∷ 5 ∷ []) 2 no_record
    -- "take out one not there"
    ∷ row sheet (take 15 sheet_trail ++ (67 ∷ 1 ∷ 0 ∷ 1 ∷ 0 ∷ 1 ∷ [])) 4 no_record
    -- "break the first two conditions of a place"
    ∷ row sheet (1 ∷ 3 ∷ 0 ∷ 74 ∷ 3 ∷ 0 ∷ 4 ∷ 7 ∷ []) 2 no_record
    -- "have bit 7 set"
    ∷ row sheet (129 ∷ 3 ∷ 0 ∷ []) 1 no_record
    ∷ row sheet (1 ∷ 3 ∷ 0 ∷ 229 ∷ 2 ∷ 0 ∷ 4 ∷ 4 ∷ 5 ∷ []) 2 no_record
    -- "fields other than the change just made and its rule"
    ∷ row sheet (1 ∷ 3 ∷ 0 ∷ 101 ∷ 2 ∷ 0 ∷ 4 ∷ 4 ∷ 4 ∷ []) 2 no_record
    ∷ row sheet (1 ∷ 3 ∷ 0 ∷ 37 ∷ 2 ∷ 0 ∷ 4 ∷ 4 ∷ []) 2 no_record
    ∷ row sheet (1 ∷ 3 ∷ 0 ∷ 101 ∷ 2 ∷ 0 ∷ 3 ∷ 3 ∷ 5 ∷ []) 2 no_record
    -- "change T and U otherwise than one of the seven rules alone does"
    ∷ row triangle (1 ∷ 2 ∷ 0 ∷ 101 ∷ 1 ∷ 0 ∷ 2 ∷ 2 ∷ 5 ∷ 63 ∷ 0 ∷ 0 ∷ 1 ∷ 0 ∷ 3 ∷ 2 ∷ 2 ∷ 3 ∷ []) 3 no_record
    -- back on {v}, and off another way
    ∷ row triangle (1 ∷ 2 ∷ 0 ∷ 101 ∷ 1 ∷ 0 ∷ 2 ∷ 2 ∷ 5 ∷ 90 ∷ 1 ∷ 0 ∷ 2 ∷ 2 ∷ 6 ∷ 101 ∷ 0 ∷ 0 ∷ 3 ∷ 3 ∷ 5 ∷ []) 4
    (placed 3 ((1 ∷ 0 ∷ 0 ∷ []) ∷ (0 ∷ 0 ∷ 1 ∷ []) ∷ []) (2 ∷ []) (1 ∷ []))
    -- rules 4 and 2
    ∷ row wide (1 ∷ 5 ∷ 0 ∷ 69 ∷ 8 ∷ 0 ∷ 1 ∷ 4 ∷ 83 ∷ 9 ∷ 0 ∷ 5 ∷ 0 ∷ 3 ∷ 2 ∷ []) 3
    (placed 3 ((2 ∷ 1 ∷ 0 ∷ []) ∷ (3 ∷ 0 ∷ 0 ∷ []) ∷ []) (0 ∷ []) (2 ∷ []))
    ∷ []
