-- Document 01's sample: "For the bytes 4, 2, 2, 2, 1, 0, 1, 0, 2, 2, 2, 4 it prints" this sheet. Assumes nothing.
use Rattle.std.specs.Prelude.{List, [], ◌∷◌, ◌++◌, ℕ}

abbrev pub sample_slip : List ℕ
sample_slip = 4 ∷ 2 ∷ 2 ∷ 2 ∷ 1 ∷ 0 ∷ 1 ∷ 0 ∷ 2 ∷ 2 ∷ 2 ∷ 4 ∷ []

-- "places 5", request 10's "labels read 4", "bound 68", "end facet", "block 1", "vertices 1", "0 1 1 0", "centre 0
-- 10000 10000 0", a line each
abbrev pub sample_sheet : List ℕ
sample_sheet = (112 ∷ 108 ∷ 97 ∷ 99 ∷ 101 ∷ 115 ∷ 32 ∷ 53 ∷ 10 ∷ [])
    ++ (108 ∷ 97 ∷ 98 ∷ 101 ∷ 108 ∷ 115 ∷ 32 ∷ 114 ∷ 101 ∷ 97 ∷ 100 ∷ 32 ∷ 52 ∷ 10 ∷ [])
    ++ (98 ∷ 111 ∷ 117 ∷ 110 ∷ 100 ∷ 32 ∷ 54 ∷ 56 ∷ 10 ∷ [])
    ++ (101 ∷ 110 ∷ 100 ∷ 32 ∷ 102 ∷ 97 ∷ 99 ∷ 101 ∷ 116 ∷ 10 ∷ []) ++ (98 ∷ 108 ∷ 111 ∷ 99 ∷ 107 ∷ 32 ∷ 49 ∷ 10 ∷ [])
    ++ (118 ∷ 101 ∷ 114 ∷ 116 ∷ 105 ∷ 99 ∷ 101 ∷ 115 ∷ 32 ∷ 49 ∷ 10 ∷ [])
    ++ (48 ∷ 32 ∷ 49 ∷ 32 ∷ 49 ∷ 32 ∷ 48 ∷ 10 ∷ [])
    ++ (99 ∷ 101 ∷ 110 ∷ 116 ∷ 114 ∷ 101 ∷ 32 ∷ 48 ∷ 32 ∷ 49 ∷ 48 ∷ 48 ∷ 48 ∷ 48 ∷ 32 ∷ 49 ∷ 48 ∷ 48 ∷ 48 ∷ 48 ∷ 32 ∷ 48
    ∷ 10 ∷ [])
