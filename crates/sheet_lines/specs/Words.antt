-- The words of the kiosk's sheet, in ASCII. Assumes nothing.
use Rattle.std.specs.Prelude.{List, [], ◌∷◌, ℕ}

-- "places"
abbrev pub places_word : List ℕ
places_word = 112 ∷ 108 ∷ 97 ∷ 99 ∷ 101 ∷ 115 ∷ []

-- "labels read", with the blank between
abbrev pub labels_read_word : List ℕ
labels_read_word = 108 ∷ 97 ∷ 98 ∷ 101 ∷ 108 ∷ 115 ∷ 32 ∷ 114 ∷ 101 ∷ 97 ∷ 100 ∷ []

-- "bound"
abbrev pub bound_word : List ℕ
bound_word = 98 ∷ 111 ∷ 117 ∷ 110 ∷ 100 ∷ []

-- "end"
abbrev pub end_word : List ℕ
end_word = 101 ∷ 110 ∷ 100 ∷ []

-- "place"
abbrev pub place_word : List ℕ
place_word = 112 ∷ 108 ∷ 97 ∷ 99 ∷ 101 ∷ []

-- "facet"
abbrev pub facet_word : List ℕ
facet_word = 102 ∷ 97 ∷ 99 ∷ 101 ∷ 116 ∷ []

-- "block"
abbrev pub block_word : List ℕ
block_word = 98 ∷ 108 ∷ 111 ∷ 99 ∷ 107 ∷ []

-- "vertices"
abbrev pub vertices_word : List ℕ
vertices_word = 118 ∷ 101 ∷ 114 ∷ 116 ∷ 105 ∷ 99 ∷ 101 ∷ 115 ∷ []

-- "centre"
abbrev pub centre_word : List ℕ
centre_word = 99 ∷ 101 ∷ 110 ∷ 116 ∷ 114 ∷ 101 ∷ []

-- "refused"
abbrev pub refused_word : List ℕ
refused_word = 114 ∷ 101 ∷ 102 ∷ 117 ∷ 115 ∷ 101 ∷ 100 ∷ []

-- "position"
abbrev pub position_word : List ℕ
position_word = 112 ∷ 111 ∷ 115 ∷ 105 ∷ 116 ∷ 105 ∷ 111 ∷ 110 ∷ []
