-- The kiosk's sheet, line by line, as bytes. Assumes nothing.
use mathlib.Core.List.{List, [], ◌∷◌, ◌++◌, map, flat_map}
use Rattle.std.specs.Prelude.{ℕ, length, get_or}
use Rattle.combinatorics.specs.Lists.{sum, up_from}
use Rattle.end_kinds.specs.declared.Kind.{Kind}
use Rattle.end_kinds.specs.declared.Kind.TheVariants.{Facet as facet_end, Place as place_end}
use Rattle.rounding.specs.Centre.{centre}
use Rattle.text.specs.Decimal.{decimal}
use Rattle.text.specs.Line.{spaced, newline, line}
use Rattle.sheet_lines.specs.Words.{
  places_word,
  labels_read_word,
  bound_word,
  end_word,
  place_word,
  facet_word,
  block_word,
  vertices_word,
  centre_word,
  refused_word,
  position_word,
}

-- "end place" or "end facet"
abbrev pub end_line : Kind → List ℕ
end_line place_end = end_word ++ (32 ∷ place_word) ++ newline
end_line facet_end = end_word ++ (32 ∷ facet_word) ++ newline

-- "A line per vertex follows the vertex count": the vertex's numbers with a blank between, as in "0 1 1 0"
unfoldable pub vertex_line : List ℕ → List ℕ
vertex_line [] = newline
vertex_line (x ∷ xs) = decimal x ++ flat_map spaced xs ++ newline

-- the coordinate sum at the index h
abbrev pub total : List (List ℕ) → ℕ → ℕ
total vertices h = sum (map (λ y. get_or y h 0) vertices)

-- "The centre is the mean of the vertices in ten-thousandths": its number at the index h, where `divisions` has the
-- division of each index's block
abbrev pub centre_at : List (List ℕ) → List ℕ → ℕ → ℕ
centre_at vertices divisions h = centre (total vertices h) (length vertices) (get_or divisions h 0)

-- the centre at every index, as in "centre 0 10000 10000 0"
unfoldable pub centre_line : List (List ℕ) → List ℕ → List ℕ
centre_line vertices divisions =
    centre_word ++ flat_map (λ h. spaced (centre_at vertices divisions h)) (up_from 0 (length divisions)) ++ newline

-- "it prints": the sheet of an end. Request 10: "the sheet gain[s] 'labels read' after 'places'"; the sheets of
-- refusals, below, do not.
unfoldable pub end_sheet : ℕ → ℕ → ℕ → Kind → ℕ → List (List ℕ) → List ℕ → List ℕ
end_sheet places read bound kind block vertices divisions =
    line places_word places
    ++ line labels_read_word read
    ++ line bound_word bound
    ++ end_line kind
    ++ line block_word block
    ++ line vertices_word (length vertices)
    ++ flat_map vertex_line vertices
    ++ centre_line vertices divisions

-- "A refusal prints one line, as in "refused 4""
unfoldable pub refused_sheet : ℕ → List ℕ
refused_sheet number = line refused_word number

-- "9 adds a "places" line"
unfoldable pub spent_sheet : ℕ → List ℕ
spent_sheet places = refused_sheet 9 ++ line places_word places

-- Request 02: "its sheet adds a "places" and a "position" line"
unfoldable pub unknown_sheet : ℕ → ℕ → List ℕ
unknown_sheet places position = refused_sheet 16 ++ line places_word places ++ line position_word position
