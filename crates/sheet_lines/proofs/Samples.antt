-- Sheets written out byte by byte. Assumes nothing.
use mathlib.Core.Path.{◌≡◌, refl}
use mathlib.Core.List.{[], ◌∷◌, flat_map}
use Rattle.end_kinds.specs.declared.Kind.TheVariants.{Facet as facet_end}
use Rattle.rounding.specs.Centre.{is_nearest, rounded, centre}
use Rattle.text.specs.Decimal.{digits, decimal}
use Rattle.text.specs.Line.{spaced}
use Rattle.sheet_lines.specs.Sheet.{vertex_line, centre_line, end_sheet, refused_sheet, spent_sheet, unknown_sheet}

-- "For the bytes 4 2 2 2 1 0 1 0 2 2 2 4 it prints", with request 10's "labels read" after "places", 4 there: each line
-- of the sheet on a line of its own, the last on two
pub printed
    : end_sheet 5 4 68 facet_end 1 ((0 ∷ 1 ∷ 1 ∷ 0 ∷ []) ∷ []) (1 ∷ 1 ∷ 1 ∷ 1 ∷ [])
    ≡ 112 ∷ 108 ∷ 97 ∷ 99 ∷ 101 ∷ 115 ∷ 32 ∷ 53 ∷ 10 ∷
    108 ∷ 97 ∷ 98 ∷ 101 ∷ 108 ∷ 115 ∷ 32 ∷ 114 ∷ 101 ∷ 97 ∷ 100 ∷ 32 ∷ 52 ∷ 10 ∷
    98 ∷ 111 ∷ 117 ∷ 110 ∷ 100 ∷ 32 ∷ 54 ∷ 56 ∷ 10 ∷
    101 ∷ 110 ∷ 100 ∷ 32 ∷ 102 ∷ 97 ∷ 99 ∷ 101 ∷ 116 ∷ 10 ∷
    98 ∷ 108 ∷ 111 ∷ 99 ∷ 107 ∷ 32 ∷ 49 ∷ 10 ∷
    118 ∷ 101 ∷ 114 ∷ 116 ∷ 105 ∷ 99 ∷ 101 ∷ 115 ∷ 32 ∷ 49 ∷ 10 ∷
    48 ∷ 32 ∷ 49 ∷ 32 ∷ 49 ∷ 32 ∷ 48 ∷ 10 ∷
    99 ∷ 101 ∷ 110 ∷ 116 ∷ 114 ∷ 101 ∷
    32 ∷ 48 ∷ 32 ∷ 49 ∷ 48 ∷ 48 ∷ 48 ∷ 48 ∷ 32 ∷ 49 ∷ 48 ∷ 48 ∷ 48 ∷ 48 ∷ 32 ∷ 48 ∷ 10 ∷ []
unfolding digits decimal flat_map spaced vertex_line is_nearest rounded centre centre_line end_sheet
printed = refl

-- "0.5 ten-thousandths prints 0 and 1.5 prints 2", and 2.5 prints 2: of the vertex 1 3 5 19991 and the division 20,000
pub halves-printed
    : centre_line ((1 ∷ 3 ∷ 5 ∷ 19991 ∷ []) ∷ []) (20000 ∷ 20000 ∷ 20000 ∷ 20000 ∷ [])
    ≡ 99 ∷ 101 ∷ 110 ∷ 116 ∷ 114 ∷ 101 ∷
    32 ∷ 48 ∷ 32 ∷ 50 ∷ 32 ∷ 50 ∷ 32 ∷ 57 ∷ 57 ∷ 57 ∷ 54 ∷ 10 ∷ []
unfolding digits decimal flat_map spaced is_nearest rounded centre centre_line
halves-printed = refl

-- "refused 4"
pub refusal : refused_sheet 4 ≡ 114 ∷ 101 ∷ 102 ∷ 117 ∷ 115 ∷ 101 ∷ 100 ∷ 32 ∷ 52 ∷ 10 ∷ []
unfolding digits decimal spaced refused_sheet
refusal = refl

-- "9 with 2 places"
pub spent-after-two
    : spent_sheet 2
    ≡ 114 ∷ 101 ∷ 102 ∷ 117 ∷ 115 ∷ 101 ∷ 100 ∷ 32 ∷ 57 ∷ 10 ∷
    112 ∷ 108 ∷ 97 ∷ 99 ∷ 101 ∷ 115 ∷ 32 ∷ 50 ∷ 10 ∷ []
unfolding digits decimal spaced refused_sheet spent_sheet
spent-after-two = refl

-- 16 with 0 places, at position 1
pub unknown-at-one
    : unknown_sheet 0 1
    ≡ 114 ∷ 101 ∷ 102 ∷ 117 ∷ 115 ∷ 101 ∷ 100 ∷ 32 ∷ 49 ∷ 54 ∷ 10 ∷
    112 ∷ 108 ∷ 97 ∷ 99 ∷ 101 ∷ 115 ∷ 32 ∷ 48 ∷ 10 ∷
    112 ∷ 111 ∷ 115 ∷ 105 ∷ 116 ∷ 105 ∷ 111 ∷ 110 ∷ 32 ∷ 49 ∷ 10 ∷ []
unfolding digits decimal spaced refused_sheet unknown_sheet
unknown-at-one = refl
