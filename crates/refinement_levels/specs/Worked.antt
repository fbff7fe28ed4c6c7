-- Request 05: a refinement of two levels worked out. The first level ends at a facet, so the second starts at twice a
-- point that is not the first of its last place. Assumes nothing.
use Rattle.std.specs.Prelude.{List, [], ◌∷◌, ℕ}
use Rattle.end_kinds.specs.declared.Kind.TheVariants.{Facet as facet_end, Place as place_end}
use Rattle.grid_points.specs.Grid.{Point}
use Rattle.place.specs.Path.{PathAnswer, ended}
use Rattle.refinement_levels.specs.Levels.{Refinement}

abbrev pub two_levels : Refinement
two_levels = record {
  grid = record { sizes = 2 ∷ 2 ∷ []; divisions = 1 ∷ 1 ∷ [] };
  start = 0 ∷ 1 ∷ 0 ∷ 1 ∷ [];
  losses = 1 ∷ 1 ∷ 1 ∷ 1 ∷ 1 ∷ 1 ∷ 2 ∷ 1 ∷ [];
  factor = 2;
}

-- the ends of the levels
abbrev pub level_ends : List PathAnswer
level_ends =
    ended 3 3 facet_end 1 2 ((1 ∷ 0 ∷ 0 ∷ 1 ∷ []) ∷ (1 ∷ 0 ∷ 1 ∷ 0 ∷ []) ∷ [])
    ∷ ended 3 3 place_end 1 2 ((2 ∷ 0 ∷ 1 ∷ 1 ∷ []) ∷ (2 ∷ 0 ∷ 2 ∷ 0 ∷ []) ∷ [])
    ∷ []

-- their starts: "k times the first vertex of the last end"
abbrev pub level_starts : List Point
level_starts = (0 ∷ 1 ∷ 0 ∷ 1 ∷ []) ∷ (2 ∷ 0 ∷ 0 ∷ 2 ∷ []) ∷ []

-- "the labels are worked out afresh"
abbrev pub level_tables : List (List ℕ)
level_tables = (1 ∷ 1 ∷ 3 ∷ 1 ∷ []) ∷ (1 ∷ 1 ∷ 1 ∷ 3 ∷ 3 ∷ 1 ∷ 3 ∷ 3 ∷ 1 ∷ []) ∷ []
