-- Equality of sets of points. Assumes nothing.
use mathlib.Core.Bool.{true}
use mathlib.Core.Path.{◌≡◌}
use Rattle.combinatorics.proofs.Lists.{Equality, on_lists}
use Rattle.grid_points.proofs.Points.{on_points}
use Rattle.place.specs.Path.{same_simplex}
use Rattle.place.specs.Places.{Simplex}

abbrev pub on_simplices : Equality Simplex
on_simplices = on_lists on_points

pub simplex_sound : (a b : Simplex) → same_simplex a b ≡ true → a ≡ b
simplex_sound = on_simplices.sound

pub simplex_self : (a : Simplex) → same_simplex a a ≡ true
simplex_self = on_simplices.self
