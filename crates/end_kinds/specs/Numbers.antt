-- The numbers of the kinds of end. Document 01 gives the kinds none. Assumes nothing.
use Rattle.std.specs.Prelude.{ℕ}
use Rattle.end_kinds.specs.declared.Kind.{Kind}
use Rattle.end_kinds.specs.declared.Kind.TheVariants.{Place as place_end, Facet as facet_end}

abbrev pub kind_number : Kind → ℕ
kind_number place_end = 0
kind_number facet_end = 1
