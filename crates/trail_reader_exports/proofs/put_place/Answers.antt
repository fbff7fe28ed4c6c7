-- `put_place` meets its contract: the four numbers are stored one behind the other. Assumes nothing.
use mathlib.Core.Path.{refl, sym}
use Rattle.combinatorics.proofs.Fronts.{front-none}
use Rattle.combinatorics.specs.Front.{front}
use Rattle.trail_reader_exports.proofs.put_place.Goals as goal

pub returns-in-Refused : goal.returns-in-Refused
returns-in-Refused c = rw c.in-Refused.is record { number = refl; place = sym (front-none _) }

pub returns-in-Place : goal.returns-in-Place
unfolding front
returns-in-Place c = rw c.in-Place.is record {
  number = refl;
  place = rw (c.copy_from_slice.ensures.after, c.from.ensures, c.from-in-Place.ensures);
}
