-- Lists of marks, one mark after the other. Assumes nothing.
use mathlib.Core.Bool.{true}
use mathlib.Core.List.{List}
use mathlib.Core.Path.{◌≡◌}
use Prim.Native.Nat.{ℕ, suc, ◌<◌}
use lib.Dec.{eqb}
use lib.ListN.{drop, get_or, length}
use lib.Seq.{drop-cons}
use Rattle.combinatorics.specs.Lists.{is_in}
use Rattle.trail.specs.Change.{outside}

module _ (l others : List ℕ) (k : ℕ) (low : k < length l) where
  pub outside-later : is_in eqb (get_or l k 0) others ≡ true
      → outside eqb others (drop (suc k) l) ≡ outside eqb others (drop k l)
  outside-later t = rw (drop-cons l k 0 low, t)
