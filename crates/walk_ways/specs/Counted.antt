-- What question 20 asks of a walk besides its two places. Assumes nothing.
use Rattle.std.specs.Prelude.{List, ◌≡◌, ℕ, ◌≤◌}
use Rattle.grid_points.specs.Grid.{bound}
use Rattle.walks.specs.Walk.{Walk, labels_of, over}

-- its places so far are from 1 to the bound, it carries its place's labels, and its labels read are from 1 to its
-- places
pub record Counted (w : Walk) (labels : List ℕ) : Type 0 where
  pub some : 1 ≤ w.places
  pub most : w.places ≤ bound w.grid
  pub carries : w.carried ≡ labels_of (over w labels) w.present
  pub read : 1 ≤ w.read
  pub read_few : w.read ≤ w.places
