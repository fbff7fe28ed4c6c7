-- `cover::label_at` meets its contract: no steps lead from the point to itself, and its position is below the table's
-- length. Assumes nothing.
use mathlib.Core.Path.{◌≡◌, refl}
use borrow.Author.Tests.{leb-true}
use lib.Dec.{leb}
use lib.ListN.{get_or, take}
use native.Mathlib.Omega.{arith}
use Rattle.combinatorics.proofs.Lists.{at_all}
use Rattle.label_table.proofs.Labels.{byte_read}
use Rattle.grid.proofs.Fields.{made-accepted}
use Rattle.grid_points.specs.Grid.{num_indices, position}
use Rattle.grid.specs.Made.{shape}
use Rattle.place.specs.Problem.{label}
use Rattle.checker.proofs.Covering.{can_stay, stays-on-grid, same-position, label_inside}
use Rattle.checker.proofs.cover.label_at.Goals as goal

pub position-position-requires : goal.position-position-requires
position-position-requires c = let s = c.args.g in
    let y = c.args.y.now in
    let made = c.requires.made.0 in
    let on = c.requires.labelled.1 in
    record { made = c.requires.made; can_take_steps = (can_stay s made y on, stays-on-grid s made y on) }

pub read_at-requires : goal.read_at-requires
read_at-requires c =
    let s = c.args.g in
    let y = c.args.y.now in
    let made = c.requires.made.0 in
    let on = c.requires.labelled.1 in
    let is : c.position-position.result ≡ position (shape s) (take s.indices y) =
    same-position s made y on _ c.position-position.ensures in
    omega (arith, label_inside s made y on c.args.labels.now c.requires.labelled.0.whole)

pub returns : goal.returns
unfolding label
returns c =
    let s = c.args.g in
    let y = c.args.y.now in
    let made = c.requires.made.0 in
    let on = c.requires.labelled.1 in
    let labels = c.args.labels.now in
    let is : c.position-position.result ≡ position (shape s) (take s.indices y) =
    same-position s made y on _ c.position-position.ensures in
    let low = label_inside s made y on labels c.requires.labelled.0.whole in
    let most = leb-true (get_or labels (position (shape s) (take s.indices y)) 0) (num_indices (shape s))
    (at_all (λ l. leb l (num_indices (shape s))) labels (position (shape s) (take s.indices y))
    c.requires.labelled.0.within low) in
    rw (c.read_at.ensures, byte_read, is) record {
      value = (refl, omega (arith, most, (made-accepted s made).few_indices));
      result_value = refl;
    }
