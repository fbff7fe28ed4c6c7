-- `moved_by` meets its contract: a point leaves, or an index joins T. Assumes nothing.
use Rattle.ways.proofs.moved_by.Goals as goal

pub grow-requires : goal.grow-requires
grow-requires c = record {
  below = c.requires.sound.0.forward;
  order_below = c.requires.sound.1.order_below;
  ready = c.requires.can_move.joins _ c.in-Joins.is;
}
