-- `moving::grid_in` meets its contract. Assumes nothing.
use Rattle.walk_calls.proofs.GridIn.{grid_in}
use Rattle.walk_calls.proofs.moving.grid_in.Goals as goal

pub returns : goal.returns
returns c = grid_in c.args.w c.six-blocks.result c.six-blocks.ensures c.new.result c.new.ensures
