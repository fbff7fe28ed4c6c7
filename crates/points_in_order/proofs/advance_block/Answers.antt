-- `advance_block` meets its contract: what its stores make of a block is the list after it. Assumes nothing.
use Rattle.points_in_order.proofs.PointAfter.{block_wraps, block-moves, room-before}
use Rattle.points_in_order.proofs.advance_block.Goals as goal

pub returns-then-i-eq0 : goal.returns-then-i-eq0
returns-then-i-eq0 c = block_wraps c.args.block.now
    c.last_positive-i.result c.last_positive-i.ensures c.if-i-eq0.true

pub overflow_add-block : goal.overflow_add-block
overflow_add-block c =
    let p = c.last_positive-i in
    record {
      fits = room-before c.args.block.now p.result 65536 p.ensures c.if-i-eq0.false c.requires.1;
    }

pub returns : goal.returns
returns c =
    let p = c.last_positive-i in
    block-moves c.args.block.now p.result p.ensures c.if-i-eq0.false
