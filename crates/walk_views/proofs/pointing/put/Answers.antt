-- `pointing::put` meets its contract. Assumes nothing.
use Rattle.walk_views.proofs.Placed.{can_put, put_so, told_long}
use Rattle.walk_ways.specs.Standing.{IsRoundOf}
use Rattle.walk_views.proofs.pointing.put.Goals as goal
use Rattle.walk_views.proofs.pointing.put.Goals.{After-round_of-round}

-- the ways round the blocks
rounds : (c : After-round_of-round) → IsRoundOf c.args.g c.round_of-round.result
rounds c = (c.round_of-round.ensures.0, c.round_of-round.ensures.1)

pub round_of-round-requires : goal.round_of-round-requires
round_of-round-requires c = c.requires.sees.made

pub put_points-count-requires : goal.put_points-count-requires
put_points-count-requires c =
    let N = rounds (goal.at.put_points-count-requires c).After-round_of-round in
    (can_put c.requires N, told_long c.requires N)

pub returns : goal.returns
returns c =
    put_so c.requires (rounds (goal.at.returns c).After-round_of-round) c.put_points-count.result
    c.put_points-count.new.buf c.put_points-count.ensures.value c.put_points-count.ensures.buf_after
