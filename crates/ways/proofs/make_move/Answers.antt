-- `make_move` meets its contract: the move by the way that the labels tell is the step. Assumes nothing.
use Rattle.std.proofs.Common.{◌≡◌, sym, ap, ◌∙◌, subst}
use Rattle.moves.specs.Held.{state_of}
use Rattle.rules.specs.Moves.{State}
use Rattle.ways.specs.Ways.{CanMove, way_after, way_here}
use Rattle.ways.proofs.Here.{can_tell, here-moves, here-steps, same_way}
use Rattle.ways.proofs.make_move.Goals as goal
use Rattle.ways.proofs.make_move.Goals.{After-way_here-way, Start}

-- the state at the place
abbrev place : Start → State
place c = state_of c.args.round.now c.args.held.now c.args.s

pub way_here-way-requires : goal.way_here-way-requires
way_here-way-requires c =
    let a = c.args in can_tell a.round.now a.held.now a.s c.requires.ready

way-is : (c : After-way_here-way) → c.way_here-way.result ≡ way_here (place (goal.at.After-way_here-way c).Start)
way-is c =
    let a = c.args in c.way_here-way.ensures ∙ same_way a.round.now a.held.now a.s

pub moved_by-requires : goal.moved_by-requires
moved_by-requires c =
    let a = c.args in
    let start = (goal.at.moved_by-requires c).Start in
    let way = way-is (goal.at.moved_by-requires c).After-way_here-way in record {
      sound = (
        c.requires.below,
        record {
          few = (can_tell a.round.now a.held.now a.s c.requires.ready).few;
          order_below = c.requires.ready.order_below;
        },
      );
      can_move = subst (CanMove (place start)) (sym way) (here-moves (place start) c.requires.ready);
    }

pub returns : goal.returns
returns c =
    let start = (goal.at.returns c).Start in
    c.moved_by.ensures
    ∙ ap (way_after (place start)) (way-is (goal.at.returns c).After-way_here-way)
    ∙ here-steps (place start)
