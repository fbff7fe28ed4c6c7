-- `one_way::way` meets its contract. Assumes nothing.
use Rattle.walk_ways.proofs.Tried.{few, way_facet, way_moved, way_place}
use Rattle.walk_ways.proofs.one_way.way.Goals as goal

pub kept_as-requires : goal.kept_as-requires
kept_as-requires c =
    let a = c.args in
    let own = c.make_move.new.held in
    let w = few a.m a.round.now own a.s c.make_move.ensures c.requires.1 c.in-Moved.is in
    record { m_bound = (c.requires.2, own.first_long); n_bound = (w, own.order_long) }

pub returns-in-Moved : goal.returns-in-Moved
returns-in-Moved c =
    let a = c.args in
    let own = c.make_move.new.held in
    rw c.kept_as.ensures (way_moved a.m a.round.now own a.s c.make_move.ensures c.requires.1 c.in-Moved.is)

pub returns-in-PlaceEnd : goal.returns-in-PlaceEnd
returns-in-PlaceEnd c =
    let a = c.args in
    let own = c.make_move.new.held in
    rw c.none.ensures (way_place a.m a.round.now own a.s c.make_move.ensures c.requires.1 c.in-PlaceEnd.is)

pub returns-in-FacetEnd : goal.returns-in-FacetEnd
returns-in-FacetEnd c =
    let a = c.args in
    let own = c.make_move.new.held in
    rw c.none-in-FacetEnd.ensures
    (way_facet a.m a.round.now own a.s c.make_move.ensures c.requires.1 c.in-FacetEnd.is)
