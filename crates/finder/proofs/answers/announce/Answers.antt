-- `finder::answers::announce` meets its contract: the vertices of an end are put into the buffer. Assumes nothing.
use mathlib.Core.Path.{sym}
use Rattle.combinatorics.proofs.Fronts.{front-none}
use borrow.Author.Rules.{rules}
use Rattle.finder.proofs.answers.announce.Goals as goal

pub enum_told-1 : goal.enum_told-1
enum_told-1 c = search rules

pub block_number-requires : goal.block_number-requires
block_number-requires c =
    (c.requires.made, (c.requires.end _ _ _ _ _ c.in-Ended.is).index)

pub put_points-vertices-requires : goal.put_points-vertices-requires
put_points-vertices-requires c =
    let e = c.requires.end _ _ _ _ _ c.in-Ended.is in
    (rw c.first_vertex-from.ensures e.points, e.many)

pub returns-in-Spent : goal.returns-in-Spent
returns-in-Spent c = record { value = rw c.in-Spent.is; answer_after = rw c.in-Spent.is (sym (front-none _)) }

pub returns-in-Unknown : goal.returns-in-Unknown
returns-in-Unknown c =
    let is = c.in-Unknown.is in
    record { value = rw is; answer_after = rw is (sym (front-none _)) }

pub returns-in-Ended : goal.returns-in-Ended
returns-in-Ended c =
    let is = c.in-Ended.is in
    let e = c.requires.end _ _ _ _ _ is in
    let from = c.first_vertex-from.ensures in
    let put = c.put_points-vertices.ensures in
    let block = c.block_number.ensures in
    record { value = rw (is, block, c.put_points-vertices.ensures.value, from, e.many); answer_after = rw (is, c.put_points-vertices.ensures.buf_after, from) }
