-- `moving::call_on` meets its contract. Assumes nothing.
use mathlib.Core.Logic.{⊎_elim}
use mathlib.Core.Path.{◌≡◌, sym, ◌∙◌}
use Rattle.grid.proofs.Fields.{indices-few}
use Rattle.grid.specs.Made.{shape}
use Rattle.place.specs.Questions.{table_questions}
use Rattle.questions.specs.Questions.{first_no}
use Rattle.walk_calls.proofs.CarriedTo.{lent_completes}
use Rattle.walk_calls.proofs.Calls.{call_ended, call_moved, call_refuses, goes_to, places-few, table-refused}
use Rattle.walk_calls.proofs.Later.{walk-asked}
use Rattle.walk_places.specs.Placing.{GoesTo}
use Rattle.walk_places.specs.Walks.{table_on}
use Rattle.walk_calls.proofs.moving.call_on.Goals as goal
use Rattle.walk_calls.proofs.moving.call_on.Goals.{After-first_table_no-number, In-Moved}

pub shared_ref_as_front-first_table_no : goal.shared_ref_as_front-first_table_no
shared_ref_as_front-first_table_no c = indices-few c.args.g c.requires

asked : (c : After-first_table_no-number) → (let a = c.args in
    first_no (table_questions (table_on a.g a.w a.labels.now)) ≡ c.first_table_no-number.result)
asked c = walk-asked c.args.g c.args.w c.args.labels.now c.requires ∙ sym c.first_table_no-number.ensures

pub returns-then-number-ne0 : goal.returns-then-number-ne0
returns-then-number-ne0 c =
    let a = c.args in
    c.unmoved.ensures ∙ table-refused (shape a.g) a.w a.labels.now c.first_table_no-number.result c.if-number-ne0.true
    (asked (goal.at.returns-then-number-ne0 c).After-first_table_no-number)

pub next_on-answer-requires : goal.next_on-answer-requires
next_on-answer-requires c =
    (c.requires, asked (goal.at.next_on-answer-requires c).After-first_table_no-number ∙ c.if-number-ne0.false)

going : (c : In-Moved) → (let a = c.args in
    GoesTo (shape a.g) a.w a.labels.now c.next_on-answer.result.place)
going c =
    let a = c.args in
    let next = c.next_on-answer in
    goes_to (shape a.g) a.w a.labels.now next.result next.ensures c.in-Moved.field-0 c.in-Moved.is

pub carried_to-requires : goal.carried_to-requires
carried_to-requires c = (c.requires, going c)

pub moved_to-walk-requires : goal.moved_to-walk-requires
moved_to-walk-requires c =
    let a = c.args in
    places-few (shape a.g) a.w a.labels.now (going (goal.at.moved_to-walk-requires c).In-Moved)

pub returns-in-Moved : goal.returns-in-Moved
returns-in-Moved c =
    let to = going (goal.at.returns-in-Moved c).In-Moved in
    let a = c.args in
    let on = c.carried_to in
    let next = c.next_on-answer in
    rw c.moved_to-walk.ensures (call_moved (shape a.g) a.w a.labels.now next.result next.ensures to on.result
    (on.ensures to a.labels.now (lent_completes c.requires to)))

pub returns-in-Refused : goal.returns-in-Refused
returns-in-Refused c =
    let a = c.args in
    let next = c.next_on-answer in
    ⊎_elim (λ r. call_refuses (shape a.g) a.w a.labels.now next.result next.ensures r.0 r.1)
    (λ r. call_ended (shape a.g) a.w a.labels.now next.result next.ensures r.0 r.1 r.2 r.3) c.in-Refused.is
