-- `standing::stand` meets its contract. Assumes nothing.
use borrow.Author.Rules.{rules}
use mathlib.Core.Path.{◌≡◌, sym, ◌∙◌}
use Rattle.arrays.specs.declared.holding.Held.{Held}
use Rattle.walk_next.proofs.Stood.{all_seen, can-choose, can_see, carries_others, carries_own, labels-low}
use Rattle.walk_next.proofs.Stood.{no-place-there, not_all_place, not_kept_place, present}
use Rattle.walk_ways.proofs.Chosen.{refused-is}
use Rattle.walk_next.proofs.standing.stand.Goals as goal
use Rattle.walk_next.proofs.standing.stand.Goals.{After-seen}

abbrev held : After-seen → Held
held c = c.seen.new.held

-- the first point and the order that are held stay the present place's
first : (c : After-seen) → (held c).first ≡ c.args.w.present.first
first c = c.seen.ensures.stays.0 ∙ c.held_in-held.ensures.0

order : (c : After-seen) → (held c).order ≡ c.args.w.present.order
order c = c.seen.ensures.stays.1 ∙ c.held_in-held.ensures.1

pub seen-requires : goal.seen-requires
seen-requires c = can_see c.requires

pub returns-in_default : goal.returns-in_default
returns-in_default c =
    let a = c.args in
    let h = (goal.at.returns-in_default c).After-seen in
    c.refused.ensures ∙ refused-is a.g a.w a.labels.now 20
    (no-place-there c.requires (held h) (first h) (order h)
    (not_kept_place (can_see c.requires) (held h) c.in_default.ensures.recognised))

pub returns-then-not-carries : goal.returns-then-not-carries
returns-then-not-carries c =
    let a = c.args in
    let h = (goal.at.returns-then-not-carries c).After-seen in
    c.refused-then-not-carries.ensures ∙ refused-is a.g a.w a.labels.now 20
    (carries_others c.requires (held h) (first h) (order h) c.in-Some.ensures.recognised
    (sym c.carries.ensures ∙ c.if-not-carries.true))

pub spare-spared-requires : goal.spare-spared-requires
spare-spared-requires c =
    let h = (goal.at.spare-spared-requires c).After-seen in
    let seen = c.in-Some.ensures.recognised in
    (c.requires.few, seen.marks_long, labels-low (can_see c.requires) (held h) seen)

pub returns-then-spared-sets : goal.returns-then-spared-sets
returns-then-spared-sets c =
    let a = c.args in
    let h = (goal.at.returns-then-spared-sets c).After-seen in
    c.refused-then-spared-sets.ensures ∙ refused-is a.g a.w a.labels.now 20
    (no-place-there c.requires (held h) (first h) (order h)
    (not_all_place (can_see c.requires) (held h) c.in-Some.ensures.recognised c.spare-spared.ensures (search rules)
    (search rules) c.if-spared-sets.true))

pub chosen-requires-clause-can_choose : goal.chosen-requires-clause-can_choose
chosen-requires-clause-can_choose c =
    let pre = c.requires in
    let h = (goal.at.chosen-requires-clause-can_choose c).After-seen in
    let seen = c.in-Some.ensures.recognised in
    can-choose (can_see pre) (held h) seen c.spare-spared.ensures
    (all_seen (can_see pre) (held h) seen c.spare-spared.ensures c.if-spared-sets.false) pre
    (present pre (held h) (first h) (order h))
    (carries_own pre (held h) (first h) (order h) seen (sym c.carries.ensures ∙ c.if-not-carries.false))

pub chosen-requires-clause-round_of : goal.chosen-requires-clause-round_of
chosen-requires-clause-round_of c = (c.round_of-round.ensures.0, c.round_of-round.ensures.1)
