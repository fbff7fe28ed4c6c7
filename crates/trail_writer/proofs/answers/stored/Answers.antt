-- `answers::stored` meets its contract: the second pass is made at an end whose trail has room. Assumes nothing.
use mathlib.Core.Logic.{⊎_elim}
use mathlib.Core.Path.{sym}
use borrow.Author.Tests.{le-leb, lt-leb}
use lib.ListN.{length}
use native.Mathlib.Omega.{arith}
use Rattle.combinatorics.proofs.Fronts.{front-none}
use Rattle.marks.specs.Reading.{problem_from}
use Rattle.trail_writer.specs.Writing.{whole_trail}
use Rattle.trail_writer.proofs.answers.stored.Goals as goal

pub returns-then-trail-bytes : goal.returns-then-trail-bytes
returns-then-trail-bytes c =
    let is = c.in-Ended.is in
    let a = c.args in
    let p = problem_from a.g a.start.now a.labels.now in
    let short = lt-leb (length (whole_trail p)) (length a.trail.now)
    (omega (arith, (c.requires.end _ _ _ _ _ is).1, c.if-trail-bytes.true)) in
    record { value = rw (is, short); trail_after = rw (is, short) (sym (front-none a.trail.now)) }

pub returns-in-Spent : goal.returns-in-Spent
returns-in-Spent c = ⊎_elim
    (λ is. record { value = rw is; trail_after = rw is (sym (front-none _)) })
    (λ v. record { value = rw v.2; trail_after = rw v.2 (sym (front-none _)) })
    c.in-Spent.is

pub returns-else-trail-bytes : goal.returns-else-trail-bytes
returns-else-trail-bytes c =
    let is = c.in-Ended.is in
    let a = c.args in
    let p = problem_from a.g a.start.now a.labels.now in
    let fits = le-leb (length (whole_trail p)) (length a.trail.now)
    (omega (arith, (c.requires.end _ _ _ _ _ is).1, c.if-trail-bytes.false)) in
    record { value = rw (is, fits); trail_after = rw (is, fits) c.write_trail.ensures }
