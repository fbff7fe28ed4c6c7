-- `grid::questions::first_grid_no` meets its contract: each return follows from the questions answered yes before it.
-- Assumes nothing.
use mathlib.Core.Bool.{true}
use mathlib.Core.List.{List}
use mathlib.Core.Path.{◌≡◌, sym, ◌∙◌}
use Prim.Native.Nat.{ℕ, ◌≤◌}
use borrow.Author.Tests.{le-leb, lt-leb, eq-eqb, ne_eqb}
use lib.Dec.{leb}
use lib.ListN.{length, take}
use Rattle.combinatorics.proofs.Basics.{and_both}
use Rattle.combinatorics.proofs.Turns.{whole}
use Rattle.combinatorics.specs.Lists.{all, sum}
use Rattle.questions.specs.Questions.{first_no}
use Rattle.grid_points.proofs.Listing.{num_points-is}
use Rattle.grid_points.specs.Grid.{num_points, lent}
use Rattle.combinatorics.specs.Counting.{binomial_product}
use Rattle.grid_points.specs.Questions.{question1, question2, question3}
use native.Mathlib.Omega.{arith}
use Rattle.grid.proofs.grid_questions.first_grid_no.Goals as goal
use Rattle.grid.proofs.grid_questions.first_grid_no.Goals.{then-blocks-lt1-via-then-blocks-lt1, then-blocks-lt1-via-else-blocks-lt1+then-blocks-gt-MAX_BLOCKS}
use Rattle.grid.proofs.grid_questions.first_grid_no.Goals.{then-not-each_at_least-via-then-not-each_at_least, then-not-each_at_least-via-else-not-each_at_least+then-first_index-gt-MAX_INDICES}
use Rattle.grid.proofs.grid_questions.first_grid_no.Goals.{then-divisions-blocks-via-then-divisions-blocks, then-divisions-blocks-via-else-divisions-blocks+then-not-each_one}
use Rattle.grid.proofs.grid_questions.first_grid_no.Goals.{Else-first_index-gt-MAX_INDICES, Else-not-each_one}

-- the first three questions answered yes, and all the sizes added up
module _ (ss ds : List ℕ) where
  yes1 : 1 ≤ length ss → length ss ≤ 6 → (question1 (lent ss ds)).answered_yes ≡ true
  yes1 a b = and_both _ _ (le-leb 1 (length ss) a) (le-leb (length ss) 6 b)

  yes2 : all (λ s. leb 2 s) ss ≡ true → sum ss ≤ 16 → (question2 (lent ss ds)).answered_yes ≡ true
  yes2 a b = and_both _ _ a (le-leb (sum ss) 16 b)

  yes3 : length ds ≡ length ss → all (λ d. leb 1 d) ds ≡ true → (question3 (lent ss ds)).answered_yes ≡ true
  yes3 a b = and_both _ _ (eq-eqb _ _ a) b

  total : sum (take (length ss) ss) ≡ sum ss
  total = rw (whole ss (length ss) (omega arith))

-- the sizes are two or more each, and at most 16 in all
sized : (c : Else-first_index-gt-MAX_INDICES)
    → (all (λ s. leb 2 s) c.args.sizes.now ≡ true) × (sum c.args.sizes.now ≤ 16)
sized c = (
  sym c.«each_at_least».ensures ∙ c.if-not-each_at_least.false,
  omega (arith, c.first_index.ensures, total c.args.sizes.now c.args.divisions.now),
)

ones : (c : Else-not-each_one) → all (λ d. leb 1 d) c.args.divisions.now ≡ true
ones c = sym c.each_one.ensures ∙ c.if-not-each_one.false

pub returns-then-blocks-lt1 : goal.returns-then-blocks-lt1
unfolding first_no
returns-then-blocks-lt1 c =
    let n = length c.args.sizes.now in
    elim c.then-blocks-lt1.branch [
      | then-blocks-lt1-via-then-blocks-lt1 w ↦ rw (lt-leb 1 n (omega arith))
      | then-blocks-lt1-via-else-blocks-lt1+then-blocks-gt-MAX_BLOCKS w ↦
          rw (le-leb 1 n (omega arith), lt-leb n 6 (omega arith))
    ]

pub returns-then-not-each_at_least : goal.returns-then-not-each_at_least
unfolding first_no
returns-then-not-each_at_least c =
    let ss = c.args.sizes.now in
    let ds = c.args.divisions.now in
    rw (yes1 ss ds (omega arith) (omega arith))
    (elim c.then-not-each_at_least.branch [
      | then-not-each_at_least-via-then-not-each_at_least w ↦
          rw (sym c.«each_at_least».ensures ∙ w.if-not-each_at_least.true)
      | then-not-each_at_least-via-else-not-each_at_least+then-first_index-gt-MAX_INDICES w ↦
          rw (
            sym c.«each_at_least».ensures ∙ w.if-not-each_at_least.false,
            lt-leb (sum ss) 16 (omega (arith, w.first_index.ensures, total ss ds)),
          )
    ])

pub returns-then-divisions-blocks : goal.returns-then-divisions-blocks
unfolding first_no
returns-then-divisions-blocks c =
    let ss = c.args.sizes.now in
    let ds = c.args.divisions.now in
    let s = sized (goal.at.returns-then-divisions-blocks c).Else-first_index-gt-MAX_INDICES in
    rw (yes1 ss ds (omega arith) (omega arith), yes2 ss ds s.0 s.1)
    (elim c.then-divisions-blocks.branch [
      | then-divisions-blocks-via-then-divisions-blocks w ↦ rw (ne_eqb _ _ w.if-divisions-blocks.true)
      | then-divisions-blocks-via-else-divisions-blocks+then-not-each_one w ↦
          rw (eq-eqb _ _ w.if-divisions-blocks.false, sym w.each_one.ensures ∙ w.if-not-each_one.true)
    ])

pub points-requires : goal.points-requires
points-requires c =
    let s = sized (goal.at.points-requires c).Else-first_index-gt-MAX_INDICES in
    (s.0, s.1, c.if-divisions-blocks.false)

pub returns-then-points-gt-MAX_POINTS : goal.returns-then-points-gt-MAX_POINTS
unfolding first_no
returns-then-points-gt-MAX_POINTS c =
    let ss = c.args.sizes.now in
    let ds = c.args.divisions.now in
    let s = sized (goal.at.returns-then-points-gt-MAX_POINTS c).Else-first_index-gt-MAX_INDICES in
    let p : num_points (lent ss ds) ≡ binomial_product ss ds = num_points-is _ s.0 in
    rw (
      yes1 ss ds (omega arith) (omega arith),
      yes2 ss ds s.0 s.1,
      yes3 ss ds c.if-divisions-blocks.false (ones (goal.at.returns-then-points-gt-MAX_POINTS c).Else-not-each_one),
      lt-leb (num_points (lent ss ds)) 60000 (omega (arith, p, c.points.ensures)),
    )

pub returns : goal.returns
unfolding first_no
returns c =
    let ss = c.args.sizes.now in
    let ds = c.args.divisions.now in
    let s = sized (goal.at.returns c).Else-first_index-gt-MAX_INDICES in
    let p : num_points (lent ss ds) ≡ binomial_product ss ds = num_points-is _ s.0 in
    rw (
      yes1 ss ds (omega arith) (omega arith),
      yes2 ss ds s.0 s.1,
      yes3 ss ds c.if-divisions-blocks.false (ones (goal.at.returns c).Else-not-each_one),
      le-leb (num_points (lent ss ds)) 60000 (omega (arith, p, c.points.ensures)),
    )
