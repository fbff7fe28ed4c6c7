-- `tables::fill_row` meets its contract. The invariant: the row is right before r, the entry before is last, and no
-- entry was spoilt. Assumes nothing.
use mathlib.Core.Logic.{⊎_elim}
use mathlib.Core.Path.{◌≡◌, sym, subst}
use Prim.Native.Nat.{ℕ, ◌+◌, ◌-◌, ◌*◌, ◌<◌}
use lib.ListN.{length-set, set}
use Rattle.combinatorics.proofs.Basics.{before_or_not}
use Rattle.combinatorics.proofs.Binomials.{choose-none, choose-grows}
use Rattle.combinatorics.specs.Counting.{choose}
use Rattle.positions.proofs.Table.{keeps_self, keeps_both, in_smaller, stored_is, stored-keeps, row_next}
use Rattle.positions.specs.Binomials.{IsBinomial, Keeps}
use native.Mathlib.Omega.{arith}
use Rattle.positions.proofs.tables.fill_row.Goals as goal
use Rattle.positions.proofs.tables.fill_row.Goals.{After-entry_before-last, Start}

-- the row's first entry
started : (c : Start)
    → Keeps c.args.t.now (set c.args.t.now ((15 - c.args.k) * 70) 1)
    × IsBinomial (set c.args.t.now ((15 - c.args.k) * 70) 1) c.args.k 0
started c =
    let a = c.args in
    let t = a.t.now in
    let z : (15 - a.k) * 70 + 0 ≡ (15 - a.k) * 70 = omega arith in
    let one = sym (choose-none a.k) in
    let i = in_smaller a.k a.most c.requires.in_table.0 a.k 0 c.requires.in_table.0.0 (omega arith) (omega arith) in (
      subst (λ (n : ℕ). Keeps t (set t n 1)) z (stored-keeps t a.k 0 1 c.requires.t_len.0 i one),
      subst (λ (n : ℕ). IsBinomial (set t n 1) a.k 0) z (stored_is t a.k 0 1 c.requires.t_len.0 i one),
    )

-- the next entry
next : (c : After-entry_before-last)
    → c.loop-r.last + c.entry_before-last.result ≡ choose (c.loop-r.r + c.args.k) c.args.k
next c =
    let l = c.loop-r in
    let b : l.r - 1 + 1 ≡ l.r = omega arith in
    let step = rw b at (row_next (l.r - 1) c.args.k (omega arith)) in
    rw (l.invariant.0 (l.r - 1) b, c.entry_before-last.ensures) (sym step)

-- the table after a turn
turn : (c : After-entry_before-last)
    → let t = set c.loop-r.t ((15 - c.args.k) * 70 + c.loop-r.r) (c.loop-r.last + c.entry_before-last.result) in
    Keeps c.loop-r.t t × ((i : ℕ) → i < c.loop-r.r + 1 → IsBinomial t c.args.k i)
turn c =
    let l = c.loop-r in
    let a = c.args in
    let v = l.last + c.entry_before-last.result in
    let in_row = in_smaller a.k a.most c.requires.in_table.0 a.k in
    let here = in_row l.r c.requires.in_table.0.0 (omega arith) (omega arith) in
    let keeps = stored-keeps l.t a.k l.r v l.invariant.1 here (next c) in (
      keeps,
      (λ i h. ⊎_elim
          (λ b. keeps.right a.k i (in_row i c.requires.in_table.0.0 (omega arith) (omega arith)) (l.invariant.3 i b))
          (λ b. let e : i ≡ l.r = omega arith in rw e (stored_is l.t a.k l.r v l.invariant.1 here (next c)))
          (before_or_not i l.r)),
    )

pub loop-r-init : goal.loop-r-init
loop-r-init c =
    let s = started (goal.at.loop-r-init c).Start in (
      (λ i h. let e : i ≡ 0 = omega arith in rw e (sym (choose-none c.args.k))),
      simp length-set c.requires.t_len.0,
      keeps_self,
      (λ i h. let e : i ≡ 0 = omega arith in rw e s.1),
    )

pub entry_before-last-requires : goal.entry_before-last-requires
entry_before-last-requires c =
    let l = c.loop-r in
    let in_row = in_smaller c.args.k c.args.most c.requires.in_table.0 in (
      in_row c.args.k l.r c.requires.in_table.0.0 (omega arith) (omega arith),
      (λ h.
          let i = in_row (c.args.k - 1) l.r (omega arith) (omega arith) (omega arith) in
          l.invariant.2.right (c.args.k - 1) l.r i
          ((started (goal.at.entry_before-last-requires c).Start).0.right (c.args.k - 1) l.r i (c.requires.t_len.1 l.r h (omega arith)))),
    )

pub overflow_add-last : goal.overflow_add-last
overflow_add-last c =
    let l = c.loop-r in
    let a = c.args in
    omega (
      arith,
      next (goal.at.overflow_add-last c).After-entry_before-last,
      choose-grows l.r a.most a.k a.k (omega arith) (omega arith),
      c.requires.in_table.1,
    )

pub loop-r-preserved : goal.loop-r-preserved
loop-r-preserved c =
    let l = c.loop-r in
    let w = turn (goal.at.loop-r-preserved c).After-entry_before-last in (
      (λ i h. let e : i ≡ l.r = omega arith in rw e (next (goal.at.loop-r-preserved c).After-entry_before-last)),
      simp length-set l.invariant.1,
      keeps_both l.invariant.2 w.0,
      w.1,
    )

pub returns : goal.returns
returns c =
    let l = c.loop-r in
    (l.invariant.1, keeps_both (started (goal.at.returns c).Start).0 l.invariant.2, (λ r h. l.invariant.3 r (omega arith)))

pub returns-2 : goal.returns-2
returns-2 c =
    let l = c.loop-r in
    let w = turn (goal.at.returns-2 c).After-entry_before-last in (
      simp length-set l.invariant.1,
      keeps_both (started (goal.at.returns-2 c).Start).0 (keeps_both l.invariant.2 w.0),
      (λ r h. w.1 r (omega arith)),
    )
