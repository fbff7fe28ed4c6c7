-- `nesting::one_chain` meets its contract. The invariant: what is asked of the points from k on. The measure: the
-- points left. Assumes nothing.
use mathlib.Core.Path.{◌≡◌, sym, ◌∙◌}
use Prim.Native.Nat.{◌-◌}
use native.Mathlib.Omega.{arith}
use Rattle.grid.specs.Made.{shape}
use Rattle.check_simplices.specs.Chains.{chain_from, one_chain}
use Rattle.check_chains.proofs.ListedPoints.{is-listed, on-grid}
use Rattle.check_chains.proofs.Nestings.{any-stops, any-goes}
use Rattle.check_chains.specs.Listed.{listed, listed_at}
use Rattle.check_chains.proofs.nesting.one_chain.Goals as goal

pub loop-k-init : goal.loop-k-init
unfolding one_chain
loop-k-init c = let e : c.args.count - 0 ≡ c.args.count = omega arith in (omega arith, rw e)

pub chain_from-requires : goal.chain_from-requires
chain_from-requires c = let i = is-listed c.requires.has c.loop-k.k (omega arith) in
    (c.requires, rw i.part (on-grid c.requires c.loop-k.k (omega arith)))

pub returns-then-chain_from : goal.returns-then-chain_from
returns-then-chain_from c =
    let a = c.args in
    let l = c.loop-k in
    let i = is-listed c.requires.has l.k (omega arith) in
    any-stops (listed_at a.g.indices a.numbers.now) l.k a.count (omega arith)
    (chain_from (shape a.g) (listed a.g.indices a.count a.numbers.now)) l.invariant.1
    (sym (rw i.part at c.chain_from.ensures) ∙ c.if-chain_from.true)

pub loop-k-preserved : goal.loop-k-preserved
loop-k-preserved c =
    let a = c.args in
    let l = c.loop-k in
    let i = is-listed c.requires.has l.k (omega arith) in (
      omega arith,
      any-goes (listed_at a.g.indices a.numbers.now) l.k a.count (omega arith)
          (chain_from (shape a.g) (listed a.g.indices a.count a.numbers.now)) l.invariant.1
          (sym (rw i.part at c.chain_from.ensures) ∙ c.if-chain_from.false),
    )
