-- `cover::first_whole` meets its contract. The invariant: no block before j is whole. Assumes nothing.
use mathlib.Core.Path.{◌≡◌, sym, ap, ◌∙◌}
use Prim.Native.Nat.{◌+◌, ◌-◌}
use native.Mathlib.Numerals.{add-one}
use native.Mathlib.Omega.{arith}
use Rattle.grid.proofs.Fields.{blocks-range}
use Rattle.grid.specs.Made.{shape}
use Rattle.check_chains.proofs.WholeSets.{is_block}
use Rattle.checker.proofs.Covering.{whole-block, block-whole, first_of-blocks, first_stops, first_goes}
use Rattle.checker.specs.Check.{check_case}
use Rattle.checker.proofs.cover.first_whole.Goals as goal

pub loop-j-init : goal.loop-j-init
loop-j-init c = let e : c.args.g.blocks - 0 ≡ c.args.g.blocks = omega arith in
    (omega arith, (blocks-range c.args.g c.requires).1, rw e)

pub has_all-requires : goal.has_all-requires
has_all-requires c = let i = is_block c.args.g c.requires c.loop-j.j (omega arith) in
    omega (arith, i.first_is, i.size_is, i.inside, i.few, c.from.ensures, c.from-first.ensures)

pub returns-then-has_all : goal.returns-then-has_all
returns-then-has_all c =
    let s = c.args.g in
    let l = c.loop-j in
    let i = is_block s c.requires l.j (omega arith) in
    let found = block-whole (shape s).sizes c.args.set l.j _ _
    (c.from-first.ensures ∙ i.first_is)
    (ap (λ n. c.from-first.result + n) (c.from.ensures ∙ i.size_is))
    c.has_all.ensures in
    let first = first_stops (whole-block (shape s).sizes c.args.set) l.j s.blocks (omega arith) l.invariant.2
    (sym found ∙ c.if-has_all.true) in
    rw (add-one l.j) (ap check_case (first_of-blocks s c.requires c.args.set first))

pub loop-j-preserved : goal.loop-j-preserved
loop-j-preserved c =
    let s = c.args.g in
    let l = c.loop-j in
    let i = is_block s c.requires l.j (omega arith) in
    let found = block-whole (shape s).sizes c.args.set l.j _ _
    (c.from-first.ensures ∙ i.first_is)
    (ap (λ n. c.from-first.result + n) (c.from.ensures ∙ i.size_is))
    c.has_all.ensures in (
      omega arith,
      omega arith,
      first_goes (whole-block (shape s).sizes c.args.set) l.j s.blocks (omega arith) l.invariant.2
          (sym found ∙ c.if-has_all.false),
    )
