-- `put_levels` meets its contract. The invariant: the facts of the levels so far stand at the front. Assumes nothing.
use mathlib.Core.Path.{◌≡◌, sym, ap, ◌∙◌}
use Prim.Native.Nat.{ℕ, ◌<◌}
use lib.Seq.{length-take-le}
use native.Mathlib.Omega.{arith}
use Rattle.std.proofs.lemmas.List.{get_or-take}
use Rattle.combinatorics.proofs.Fronts.{front-none}
use Rattle.combinatorics.specs.Front.{front}
use Rattle.exports.proofs.Facts.{facts_part, facts_put, facts_room, facts_of}
use Rattle.exports.proofs.refine_calls.put_levels.Goals as goal

pub loop-i-init : goal.loop-i-init
loop-i-init c = sym (front-none c.args.facts.now)

pub slice_bounds-put_level-count : goal.slice_bounds-put_level-count
slice_bounds-put_level-count c =
    let l = c.loop-i in
    let few = length-take-le c.args.found.count c.args.found.levels (omega (arith, c.requires.0, c.requires.1)) in
    omega (
      arith,
      facts_room c.args.found.levels c.requires.1 c.args.facts.now l.facts c.requires.2 l.i
          l.invariant (omega (arith, c.requires.0, few)),
    )

pub slice_bounds-put_level-start : goal.slice_bounds-put_level-start
slice_bounds-put_level-start c =
    let l = c.loop-i in
    let few = length-take-le c.args.found.count c.args.found.levels (omega (arith, c.requires.0, c.requires.1)) in
    omega (
      arith,
      facts_room c.args.found.levels c.requires.1 c.args.facts.now l.facts c.requires.2 l.i
          l.invariant (omega (arith, c.requires.0, few)),
    )

pub put_level-requires : goal.put_level-requires
put_level-requires c =
    let l = c.loop-i in
    let few = length-take-le c.args.found.count c.args.found.levels (omega (arith, c.requires.0, c.requires.1)) in
    facts_part c.args.found.levels c.requires.1 c.args.facts.now l.facts c.requires.2 l.i l.invariant
    (omega (arith, c.requires.0, few))

pub loop-i-preserved : goal.loop-i-preserved
loop-i-preserved c =
    let l = c.loop-i in
    let few = length-take-le c.args.found.count c.args.found.levels (omega (arith, c.requires.0, c.requires.1)) in
    let inside : l.i < c.args.found.count = omega (arith, few) in
    facts_put c.args.found.levels c.requires.1 c.args.facts.now l.facts c.requires.2 l.i l.invariant _ _
    (omega (arith, c.requires.0)) (rw get_or-take at c.put_level.ensures)

pub returns : goal.returns
returns c =
    let l = c.loop-i in
    let few = length-take-le c.args.found.count c.args.found.levels (omega (arith, c.requires.0, c.requires.1)) in
    let e : l.i ≡ c.args.found.count = omega (arith, few) in
    l.invariant ∙ ap (λ (n : ℕ). front (facts_of n c.args.found.levels) c.args.facts.now) e
