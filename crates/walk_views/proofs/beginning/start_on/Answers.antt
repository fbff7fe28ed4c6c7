-- `beginning::start_on` meets its contract. Assumes nothing.
use mathlib.Core.Path.{refl}
use native.Mathlib.Omega.{arith}
use Rattle.combinatorics.specs.Front.{front}
use Rattle.grid.proofs.Fields.{blocks-range}
use Rattle.walk_views.proofs.Start.{can_look_up, short, start-made}
use Rattle.walk_views.proofs.beginning.start_on.Goals as goal

pub copied-y-requires : goal.copied-y-requires
copied-y-requires c =
    let a = c.args in
    short a.g c.requires.0 a.start.now a.labels.now c.requires.1

pub label_of-requires : goal.label_of-requires
label_of-requires c =
    let a = c.args in
    can_look_up a.g c.requires.0 a.start.now a.labels.now c.requires.1 c.copied-y.result
    c.copied-y.ensures

pub overflow_cast-result : goal.overflow_cast-result
overflow_cast-result c = omega (
  arith,
  (blocks-range c.args.g
      c.requires.0).1,
)

pub returns : goal.returns
unfolding front
returns c =
    let a = c.args in
    let y = c.copied-y in
    let l = c.label_of in
    start-made a.g c.requires.0 a.start.now a.labels.now c.requires.1 y.result y.ensures
    c.none.result c.none.ensures _ l.result l.ensures refl
