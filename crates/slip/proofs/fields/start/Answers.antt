-- `slip::fields::start` meets its contract: the field is there or missing, or the default stands for it.
-- Assumes nothing.
use native.Mathlib.Omega.{arith}
use mathlib.Core.Bool.{true, false}
use mathlib.Core.List.{List, ◌++◌}
use mathlib.Core.Path.{◌≡◌, sym, ap, ◌∙◌}
use Prim.Native.Nat.{ℕ, ◌+◌, ◌*◌}
use lib.ListN.{drop, replicate}
use lib.Seq.{length-take-le}
use Rattle.combinatorics.specs.Front.{padded}
use Rattle.little_endian.specs.Numbers.{words}
use Rattle.slip_fields.proofs.Laws.{head-fits, at_first, at_next, length-there, length_absent, start-there}
use Rattle.slip.proofs.Readings.{start_is, no_start, asked-made, asked-indices}
use Rattle.slip_fields.specs.Slip.{stands, default_start, slip_start, field_at}
use Rattle.slip.proofs.fields.start.Goals as goal

pub default_start-numbers-requires : goal.default_start-numbers-requires
default_start-numbers-requires c = (asked-made c.args.slip.now
    c.args.grid c.requires.0).0

pub returns-then-not-bit_stands : goal.returns-then-not-bit_stands
unfolding slip_start
returns-then-not-bit_stands c =
    let slip = c.args.slip.now in
    let absent : stands slip 0 ≡ false =
    sym c.bit_stands.ensures ∙ c.if-not-bit_stands.true in
    let end : c.args.at ≡ field_at slip 1 = omega (arith, c.requires.1, at_next slip 0, length_absent slip 0 absent) in
    let is : c.default_start-numbers.result ≡ padded 16 (slip_start slip) = c.default_start-numbers.ensures
    ∙ ap (λ g. padded 16 (default_start g)) (asked-made slip c.args.grid c.requires.0).1
    ∙ rw absent in
    rw (is, end) (sym (start_is slip (omega (arith, end, c.requires.1, at_first slip, head-fits slip c.requires.0.head))))

pub overflow_sub-slip : goal.overflow_sub-slip
overflow_sub-slip c = omega (
  arith,
  c.requires.1,
  at_first c.args.slip.now,
  head-fits c.args.slip.now c.requires.0.head,
)

pub overflow_mul-grid : goal.overflow_mul-grid
overflow_mul-grid c = omega (
  arith,
  (asked-indices c.args.slip.now c.args.grid
      c.requires.0).1,
)

pub returns-then-slip-at : goal.returns-then-slip-at
returns-then-slip-at c =
    let slip = c.args.slip.now in
    let n = asked-indices slip c.args.grid c.requires.0 in
    let there : stands slip 0 ≡ true = sym c.bit_stands.ensures
    ∙ c.if-not-bit_stands.false in
    let end : c.args.at + 2 * c.args.grid.indices ≡ field_at slip 1 =
    omega (arith, n.0, c.requires.1, at_next slip 0, length-there slip 0 there) in
    sym (no_start slip (omega (arith, end, c.if-slip-at.true, c.requires.1, at_first slip, head-fits slip c.requires.0.head)))

pub slice_bounds-numbers-end : goal.slice_bounds-numbers-end
slice_bounds-numbers-end c = (asked-indices c.args.slip.now
    c.args.grid c.requires.0).1

pub slice_bounds-words-end : goal.slice_bounds-words-end
slice_bounds-words-end c =
    sym (length-take-le {A = ℕ} c.args.grid.indices (replicate 16 0)
    (asked-indices c.args.slip.now c.args.grid c.requires.0).1)

pub words-requires : goal.words-requires
words-requires c =
    let slip = c.args.slip.now in
    let n = asked-indices slip c.args.grid c.requires.0 in
    let there : stands slip 0 ≡ true =
    sym c.bit_stands.ensures ∙ c.if-not-bit_stands.false in
    let end : c.args.at + 2 * c.args.grid.indices ≡ field_at slip 1 =
    omega (arith, n.0, c.requires.1, at_next slip 0, length-there slip 0 there) in
    let k = length-take-le {A = ℕ} c.args.grid.indices (replicate 16 0) n.1 in
    omega (arith, k, c.if-slip-at.false, c.requires.1, at_first slip, head-fits slip c.requires.0.head)

pub returns : goal.returns
returns c =
    let slip = c.args.slip.now in
    let n = asked-indices slip c.args.grid c.requires.0 in
    let there : stands slip 0 ≡ true = sym c.bit_stands.ensures
    ∙ c.if-not-bit_stands.false in
    let end : c.args.at + 2 * c.args.grid.indices ≡ field_at slip 1 =
    omega (arith, n.0, c.requires.1, at_next slip 0, length-there slip 0 there) in
    let m = c.args.grid.indices in
    let read = c.words.ensures
    ∙ ap (λ (k : ℕ). words k slip c.args.at) (length-take-le {A = ℕ} m (replicate 16 0) n.1) in
    let is = ap (λ (l : List ℕ). l ++ drop m (replicate 16 0)) read
    ∙ start-there slip m c.args.at there n.0 c.requires.1 in
    rw (is, end) (sym (start_is slip (omega (
      arith,
      end,
      c.if-slip-at.false,
      c.requires.1,
      at_first slip,
      head-fits slip c.requires.0.head,
    ))))
