-- `nearest_met::distances::weights` meets its contract. The invariant: the weights of the indices passed. Assumes
-- nothing.
use mathlib.Core.Path.{◌≡◌, ap, ◌∙◌}
use Prim.Native.Nat.{ℕ, ◌≤◌}
use lib.ListN.{length-set}
use native.Mathlib.Omega.{arith}
use Rattle.combinatorics.proofs.Turns.{at_set}
use Rattle.grid.proofs.Fields.{indices-few, made-blocks, made-indices}
use Rattle.grid_points.proofs.Round.{block_spans}
use Rattle.grid_points.specs.Grid.{block_of}
use Rattle.grid.specs.Made.{shape}
use Rattle.nearest_visited.specs.Distance.{other_divisions}
use Rattle.nearest_met.proofs.distances.weights.Goals as goal

pub others-requires : goal.others-requires
others-requires c =
    let g = c.args.g in (
      c.requires,
      rw c.block_of.ensures (omega (
        arith,
        made-blocks g c.requires,
        (block_spans (shape g).sizes c.loop-h.h
            (omega (arith, made-indices g c.requires, c.loop-h-test.true))).0,
      )),
    )

pub offset_bounds-a-h : goal.offset_bounds-a-h
offset_bounds-a-h c = omega (
  arith,
  indices-few c.args.g c.requires,
  c.loop-h-test.true,
)

pub bounds-a-h : goal.bounds-a-h
bounds-a-h c = omega (
  arith,
  indices-few c.args.g c.requires,
  c.loop-h-test.true,
)

pub loop-h-preserved : goal.loop-h-preserved
loop-h-preserved c =
    let g = c.args.g in
    let l = c.loop-h in
    let t = c.loop-h-test.true in
    let few = indices-few g c.requires in
    let r = c.others in (
      (λ k d. at_set
          (λ (x : ℕ). (x ≡ other_divisions (shape g) (block_of (shape g) k)) × (x ≤ 60000))
          l.a l.h r.result k (omega (arith, l.invariant.1))
          (λ e. rw e (r.ensures.0 ∙ ap (other_divisions (shape g)) c.block_of.ensures, r.ensures.1))
          (λ n. l.invariant.0 k (omega (arith, n)))),
      length-set l.a l.h r.result ∙ l.invariant.1,
    )

pub returns : goal.returns
returns c =
    let l = c.loop-h in
    let m = made-indices c.args.g c.requires in
    record {
      are = λ h d. (l.invariant.0 h (omega (arith, c.loop-h-test.false))).0;
      few = λ h d. (l.invariant.0 h (omega (arith, c.loop-h-test.false))).1;
    }
