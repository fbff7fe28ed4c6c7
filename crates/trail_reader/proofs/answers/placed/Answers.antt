-- `answers::placed` meets its contract. Assumes nothing.
use native.Mathlib.Omega.{arith}
use Rattle.trail_reader.proofs.Rebuilt.{minus_none}
use Rattle.trail_reader.proofs.answers.placed.Goals as goal

pub returns : goal.returns
returns c =
    let t = c.mask.ensures in
    let u = c.mask-2.ensures in
    record {
      answer = rw (c.put_points-count.ensures.value, c.mask.ensures.0, c.mask-2.ensures.0, minus_none);
      low_t = omega (arith, c.mask.ensures.0, c.mask.ensures.1);
      low_u = omega (arith, c.mask-2.ensures.0, c.mask-2.ensures.1);
      points = c.put_points-count.ensures.buf_after;
    }
