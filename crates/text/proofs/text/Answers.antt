-- `text` meets its contract: the bytes are one part. Assumes nothing.
use mathlib.Core.Path.{◌≡◌, refl, sym, ◌∙◌}
use mathlib.Core.List.{append_assoc}
use Prim.Native.Nat.{◌+◌, ◌-◌}
use native.Mathlib.Omega.{arith}
use lib.ListN.{length, take, drop}
use lib.Seq.{drop-drop, sets-eq}
use Rattle.text.proofs.text.Goals as goal

pub returns : goal.returns
returns c =
    let a = c.args in
    let n : a.at + length a.bytes.now - a.at ≡ length a.bytes.now = omega arith in
    record {
      buffer = rw (c.copy_from_slice.ensures.after, n, drop-drop (length a.bytes.now) a.at a.out.now)
          (sym (sets-eq a.bytes.now a.out.now a.at c.requires ∙ append_assoc (take a.at a.out.now) a.bytes.now (drop (a.at + length a.bytes.now) a.out.now)));
      behind = refl;
    }
