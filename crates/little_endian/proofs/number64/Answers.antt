-- `little_endian::number64` meets its contract. Assumes nothing.
use mathlib.Core.List.{List}
use mathlib.Core.Path.{◌≡◌, ◌∙◌}
use Prim.Native.Nat.{ℕ, ◌+◌, ◌-◌}
use mir.Syntax.{w64}
use native.Mathlib.Omega.{arith}
use Rattle.std.specs.Int.{from_le_bytes}
use Rattle.little_endian.proofs.Laws.{number_part}
use Rattle.little_endian.specs.Numbers.{number}
use Rattle.little_endian.proofs.number64.Goals as goal

-- what the library makes of eight bytes
made : (xs : List ℕ) → from_le_bytes w64 xs ≡ number 8 xs 0
unfolding number
made xs = omega arith

pub returns : goal.returns
returns c =
    let a = c.args in
    let n : a.at + 8 - a.at ≡ 8 = omega arith in
    let z : a.at + 0 ≡ a.at = omega arith in
    let part = number_part 8 8 a.bytes.now a.at 0 (omega arith) in
    c.from_le_bytes.ensures ∙ made c.copy_from_slice.new.self ∙ rw (c.copy_from_slice.ensures.after, n) (rw z at part)
