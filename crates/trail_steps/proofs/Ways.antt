-- What the bytes of a trail from a position on name, by the tests on them; a record's bytes. Assumes nothing.
use mathlib.Core.Bool.{false}
use mathlib.Core.List.{List}
use mathlib.Core.Path.{◌≡◌, sym, ap, ◌∙◌}
use Prim.Native.Nat.{ℕ, suc, ◌+◌, ◌-◌, ◌*◌, ◌/◌, ◌%◌, ◌≤◌, ◌<◌}
use borrow.Author.Tests.{eq-eqb, le-leb, lt-leb, ne_eqb}
use lib.Dec.{eqb}
use lib.ListN.{drop, get_or, length, length-drop}
use lib.Seq.{get_or-drop}
use native.Mathlib.Omega.{arith}
use Rattle.rules.specs.Moves.{State}
use Rattle.trail_steps.specs.Reading.{joining, leaving, way_of}
use Rattle.ways.specs.declared.Way.TheVariants.{Nothing}

module _ (m n : ℕ) (s : State) (trail : List ℕ) (at : ℕ) where
  abbrev bytes : List ℕ
  bytes = drop at trail

  long : length bytes ≡ length trail - at
  long = length-drop at trail

  pub nothing_left : length trail - at ≡ 0 → Nothing ≡ way_of m n s (drop at trail)
  unfolding way_of
  nothing_left e = rw (eq-eqb (length bytes) 0 (long ∙ e))

  module _ (some : length trail - at ≡ 0 → ⊥) (byte : ℕ) (is : byte ≡ get_or trail at 0) where
    same_byte : get_or bytes 0 0 ≡ byte
    same_byte = get_or-drop at trail 0 0 ∙ ap (λ (i : ℕ). get_or trail i 0) (omega arith) ∙ sym is

    other : eqb (length bytes) 0 ≡ false
    other = ne_eqb (length bytes) 0 (λ e. some (sym long ∙ e))

    module _ (out : byte / 2 % 2 ≡ 1) where
      abbrev from : ℕ
      from = 1 + 2 * (byte % 2)

      pub short-out : length trail - at < from + 2 → Nothing ≡ way_of m n s (drop at trail)
      unfolding way_of
      short-out l =
          rw (other, same_byte, eq-eqb (byte / 2 % 2) 1 out, lt-leb (from + 2) (length bytes) (omega (arith, long)))

      pub way_out : from + 2 ≤ length trail - at → (z : ℕ)
          → z ≡ get_or trail (at + from) 0 + 256 * get_or trail (suc (at + from)) 0
          → leaving s n z ≡ way_of m n s (drop at trail)
      unfolding way_of
      way_out l z e =
          let f : at + suc from ≡ suc (at + from) = omega arith in
          rw (
            other,
            same_byte,
            eq-eqb (byte / 2 % 2) 1 out,
            le-leb (from + 2) (length bytes) (omega (arith, long)),
            get_or-drop at trail from 0,
            get_or-drop at trail (suc from) 0,
            f,
            ← e,
          )

    module _ (into : byte / 2 % 2 ≡ 1 → ⊥) where
      pub short_into : length trail - at < 4 → Nothing ≡ way_of m n s (drop at trail)
      unfolding way_of
      short_into l = rw (other, same_byte, ne_eqb (byte / 2 % 2) 1 into, lt-leb 4 (length bytes) (omega (arith, long)))

      pub way_into : 4 ≤ length trail - at → (b : ℕ) → b ≡ get_or trail (at + 3) 0
          → joining s.T m b ≡ way_of m n s (drop at trail)
      unfolding way_of
      way_into l b e = rw (
        other,
        same_byte,
        ne_eqb (byte / 2 % 2) 1 into,
        le-leb 4 (length bytes) (omega (arith, long)),
        get_or-drop at trail 3 0,
        ← e,
      )
