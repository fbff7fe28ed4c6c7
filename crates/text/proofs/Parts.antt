-- Parts of the sheet that are written one behind the other. Assumes nothing.
use mathlib.Core.Path.{◌≡◌, refl, ap, ◌∙◌}
use mathlib.Core.List.{List, [], ◌∷◌, ◌++◌}
use Prim.Native.Nat.{ℕ, suc, ◌+◌, ◌≤◌}
use native.Mathlib.Omega.{arith}
use lib.ListN.{length, drop, set, length-append}
use lib.Seq.{sets, sets-eq}
use Rattle.combinatorics.specs.Front.{front}
use Rattle.text.specs.Part.{Part}

sets_behind : (xs ys old : List ℕ) (at next : ℕ) → next ≡ at + length xs
    → sets (sets old at xs) next ys ≡ sets old at (xs ++ ys)
sets_behind [] ys old at next e = let start : next ≡ at = omega arith in rw start
sets_behind (x ∷ xs) ys old at next e = sets_behind xs ys (set old at x) (suc at) next (omega arith)

pub part_empty : (old : List ℕ) (at : ℕ) → Part [] old old at at
part_empty old at = record { buffer = refl; behind = omega arith }

pub part_byte : (b : ℕ) (old : List ℕ) (at : ℕ) → Part (b ∷ []) old (set old at b) at (at + 1)
part_byte b old at = record { buffer = refl; behind = omega arith }

-- a part and the part behind it are one part
pub part_join : {xs ys old between new : List ℕ} {at next last : ℕ}
    → Part xs old between at next
    → Part ys between new next last
    → Part (xs ++ ys) old new at last
part_join {xs} {ys} {old} {at = at} p q =
    record {
      buffer = q.buffer ∙ rw p.buffer (sets_behind xs ys old at _ p.behind);
      behind = omega (arith, length-append xs ys, p.behind, q.behind);
    }

-- a part from the position 0 on stands at the front
pub part_front : {xs old new : List ℕ} {next : ℕ}
    → Part xs old new 0 next
    → next ≤ length old
    → (next ≡ length xs) × (new ≡ front xs old)
unfolding front
part_front {xs} {old} p room =
    let start : 0 + length xs ≡ length xs = omega arith in
    (p.behind ∙ start, p.buffer ∙ sets-eq xs old 0 (omega arith) ∙ ap (λ (k : ℕ). xs ++ drop k old) start)
