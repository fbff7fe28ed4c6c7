-- Laws of the vertices in the answer buffer, and of what is done with one vertex or one index more. Assumes nothing.
use mathlib.Core.Path.{◌≡◌, sym, ◌∙◌}
use mathlib.Core.List.{List, [], ◌∷◌, ◌++◌, flat_map, map-append, append-nil, append_assoc}
use Prim.Native.Nat.{ℕ, suc, ◌+◌, ◌-◌, ◌*◌, ◌≤◌, ◌<◌}
use native.Mathlib.Omega.{arith}
use native.Mathlib.Nat.{zero-add}
use lib.ListN.{length, take, drop, get_or, length-map, length-take, length-drop}
use lib.Seq.{take_all, get_or-take, get_or-drop}
use Rattle.sheet_lines.specs.Answer.{rows}
use Rattle.text.specs.Decimal.{decimal}
use Rattle.combinatorics.specs.Lists.{up_from}
use Rattle.combinatorics.proofs.Ranges.{length-up_from}
use Rattle.combinatorics.proofs.Turns.{sum-append, up_from-next}
use Rattle.text.specs.Line.{spaced, newline}
use Rattle.sheet_lines.specs.Sheet.{vertex_line, total}

pub row-length : (start m : ℕ) (buffer : List ℕ) → start + m ≤ length buffer → length (take m (drop start buffer)) ≡ m
row-length start m buffer h = simp (length-take, length-drop) (omega arith)

pub length-rows : (count m : ℕ) (buffer : List ℕ) → length (rows count m buffer) ≡ count
length-rows count m buffer = length-map (up_from 0 count) _ ∙ length-up_from 0 count

pub rows_more : (k m : ℕ) (buffer : List ℕ)
    → rows (k + 1) m buffer ≡ rows k m buffer ++ (take m (drop (k * m) buffer) ∷ [])
rows_more k m buffer = rw (up_from-next 0 k, zero-add k, map-append)

pub flat_map_more : {A : Type 0} (f : A → List ℕ) (xs : List A) (x : A)
    → flat_map f (xs ++ (x ∷ [])) ≡ flat_map f xs ++ f x
unfolding flat_map
flat_map_more f [] x = append-nil (f x)
flat_map_more f (y ∷ xs) x = rw (flat_map_more f xs x) (sym (append_assoc (f y) (flat_map f xs) (f x)))

pub total_more : (k m h : ℕ) (buffer : List ℕ)
    → h < m
    → total (rows (k + 1) m buffer) h ≡ total (rows k m buffer) h + get_or buffer (k * m + h) 0
total_more k m h buffer l =
    rw (rows_more k m buffer, map-append, sum-append, get_or-take m (drop (k * m) buffer) h 0 l, get_or-drop) (omega arith)

-- the line of a vertex, by its first number and the part of the row behind it
pub vertex-parts : (row : List ℕ)
    → 1 ≤ length row
    → vertex_line row ≡ decimal (get_or row 0 0) ++ flat_map spaced (take (length row - 1) (drop 1 row)) ++ newline
unfolding vertex_line
vertex-parts [] h = absurd (omega arith)
vertex-parts (x ∷ xs) h = rw (take_all (suc (length xs) - 1) xs (omega arith))
