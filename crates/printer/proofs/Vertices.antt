-- The vertices that a run has written are the rows of its buffer. Assumes nothing.
use mathlib.Core.Bool.{true}
use mathlib.Core.List.{List, [], ◌∷◌, ◌++◌, map, append_assoc}
use mathlib.Core.Path.{◌≡◌, refl, ap, ◌∙◌}
use Prim.Native.Nat.{ℕ, zero, suc, ◌+◌, ◌*◌}
use borrow.Author.Tests.{eqb-true}
use lib.Dec.{eqb}
use lib.ListN.{length, length-append, take, drop}
use lib.Seq.{take-append_seam, drop-append-add}
use native.Mathlib.Omega.{arith}
use Rattle.combinatorics.proofs.Basics.{and_left, and_right}
use Rattle.combinatorics.specs.Lists.{all, concat_map, up_from}
use Rattle.sheet_lines.specs.Answer.{rows}

-- the first row, and those behind it
rows_behind : (b k m : ℕ) (y rest : List ℕ) → length y ≡ m
    → map (λ i. take m (drop (i * m) (y ++ rest))) (up_from (suc b) k)
    ≡ map (λ i. take m (drop (i * m) rest)) (up_from b k)
rows_behind b zero m y rest e = refl
rows_behind b (suc k) m y rest e =
    let n : suc b * m ≡ length y + b * m = omega (arith, e) in
    rw (n, drop-append-add y rest (b * m))
    (ap (λ (l : List (List ℕ)). take m (drop (b * m) rest) ∷ l) (rows_behind (suc b) k m y rest e))

rows-first : (k m : ℕ) (y rest : List ℕ) → length y ≡ m → rows (suc k) m (y ++ rest) ≡ y ∷ rows k m rest
rows-first k m y rest e =
    let z : 0 * m ≡ 0 = omega arith in
    let first : take m (y ++ rest) ≡ y = rw (← e) (take-append_seam y rest) in
    rw (z, first, rows_behind 0 k m y rest e)

-- a list of rows of m numbers each, one behind the other
pub rows_of : (m : ℕ) (ys : List (List ℕ)) (rest : List ℕ) → all (λ y. eqb (length y) m) ys ≡ true
    → rows (length ys) m (concat_map (λ y. y) ys ++ rest) ≡ ys
rows_of m [] rest a = refl
rows_of m (y ∷ ys) rest a =
    let e = eqb-true (length y) m (and_left (eqb (length y) m) _ a) in
    ap (λ (l : List ℕ). rows (suc (length ys)) m l) (append_assoc y (concat_map (λ y. y) ys) rest)
    ∙ rows-first (length ys) m y (concat_map (λ y. y) ys ++ rest) e
    ∙ ap (λ (l : List (List ℕ)). y ∷ l) (rows_of m ys rest (and_right (eqb (length y) m) _ a))

pub rows-length : (m : ℕ) (ys : List (List ℕ)) → all (λ y. eqb (length y) m) ys ≡ true
    → length (concat_map (λ y. y) ys) ≡ length ys * m
rows-length m [] a = omega arith
rows-length m (y ∷ ys) a =
    let e = eqb-true (length y) m (and_left (eqb (length y) m) _ a) in
    rw (length-append y (concat_map (λ y. y) ys)) (omega (arith, e, rows-length m ys (and_right (eqb (length y) m) _ a)))
