-- Where the last number is positive, the next point has 1 of it moved to the number before it; so the points that
-- follow are known without going through them. Assumes nothing.
use mathlib.Core.Bool.{true}
use mathlib.Core.List.{List, [], ◌∷◌, ◌++◌, append_assoc, append-nil}
use mathlib.Core.Path.{◌≡◌, refl, sym, ap, ◌∙◌}
use Prim.Native.Nat.{ℕ, zero, suc, ◌+◌, ◌-◌, ◌≤◌, ◌<◌}
use borrow.Author.Tests.{leb-true}
use lib.Dec.{leb}
use lib.ListN.{length, get_or, take, drop, set, length-append, length-drop, take-append-drop}
use lib.Seq.{drop-append-le, drop-cons, drop-length, length-take-le, take-append-le, take-length}
use native.Mathlib.Omega.{arith}
use Rattle.combinatorics.proofs.Basics.{and_left, and_right}
use Rattle.combinatorics.specs.Lists.{all, sum}
use Rattle.grid_points.proofs.Accepted.{Accepted, accepted, size-two}
use Rattle.grid_points.proofs.Round.{block-fits}
use Rattle.grid_points.specs.Grid.{Grid, Point, num_indices, num_points, points}
use Rattle.points_in_order.proofs.Blocks.{point-length}
use Rattle.points_in_order.proofs.InOrder.{next-point, point_at}
use Rattle.points_in_order.proofs.PointAfter.{after-moves}
use Rattle.points_in_order.specs.Lent.{WithFirsts}
use Rattle.points_in_order.specs.PointAfter.{point_step, after, after_all}
use Rattle.points_in_order.specs.Shifted.{last_but_one, last_one, end_shifted}

-- in a block
after_tail : (xs : List ℕ) (a b : ℕ) → after (xs ++ (a ∷ suc b ∷ [])) ≡ point_step true (xs ++ (suc a ∷ b ∷ []))
after_tail [] a b = after-moves 0 a b
after_tail (x ∷ xs) a b = rw (after_tail xs a b)

-- in the last of several blocks
all_tail : (ss pre : List ℕ) (a b : ℕ) → 0 < length ss → all (λ s. leb 2 s) ss ≡ true → length pre + 2 ≡ sum ss
    → after_all ss (pre ++ (a ∷ suc b ∷ [])) ≡ point_step true (pre ++ (suc a ∷ b ∷ []))
all_tail [] pre a b some two e = absurd (omega arith)
all_tail (s ∷ []) pre a b some two e =
    let y = pre ++ (a ∷ suc b ∷ []) in
    let n : s ≡ length y = rw length-append (omega arith) in
    rw (n, take-length y, drop-length y, after_tail pre a b, append-nil (pre ++ (suc a ∷ b ∷ [])))
all_tail (s ∷ t ∷ ts) pre a b some two e =
    let twos = and_right (leb 2 s) (all (λ s. leb 2 s) (t ∷ ts)) two in
    let t2 : 2 ≤ t = leb-true 2 t (and_left (leb 2 t) (all (λ s. leb 2 s) ts) twos) in
    let fits : s ≤ length pre = omega arith in
    let long : length (drop s pre) + 2 ≡ sum (t ∷ ts) = rw length-drop (omega arith) in
    let later = all_tail (t ∷ ts) (drop s pre) a b (omega arith) twos long in
    rw (
      drop-append-le s pre (a ∷ suc b ∷ []) fits,
      take-append-le s pre (a ∷ suc b ∷ []) fits,
      later,
      ← append_assoc (take s pre) (drop s pre) (suc a ∷ b ∷ []),
      take-append-drop s pre,
    )

two_stores : (pre : List ℕ) (a b c d : ℕ)
    → set (set (pre ++ (a ∷ b ∷ [])) (length pre) c) (suc (length pre)) d ≡ pre ++ (c ∷ d ∷ [])
two_stores [] a b c d = refl
two_stores (x ∷ pre) a b c d = ap (λ (l : List ℕ). x ∷ l) (two_stores pre a b c d)

stores : (z pre : List ℕ) (a b c d i j : ℕ) → z ≡ pre ++ (a ∷ b ∷ []) → i ≡ length pre → j ≡ suc (length pre)
    → set (set z i c) j d ≡ pre ++ (c ∷ d ∷ [])
stores z pre a b c d i j e f h = rw (e, f, h) (two_stores pre a b c d)

-- a point by its last two numbers
module _ (y : Point) (long : 2 ≤ length y) where
  abbrev n : ℕ
  n = length y - 2

  by_last_two : take n y ++ (last_but_one y ∷ last_one y ∷ []) ≡ y
  by_last_two =
      let one : suc n ≡ length y - 1 = omega arith in
      let end : suc (length y - 1) ≡ length y = omega arith in
      let last : drop (suc n) y ≡ last_one y ∷ [] = drop-cons y (suc n) 0 (omega arith) ∙ rw (one, end, drop-length y) in
      let tail : drop n y ≡ last_but_one y ∷ last_one y ∷ [] = drop-cons y n 0 (omega arith) ∙ rw last in
      rw (← tail) (take-append-drop n y)

  pub shifted_none : end_shifted y 0 ≡ y
  shifted_none =
      let z : last_but_one y + 0 ≡ last_but_one y = omega arith in
      let m : last_one y - 0 ≡ last_one y = omega arith in
      rw (z, m) by_last_two

  pub shifted_stores : (by : ℕ) → set (set y n (last_but_one y + by)) (length y - 1) (last_one y - by) ≡ end_shifted y by
  shifted_stores by =
      let front : length (take n y) ≡ n = length-take-le n y (omega arith) in
      stores y (take n y) (last_but_one y) (last_one y) (last_but_one y + by) (last_one y - by) n (length y - 1)
      (sym by_last_two) (sym front) (omega arith)

-- the points behind the k-th, as far as its last number goes
module _ (g : Grid) (firsts : List ℕ) (l : WithFirsts g firsts) (k : ℕ) (y : Point)
    (here : y ≡ get_or (points g) k []) where
  is-accepted : Accepted g
  is-accepted = accepted g l.accepted

  pub two-numbers : k < num_points g → 2 ≤ length y
  two-numbers h =
      let on = point_at g firsts l k h y here in
      let two = (size-two g is-accepted 0 is-accepted.some_block).0 in
      omega (arith, point-length g is-accepted y on.is_point, block-fits g.sizes 0)

  pub shifted-points : (i : ℕ) → k + i < num_points g → i ≤ last_one y → get_or (points g) (k + i) [] ≡ end_shifted y i
  shifted-points zero h b =
      let z : k + 0 ≡ k = omega arith in
      rw (z, ← here) (sym (shifted_none y (two-numbers (omega arith))))
  shifted-points (suc i) h b =
      let two = two-numbers (omega arith) in
      let on = point_at g firsts l k (omega arith) y here in
      let e : k + suc i ≡ k + i + 1 = omega arith in
      let pre = take (length y - 2) y in
      let long : length pre + 2 ≡ num_indices g =
      omega (arith, length-take-le (length y - 2) y (omega arith), point-length g is-accepted y on.is_point) in
      let A = is-accepted in
      let moved = all_tail g.sizes pre (last_but_one y + i) (last_one y - suc i) A.some_block A.sizes_two long in
      let last : last_one y - i ≡ suc (last_one y - suc i) = omega arith in
      let more : suc (last_but_one y + i) ≡ last_but_one y + suc i = omega arith in
      let before = shifted-points i (omega arith) (omega arith) in
      let next = next-point g firsts l (k + i) (omega arith) (end_shifted y i) (sym before) in
      rw (e, ← next, last, moved, more)
