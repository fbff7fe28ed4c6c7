-- The label of a point, outside T, joins T: the place is an end, or the state that `grow` makes describes the larger
-- place. Assumes nothing.
use mathlib.Core.Bool.{Bool, true, false, not}
use mathlib.Core.List.{List}
use mathlib.Core.Logic.{◌⊎◌, inl, inr, ⊎_elim}
use mathlib.Core.Path.{◌≡◌, refl, sym, ap, ◌∙◌}
use Prim.Native.Nat.{ℕ, suc, ◌-◌, ◌≤◌, ◌<◌}
use borrow.Author.Tests.{eq-eqb, ne_eqb, not-true, not-false}
use lib.ListN.{length}
use native.Mathlib.Omega.{arith}
use Rattle.combinatorics.proofs.Basics.{true_or_false, absurd_bool, same_or, before_or_not}
use Rattle.combinatorics.proofs.EditsInsert.{length-insert_at, insert_at-before, insert_at-here, insert_at-behind}
use Rattle.combinatorics.proofs.EditsInsert.{found_none}
use Rattle.combinatorics.proofs.EditsRemove.{Found, found-is}
use Rattle.combinatorics.specs.Edits.{insert_at, found}
use Rattle.geometry.proofs.Bridge.{zeros-yes, zeros-out}
use Rattle.geometry.proofs.Definitions.{Blocks, back, coord, Chain, Free, Less, Extra, plus, insert, raise, tight_of}
use Rattle.geometry.proofs.Definitions.{zeros}
use Rattle.geometry.proofs.Grow.{plus_is, insert-is, insert-here, zero-stays, grow-at, grow as larger}
use Rattle.geometry.proofs.Joins.{room, room_in_U, rises_with, stays_with}
use Rattle.geometry.proofs.LabelledChains.{list_at, tabulate, PlaceEnd}
use Rattle.geometry.proofs.Moves.{rises_here, never_rises}
use Rattle.geometry.proofs.Onward.{Enlarged, up_link, list_at_tabulate}
use Rattle.grid_points.specs.Grid.{at, num_indices}
use Rattle.place.specs.Problem.{Problem}
use Rattle.path_laws.proofs.BlocksOfGrid.{blocks_of}
use Rattle.path_laws.proofs.ToChain.{label_of}
use Rattle.path_laws.proofs.Filled.{FullyLabelled}
use Rattle.rules.specs.Mask.{bit, with_index, without_index}
use Rattle.rules.specs.Ready.{IsRound, ReadyGrow}
use Rattle.rules.specs.Moves.{State, goes, ends_at_place, first_outside, is_filled, joined, grow}
use Rattle.rules.proofs.Describes.{Describes, mark_at, AllMarks, labels_of, through, Joined, place_ends}
use Rattle.rules.proofs.Describes.{joined_on, Grows}
use Rattle.rules.proofs.Masks.{bit_with, bit_without}
use Rattle.rules.proofs.Range.{few, label-below}
use Rattle.rules.proofs.WaysRound.{FirstAt, forward-outside, filled-yes, filled-no}

-- the place that comes where g goes before the first index ahead of it that is not in U
abbrev place : State → ℕ → ℕ
place s h = found (first_outside s.round.next s.round.sizes s.U h) 16 s.order

module _ (s : State) (h : ℕ) where
  grow_in_U : bit s.U h ≡ true → grow s h ≡ goes (joined s (place s h) h 5)
  unfolding grow
  grow_in_U e = rw e

  grow-outside : bit s.U h ≡ false → is_filled s.round s.T s.U h ≡ false
      → grow s h ≡ goes (joined s (length s.order) h 4)
  unfolding grow
  grow-outside e f = rw (e, f)

  grow-ends : bit s.U h ≡ false → is_filled s.round s.T s.U h ≡ true → grow s h ≡ ends_at_place s h
  unfolding grow
  grow-ends e f = rw (e, f)

-- T with g, and the zeros outside it, as masks
module _ (R : Blocks) (T : ℕ → Bool) (g : ℕ) (l : g < 16) (mask : ℕ) (k : ℕ) (m : k < 16) where
  with_plus : bit mask k ≡ T k → bit (with_index mask g) k ≡ plus T g k
  unfolding plus
  with_plus e =
      ⊎_elim (λ (q : k ≡ g). rw (eq-eqb k g q) (rw (eq-eqb k g q) at (bit_with mask g k l m)))
      (λ n. rw (ne_eqb k g n) (rw (ne_eqb k g n) at (bit_with mask g k l m) ∙ e)) (same_or k g)

  zeros_plus : (c : ℕ → ℕ) → bit mask k ≡ zeros R T c k → bit (without_index mask g) k ≡ zeros R (plus T g) c k
  unfolding zeros plus
  zeros_plus c e =
      ⊎_elim (λ (q : k ≡ g). rw (eq-eqb k g q) (rw (eq-eqb k g q) at (bit_without mask g k l m)))
      (λ n. rw (ne_eqb k g n) (rw (ne_eqb k g n) at (bit_without mask g k l m) ∙ e)) (same_or k g)

module _ {p : Problem} (ok : FullyLabelled p) {T : ℕ → Bool} {t : ℕ} {o : ℕ → ℕ} {x : List (ℕ → ℕ)} {s : State}
    (D : Describes p T t o x s) (L : AllMarks p t x s) {i : ℕ} (E : Extra T t (labels_of p x) i) where
  abbrev g : ℕ
  g = labels_of p x i

  abbrev T+ : ℕ → Bool
  T+ = plus T g

  plus_g : Less T+ T g
  plus_g = plus_is T g E.out

  joining-below : g < num_indices p.grid
  joining-below = label-below ok D.chain i E.first

  -- its coefficient rises after point a
  module _ (free : Free (blocks_of p) T+ (list_at x 0)) (a : ℕ) (le : a ≤ t)
      (below : (j : ℕ) → j ≤ a → list_at x j g ≡ list_at x 0 g)
      (above : (j : ℕ) → a < j → j ≤ t → list_at x j g ≡ suc (list_at x 0 g)) where
    points : ℕ → ℕ → ℕ
    points = insert (suc a) (tight_of (blocks_of p) T+ (raise g (list_at x a))) (list_at x)

    y : List (ℕ → ℕ)
    y = tabulate (suc (suc t)) points

    enlarged : Enlarged (blocks_of p) (label_of p) T t x T+ (insert a g o) y (suc a)
    unfolding y points
    enlarged = up_link D.chain E (grow-at plus_g D.chain.chain free a le below above)

    point-before : (j : ℕ) → j ≤ a → list_at y j ≡ list_at x j
    unfolding y points
    point-before j m =
        list_at_tabulate (suc (suc t)) points j (omega arith)
        ∙ sym ((insert-is (suc t) (suc a) _ (list_at x)).lower j (omega arith) (omega arith))

    point-behind : (j : ℕ) → a < j → j ≤ t → list_at y (suc j) ≡ list_at x j
    unfolding y points
    point-behind j m l =
        list_at_tabulate (suc (suc t)) points (suc j) (omega arith)
        ∙ sym ((insert-is (suc t) (suc a) _ (list_at x)).upper j (omega arith) (omega arith))

    order-at : (j : ℕ) → j < suc t → at (insert_at a g s.order) j ≡ insert a g o j
    order-at j m =
        let f : a ≤ length s.order = omega (arith, D.order_length) in
        ⊎_elim
        (λ (q : j < a).
        insert_at-before 0 a g s.order j f q ∙ D.order_at j (omega arith) ∙ (insert-is t a g o).lower j (omega arith) q)
        (λ (q : a ≤ j). ⊎_elim
        (λ (e : j ≡ a). rw e (insert_at-here 0 a g s.order f ∙ sym (insert-here a g o)))
        (λ (n : j ≡ a → ⊥).
        let w : suc (j - 1) ≡ j = omega (arith, n) in
        let v : a ≤ j - 1 = omega (arith, n) in
        rw (← w)
        (insert_at-behind 0 a g s.order (j - 1) f v
        ∙ D.order_at (j - 1) (omega arith)
        ∙ (insert-is t a g o).upper (j - 1) (omega arith) v))
        (same_or j a))
        (before_or_not j a)

    marks-at : (j : ℕ) → j ≤ suc t → (j ≡ suc a → ⊥) → at (insert_at (suc a) 0 s.marks) j ≡ mark_at p (list_at y j)
    marks-at j m n =
        let f : suc a ≤ length s.marks = omega (arith, D.marks_length) in
        ⊎_elim (λ (q : j < suc a). insert_at-before 0 (suc a) 0 s.marks j f q ∙ L j (omega arith)
        ∙ ap (mark_at p) (sym (point-before j (omega arith))))
        (λ (q : suc a ≤ j). let w : suc (j - 1) ≡ j = omega arith in let v : suc a ≤ j - 1 = omega (arith, n) in
        rw (← w) (insert_at-behind 0 (suc a) 0 s.marks (j - 1) f v ∙ L (j - 1) (omega arith)
        ∙ ap (mark_at p) (sym (point-behind (j - 1) v (omega arith)))))
        (before_or_not j (suc a))

    describes : (rule : ℕ) → Describes p T+ (suc t) (insert a g o) y (joined s a g rule)
    describes rule = record {
      chain = enlarged.place;
      round = D.round;
      order_length = length-insert_at a g s.order ∙ ap suc D.order_length;
      order_at = order-at;
      first_length = D.first_length;
      first_at = λ k m. D.first_at k m ∙ ap (λ (c : ℕ → ℕ). coord (blocks_of p) c k) (sym (point-before 0 (omega arith)));
      coefficients_length = D.coefficients_length;
      coefficients_at = λ k m. D.coefficients_at k m ∙ ap (λ (c : ℕ → ℕ). c k) (sym (point-before 0 (omega arith)));
      in_t = λ k m.
          with_plus (blocks_of p) T g (omega (arith, joining-below, ok.has_start.sixteen_indices)) s.T k m (D.in_t k m);
      in_u = λ k m. rw (point-before 0 (omega arith))
          (zeros_plus (blocks_of p) T g (omega (arith, joining-below, ok.has_start.sixteen_indices)) s.U k m (list_at x 0)
          (D.in_u k m));
      marks_length = length-insert_at (suc a) 0 s.marks ∙ ap suc D.marks_length;
    }

    joins : (rule : ℕ) → 1 < rule → rule < 6 → Joined p T t x s (goes (joined s a g rule))
    joins rule b c = joined_on y enlarged.above (record {
      T = T+;
      t = suc t;
      o = insert a g o;
      describes = describes rule;
      came = through t x refl (omega arith) (omega arith) c marks-at enlarged.carries enlarged.back
          (λ q _ _. absurd (omega arith));
      link = enlarged.link;
    })

  abbrev N : IsRound p.grid s.round
  N = D.round

  in_U : bit s.U g ≡ zeros (blocks_of p) T (list_at x 0) g
  in_U = D.in_u g (omega (arith, joining-below, ok.has_start.sixteen_indices))

  room_of : (bit s.U g ≡ true) ⊎ (is_filled s.round s.T s.U g ≡ false) → Free (blocks_of p) T+ (list_at x 0)
  room_of (inl u) = room_in_U D.chain.chain g E.out (sym in_U ∙ u)
  room_of (inr f) =
      let w = filled-no ok N s.T s.U D.in_t D.in_u g joining-below f in
      room D.chain.chain g E.out w.0 w.1 w.2 w.3 w.4

  pub grow-ready : ReadyGrow s g
  grow-ready = record {
    low = omega (arith, joining-below, ok.has_start.sixteen_indices);
    few = omega (arith, D.order_length, few ok D.chain, ok.has_start.sixteen_indices);
    room = λ r. let G = larger plus_g D.chain.chain (room_of r) in
        omega (arith, D.order_length, few ok (up_link D.chain E G.3).place, ok.has_start.sixteen_indices);
  }

  -- g's block is full: each of its indices is a label or has coordinate 0
  complete : is_filled s.round s.T s.U g ≡ true → PlaceEnd (blocks_of p) (label_of p) t x g
  complete f k b =
      ⊎_elim (λ (e : k ≡ g). inl (i, E.first, sym e))
      (λ n. ⊎_elim (λ e. inl (D.chain.covers k e))
      (λ e. let u = filled-yes ok N s.T s.U D.in_t D.in_u g joining-below f k b n e in
      inr (zero-stays D.chain.chain k e (zeros-yes D.chain.chain k u).1)) (true_or_false (T k))) (same_or k g)

  -- g is in U: it goes before the first index forward from it that is not in U, if that is in T, and behind the
  -- last otherwise
  joins_in_U : bit s.U g ≡ true → Joined p T t x s (goes (joined s (place s g) g 5))
  joins_in_U u = ⊎_elim in_t not_t (true_or_false (T b))
    where
      K : Chain (blocks_of p) T t (list_at x) o
      K = D.chain.chain

      z : zeros (blocks_of p) T (list_at x 0) g ≡ true
      z = sym in_U ∙ u

      out : (n : ℕ) × (n ≤ 16) × FirstAt (blocks_of p).next (λ k. not (zeros (blocks_of p) T (list_at x 0) k)) g n
          × (first_outside s.round.next s.round.sizes s.U g ≡ back (blocks_of p).next n g)
      out = let f = K.free g in forward-outside ok N s.U D.in_u g f.0 joining-below f.1 (zeros-out K f.0 f.2 f.3)

      b : ℕ
      b = back (blocks_of p).next out.0 g

      skipped : (j : ℕ) → 0 < j → j < out.0 → zeros (blocks_of p) T (list_at x 0) (back (blocks_of p).next j g) ≡ true
      skipped j a c = not-false _ (out.2.skipped j a c)

      in_t : T b ≡ true → Joined p T t x s (goes (joined s (place s g) g 5))
      in_t e =
          let w = K.order.all b e in
          let f : ℕ = found (first_outside s.round.next s.round.sizes s.U g) 16 s.order in
          let F : Found (first_outside s.round.next s.round.sizes s.U g) 16 s.order f = found-is _ 16 s.order w.0
          (omega (arith, w.1, D.order_length)) (D.order_at w.0 w.1 ∙ w.2 ∙ sym out.3)
          (λ q. omega (arith, w.1, few ok D.chain, ok.has_start.sixteen_indices)) in
          let l : f < t = omega (arith, F.inside, D.order_length) in
          let r = rises_here K g f l
          (rises_with K g E.out z out.0 skipped out.2.some f l (sym (D.order_at f l) ∙ F.is ∙ out.3)) in
          joins (room_of (inl u)) f (omega arith) r.0 r.1 5 (omega arith) (omega arith)

      not_t : T b ≡ false → Joined p T t x s (goes (joined s (place s g) g 5))
      not_t e =
          let q : found (first_outside s.round.next s.round.sizes s.U g) 16 s.order ≡ t =
          found_none _ 16 s.order (λ j l m.
          let jl : j < t = omega (arith, D.order_length) in
          absurd_bool (sym (K.order.within j jl) ∙ ap T (sym (D.order_at j jl) ∙ m ∙ out.3) ∙ e))
          ∙ D.order_length in
          rw q
          (joins (room_of (inl u)) t (omega arith) (stays_with K g E.out z out.0 skipped e (not-true _ out.2.stops))
          (λ j a c. absurd (omega arith)) 5 (omega arith) (omega arith))

  -- it is not: behind the last
  joins-last : bit s.U g ≡ false → is_filled s.round s.T s.U g ≡ false
      → Joined p T t x s (goes (joined s (length s.order) g 4))
  joins-last u f =
      rw D.order_length
      (joins (room_of (inr f)) t (omega arith) (never_rises D.chain.chain g E.out (sym in_U ∙ u))
      (λ j a c. absurd (omega arith)) 4
      (omega arith) (omega arith))

pub grows : {p : Problem} → FullyLabelled p → Grows p
grows {p} ok T t o x s i D L E = ⊎_elim
    (λ u. rw (grow_in_U s _ u) (joins_in_U ok D L E u))
    (λ u. ⊎_elim
    (λ f. rw (grow-ends s _ u f) (place_ends _ (complete ok D L E f)))
    (λ f. rw (grow-outside s _ u f) (joins-last ok D L E u f))
    (true_or_false (is_filled s.round s.T s.U (labels_of p x i))))
    (true_or_false (bit s.U (labels_of p x i)))
