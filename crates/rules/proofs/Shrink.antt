-- Point e + 1 leaves, and index e of the order goes with it: the state that `shrink` makes describes the facet, a place
-- over T less that index, and the point that carries the index as its label leaves next. Assumes nothing.
use mathlib.Core.Bool.{Bool, true, false, cond}
use mathlib.Core.List.{List, map}
use mathlib.Core.Logic.{⊎_elim}
use mathlib.Core.Option.{some}
use mathlib.Core.Path.{◌≡◌, refl, sym, ap, ◌∙◌}
use Prim.Native.Nat.{ℕ, suc, ◌≤◌, ◌<◌}
use borrow.Author.Tests.{eq-eqb, ne_eqb}
use lib.Dec.{eqb}
use lib.ListN.{length, length-map}
use native.Mathlib.Omega.{arith}
use Rattle.combinatorics.proofs.Basics.{same_or, before_or_not}
use Rattle.combinatorics.proofs.EditsRemove.{length-remove_at, remove_at-before, remove_at-behind, Found, found-is}
use Rattle.combinatorics.specs.Edits.{remove_at, found}
use Rattle.geometry.proofs.Definitions.{Blocks, coord, zeros, Carries, Dropped, Less, omit}
use Rattle.geometry.proofs.LabelledChains.{list_at, tabulate}
use Rattle.geometry.proofs.Onward.{Beneath, drop-link, list_at_tabulate}
use Rattle.geometry.proofs.Ways.{omit_is}
use Rattle.grid_points.specs.Grid.{at}
use Rattle.place.specs.Problem.{Problem}
use Rattle.path_laws.proofs.BlocksOfGrid.{blocks_of}
use Rattle.path_laws.proofs.ToChain.{label_of}
use Rattle.path_laws.proofs.Filled.{FullyLabelled}
use Rattle.rules.specs.Mask.{bit, with_index, without_index}
use Rattle.rules.specs.Moves.{State, mark_label, shrink}
use Rattle.rules.proofs.Describes.{Describes, mark_at, AllMarks, labels_of, Came, from_larger, GoesOn}
use Rattle.rules.proofs.Masks.{bit_with, bit_without}
use Rattle.rules.proofs.Marks.{labels_in, mark-label}
use Rattle.rules.proofs.Range.{index_below, few}

-- T less b, and the zeros outside it, as masks
module _ (R : Blocks) {T T' : ℕ → Bool} {b : ℕ} (small : Less T T' b) (l : b < 16) (mask : ℕ) (k : ℕ) (m : k < 16) where
  without_less : bit mask k ≡ T k → bit (without_index mask b) k ≡ T' k
  without_less e =
      ⊎_elim (λ (q : k ≡ b). rw (eq-eqb k b q) at (bit_without mask b k l m) ∙ sym (ap T' q ∙ small.out))
      (λ n. rw (ne_eqb k b n) at (bit_without mask b k l m) ∙ e ∙ sym (small.rest k n)) (same_or k b)

  zeros_less : (c : ℕ → ℕ) (into_u : Bool) → eqb (coord R c b) 0 ≡ into_u → bit mask k ≡ zeros R T c k
      → bit (cond into_u (with_index mask b) mask) k ≡ zeros R T' c k
  unfolding zeros
  zeros_less c into_u i e =
      ⊎_elim (λ (q : k ≡ b). here into_u q (e ∙ rw (q, small.has) refl) ∙ sym (rw (q, small.out) i))
      (λ q. else into_u q ∙ e ∙ rw (small.rest k q) refl)
      (same_or k b)
    where
      here : (into : Bool) → k ≡ b → bit mask k ≡ false → bit (cond into (with_index mask b) mask) k ≡ into
      here true q z = rw (eq-eqb k b q) at (bit_with mask b k l m)
      here false q z = z

      else : (into : Bool) → (k ≡ b → ⊥) → bit (cond into (with_index mask b) mask) k ≡ bit mask k
      else true q = rw (ne_eqb k b q) at (bit_with mask b k l m)
      else false q = refl

module _ {p : Problem} (ok : FullyLabelled p) {T : ℕ → Bool} {n : ℕ} {o : ℕ → ℕ} {x : List (ℕ → ℕ)} {s : State}
    (D : Describes p T (suc n) o x s) (L : AllMarks p (suc n) x s) {e : ℕ} (l : e ≤ n)
    (c : Carries T (suc n) (labels_of p x) (suc e)) {T' : ℕ → Bool}
    (F : Dropped (blocks_of p) T n (list_at x) (suc e) (o e) T' (omit e o)) (into_u : Bool)
    (into : eqb (coord (blocks_of p) (list_at x 0) (o e)) 0 ≡ into_u) where
  leaving-below : o e < 16
  leaving-below = omega (
    arith,
    index_below ok D.chain (o e) (D.chain.chain.order.within e (omega arith)),
    ok.has_start.sixteen_indices,
  )

  y : List (ℕ → ℕ)
  y = tabulate (suc n) F.facet

  beneath : Beneath (blocks_of p) (label_of p) T n x (suc e) T' (omit e o) y
  unfolding y
  beneath = drop-link D.chain (suc e) (omega arith) c F

  index : at s.order e ≡ o e
  index = D.order_at e (omega arith)

  points : (j : ℕ) → j < suc n → list_at y j ≡ F.facet j
  unfolding y
  points j m = list_at_tabulate (suc n) F.facet j m

  first : list_at y 0 ≡ list_at x 0
  first = points 0 (omega arith) ∙ F.omits_here.lower 0 (omega arith) (omega arith)

  order-at : (j : ℕ) → j < n → at (remove_at e s.order) j ≡ omit e o j
  order-at j m = ⊎_elim
      (λ (q : j < e). remove_at-before 0 e s.order j q ∙ D.order_at j (omega arith) ∙ sym ((omit_is n e o).lower j m q))
      (λ (q : e ≤ j).
      remove_at-behind 0 e s.order j q ∙ D.order_at (suc j) (omega arith) ∙ sym ((omit_is n e o).upper j m q))
      (before_or_not j e)

  marks-at : (j : ℕ) → j ≤ n → at (remove_at (suc e) s.marks) j ≡ mark_at p (list_at y j)
  marks-at j m =
      ⊎_elim
      (λ (q : j < suc e). remove_at-before 0 (suc e) s.marks j q ∙ L j (omega arith)
      ∙ ap (mark_at p) (sym (points j (omega arith) ∙ F.omits_here.lower j (omega arith) q)))
      (λ (q : suc e ≤ j). remove_at-behind 0 (suc e) s.marks j q ∙ L (suc j) (omega arith)
      ∙ ap (mark_at p) (sym (points j (omega arith) ∙ F.omits_here.upper j (omega arith) q)))
      (before_or_not j (suc e))

  marks-long : length (remove_at (suc e) s.marks) ≡ suc n
  marks-long = omega (arith, length-remove_at (suc e) s.marks (omega (arith, D.marks_length)), D.marks_length)

  describes : Describes p T' n (omit e o) y (shrink s (suc e) e into_u)
  unfolding shrink
  describes = record {
    chain = beneath.place;
    round = D.round;
    order_length = omega (arith, length-remove_at e s.order (omega (arith, D.order_length)), D.order_length);
    order_at = order-at;
    first_length = D.first_length;
    first_at = λ k m. D.first_at k m ∙ ap (λ (z : ℕ → ℕ). coord (blocks_of p) z k) (sym first);
    coefficients_length = D.coefficients_length;
    coefficients_at = λ k m. D.coefficients_at k m ∙ ap (λ (z : ℕ → ℕ). z k) (sym first);
    in_t = λ k m. rw index (without_less (blocks_of p) F.small leaving-below s.T k m (D.in_t k m));
    in_u = λ k m.
        rw (index, first) (zeros_less (blocks_of p) F.small leaving-below s.U k m (list_at x 0) into_u into (D.in_u k m));
    marks_length = marks-long;
  }

  -- the point that carries o e is found
  labels : List ℕ
  labels = map mark_label (remove_at (suc e) s.marks)

  labels-long : length labels ≡ suc n
  unfolding labels
  labels-long = length-map (remove_at (suc e) s.marks) mark_label ∙ marks-long

  label-at : (j : ℕ) → j ≤ n → at labels j ≡ suc (labels_of p y j)
  unfolding labels
  label-at j m = labels_in (remove_at (suc e) s.marks) j (omega (arith, marks-long))
      ∙ ap mark_label (marks-at j m)
      ∙ mark-label ok beneath.place j m

  lost : Found (suc (o e)) 16 labels (found (suc (o e)) 16 labels)
  lost =
      let w = beneath.extended.covers (o e) F.small.has in
      found-is (suc (o e)) 16 _ w.0 (omega (arith, w.1, labels-long)) (label-at w.0 w.1 ∙ ap suc w.2)
      (λ q. omega (arith, w.1, few ok D.chain, ok.has_start.sixteen_indices))

  lost_label : labels_of p y (found (suc (o e)) 16 labels) ≡ o e
  lost_label =
      omega (arith, label-at (found (suc (o e)) 16 labels) (omega (arith, lost.inside, labels-long)), lost.is)

  came : Came p T' n y (shrink s (suc e) e into_u) (some x)
  unfolding shrink labels
  came =
      from_larger x (rw index (omega (arith, lost.inside, labels-long))) (six into_u) (eight into_u) marks-at
      (rw index (ap T' lost_label ∙ F.small.out))
      (T, suc n, o, D.chain, beneath.extended)
    where
      six : (b : Bool) → 6 ≤ cond b 6 7
      six true = omega arith
      six false = omega arith

      eight : (b : Bool) → cond b 6 7 < 8
      eight true = omega arith
      eight false = omega arith

  pub shrunk : GoesOn p T n x (suc e) (shrink s (suc e) e into_u)
  shrunk = (
    y,
    beneath.through,
    record { T = T'; t = n; o = omit e o; describes = describes; came = came; link = beneath.link },
  )
