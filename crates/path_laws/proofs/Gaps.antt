-- A place has at most one point without a label: its other points carry all labels of T. Assumes nothing.
use mathlib.Core.Bool.{Bool, true, false, not}
use mathlib.Core.List.{List, [], ◌∷◌, map}
use mathlib.Core.Logic.{⊎_elim}
use mathlib.Core.Path.{◌≡◌, refl, sym, ap, ◌∙◌}
use Prim.Native.Nat.{ℕ, suc, pred, ◌≤◌, ◌<◌}
use borrow.Author.Tests.{le-leb}
use lib.Dec.{eqb}
use lib.ListN.{length, length-map}
use native.Mathlib.Omega.{arith}
use Rattle.combinatorics.proofs.Basics.{absurd_bool, and_both, true_or_false}
use Rattle.combinatorics.proofs.Lists.{all_in, in_filter, in_map, only-list, pigeon, on_numbers, length_passing}
use Rattle.combinatorics.specs.Lists.{filter, all, is_in}
use Rattle.grid_points.proofs.Points.{on_points}
use Rattle.grid_points.specs.Grid.{Point, same_point, num_indices}
use Rattle.place.specs.Places.{Simplex, is_place, order, set_t, all_labelled, unlabelled}
use Rattle.place.specs.Problem.{Problem, label, has_label}
use Rattle.path_laws.proofs.IndexSets.{order-within, order-distinct}
use Rattle.path_laws.proofs.LinkSymmetry.{parts}
use Rattle.path_laws.proofs.Meaning.{labels_mean}
use Rattle.path_laws.proofs.ToChain.{place-long}
use Rattle.path_laws.specs.Demand.{HasStart}

left-none : {A : Type 0} (q : A → Bool) (xs : List A) → filter (λ x. not (q x)) xs ≡ [] → all q xs ≡ true
left-none q [] e = refl
left-none q (x ∷ xs) e = ⊎_elim
    (λ t. and_both _ _ t (left-none q xs (rw t at e)))
    (λ f. absurd_bool (let z = rw f at e in cc))
    (true_or_false (q x))

-- a number that a point's label names is its label
pub label-named : (p : Problem) (y : Point) (h : ℕ) → h < num_indices p.grid → label p y ≡ suc h → has_label p y ≡ true
label-named p y h l e = rw e (and_both _ _ (le-leb 1 (suc h) (omega arith)) (le-leb (suc h) _ (omega arith)))

module _ {p : Problem} (ok : HasStart p) (s : Simplex) (h : is_place p s ≡ true) where
  -- each index of T is the label of a point with a label
  carried : (x : ℕ) → is_in eqb x (order p.grid s) ≡ true
      → is_in eqb x (map (λ y. pred (label p y)) (filter (has_label p) s)) ≡ true
  carried x m =
      let w = (labels_mean p s x).0 (all_in on_numbers _ (set_t p s) (parts p s h).labelled x (order-within p s h x m)) in
      let y = w.1.0 in
      let e : pred (label p y) ≡ x = ap pred w.1.2 in
      rw (← e) (in_map on_points on_numbers (λ y. pred (label p y)) y (filter (has_label p) s)
      (in_filter on_points (has_label p) y s w.1.1 (label-named p y x w.0 w.1.2)))

  few : length (unlabelled p s) ≤ 1
  few = omega (
    arith,
    length_passing (has_label p) s,
    place-long ok s h,
    length-map (filter (has_label p) s) (λ y. pred (label p y)),
    pigeon on_numbers (order p.grid s) (map (λ y. pred (label p y)) (filter (has_label p) s)) (order-distinct p s h)
        carried,
  )

  -- a point without a label is the only one
  pub the_gap : (y : Point) → is_in same_point y s ≡ true → has_label p y ≡ false → unlabelled p s ≡ y ∷ []
  the_gap y m f = only-list on_points y (unlabelled p s) few (in_filter on_points (λ y. not (has_label p y)) y s m (rw f))

  pub one-gap : all_labelled p s ≡ false → (y : Point) × (unlabelled p s ≡ y ∷ [])
  one-gap f = go (unlabelled p s) refl few
    where
      go : (l : Simplex) → unlabelled p s ≡ l → length l ≤ 1 → (y : Point) × (unlabelled p s ≡ y ∷ [])
      go [] e c = absurd_bool (sym (left-none (has_label p) s e) ∙ f)
      go (y ∷ []) e c = (y, e)
      go (y ∷ z ∷ l) e c = absurd (omega arith)
