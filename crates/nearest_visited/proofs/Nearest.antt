-- The first of the elements with the least value: what it is, and what one element more changes. So the nearest of the
-- visited vertices and the list of those within a distance. Assumes nothing.
use mathlib.Core.Bool.{Bool, true, false}
use mathlib.Core.List.{List, [], ◌∷◌, ◌++◌}
use mathlib.Core.Logic.{⊎_elim}
use mathlib.Core.Path.{◌≡◌, refl, sym, ◌∙◌, subst}
use Prim.Native.Nat.{ℕ, zero, suc, ◌≤◌, ◌<◌}
use borrow.Author.Tests.{leb-true, le-leb}
use lib.Dec.{leb}
use lib.ListN.{length, length-append, length-map, get_or, get_or-append}
use lib.Seq.{get_or_at}
use native.Mathlib.Omega.{arith}
use Rattle.combinatorics.proofs.Basics.{absurd_bool, before_or_not, false_of}
use Rattle.combinatorics.proofs.Lists.{all_in, append_in, distinct_filter, distinct-map, filter-all, filter_in, in_all}
use Rattle.combinatorics.proofs.Lists.{in_cases, in_filter, in_here, length-filter_le, on_numbers}
use Rattle.combinatorics.specs.Lists.{all, filter, first_or, is_in}
use Rattle.grid_points.proofs.Accepted.{Accepted as GridAccepted}
use Rattle.grid_points.proofs.Points.{on_points}
use Rattle.grid_points.specs.Grid.{Point, is_grid_point, position, same_point}
use Rattle.place.specs.Path.{path as path_of}
use Rattle.place.specs.Problem.{Problem}
use Rattle.path_laws.proofs.Accepted.{accepted-grid, accepted-table}
use Rattle.path_laws.proofs.Positions.{at_in, in_at}
use Rattle.path_laws.proofs.Theorem.{demand3_holds}
use Rattle.path_laws.specs.Demand.{Accepted, place_at}
use Rattle.positions.proofs.ByTails.{position-tells}
use Rattle.nearest_visited.specs.Demand.{IsList, IsNearest}
use Rattle.nearest_visited.specs.Distance.{distance}
use Rattle.nearest_visited.specs.Nearest.{first_least, vertices_within}
use Rattle.nearest_visited.specs.Visited.{first_visit, visited_vertices}
use Rattle.nearest_visited.proofs.Distances.{distances}
use Rattle.nearest_visited.proofs.Visits.{rising-filter, visits}

-- y is the first of the list's elements that have the least value
pub record IsFirstLeast (f : Point → ℕ) (l : List Point) (y : Point) : Type 0 where
  pub number : ℕ
  pub low : number < length l
  pub is : get_or l number [] ≡ y
  pub least : (z : Point) → is_in same_point z l ≡ true → f y ≤ f z
  pub earlier : (i : ℕ) → i < number → f y < f (get_or l i [])

first_passing : (q : Point → Bool) (l : List Point) (i : ℕ) → i < length l → q (get_or l i []) ≡ true
    → ((j : ℕ) → j < i → q (get_or l j []) ≡ false) → first_or [] (filter q l) ≡ get_or l i []
first_passing q [] i h t f = absurd (omega arith)
first_passing q (x ∷ l) zero h t f = rw t
first_passing q (x ∷ l) (suc i) h t f =
    rw (f 0 (omega arith)) (first_passing q l i (omega arith) t (λ j c. f (suc j) (omega arith)))

module _ (f : Point → ℕ) where
  pub first-least : {l : List Point} {y : Point} → IsFirstLeast f l y → first_least f l ≡ y
  unfolding first_least
  first-least {l} {y} F =
      first_passing
      (λ x. all (λ z. leb (f x) (f z)) l)
      l F.number F.low
      (rw F.is (in_all on_points (λ z. leb (f y) (f z)) l (λ z m. le-leb (f y) (f z) (F.least z m))))
      (λ j c. false_of _ (λ t.
      let here : is_in same_point y l ≡ true = rw (← F.is) (at_in on_points [] l F.number F.low) in
      let u : f (get_or l j []) ≤ f y =
      leb-true (f (get_or l j [])) (f y) (all_in on_points (λ z. leb (f (get_or l j [])) (f z)) l t y here) in
      absurd (omega (arith, F.earlier j c))))
      ∙ F.is

  pub only-least : (y : Point) → IsFirstLeast f (y ∷ []) y
  only-least y = record {
    number = 0;
    low = omega arith;
    is = refl;
    least = λ z m. ⊎_elim (λ e. rw e (omega arith)) (λ n. absurd_bool (sym n)) (in_cases on_points z y [] m);
    earlier = λ i c. absurd (omega arith);
  }

  -- one element more, behind the others
  module _ {l : List Point} {b : Point} (F : IsFirstLeast f l b) (y : Point) where
    pub less_behind : f y < f b → IsFirstLeast f (l ++ (y ∷ [])) y
    less_behind c = record {
      number = length l;
      low = omega (arith, length-append l (y ∷ []));
      is = get_or_at l y [] [] (length l) refl;
      least = λ z m. ⊎_elim
          (λ n. omega (arith, F.least z n))
          (λ n. ⊎_elim (λ e. rw e (omega arith)) (λ k. absurd_bool (sym k)) (in_cases on_points z y [] n))
          (append_in on_points z l (y ∷ []) m);
      earlier = λ i d.
          rw (get_or-append l (y ∷ []) [] i d) (omega (arith, F.least (get_or l i []) (at_in on_points [] l i d)));
    }

    pub more_behind : f b ≤ f y → IsFirstLeast f (l ++ (y ∷ [])) b
    more_behind c = record {
      number = F.number;
      low = omega (arith, F.low, length-append l (y ∷ []));
      is = get_or-append l (y ∷ []) [] F.number F.low ∙ F.is;
      least = λ z m. ⊎_elim
          (λ n. F.least z n)
          (λ n. ⊎_elim (λ e. rw e c) (λ k. absurd_bool (sym k)) (in_cases on_points z y [] n))
          (append_in on_points z l (y ∷ []) m);
      earlier = λ i d. rw (get_or-append l (y ∷ []) [] i (omega (arith, F.low))) (F.earlier i d);
    }

  -- in front of them
  module _ {l : List Point} {b : Point} (F : IsFirstLeast f l b) (y : Point) where
    less_before : f y ≤ f b → IsFirstLeast f (y ∷ l) y
    less_before c = record {
      number = 0;
      low = omega arith;
      is = refl;
      least = λ z m. ⊎_elim (λ e. rw e (omega arith)) (λ n. omega (arith, F.least z n)) (in_cases on_points z y l m);
      earlier = λ i d. absurd (omega arith);
    }

    more_before : f b < f y → IsFirstLeast f (y ∷ l) b
    more_before c = record {
      number = suc F.number;
      low = omega (arith, F.low);
      is = F.is;
      least = λ z m. ⊎_elim (λ e. rw e (omega arith)) (λ n. F.least z n) (in_cases on_points z y l m);
      earlier = before;
    }
      where
        before : (i : ℕ) → i < suc F.number → f b < f (get_or (y ∷ l) i [])
        before zero d = c
        before (suc i) d = F.earlier i (omega arith)

  some-least : (x : Point) (l : List Point) → (y : Point) × IsFirstLeast f (x ∷ l) y
  some-least x [] = (x, only-least x)
  some-least x (z ∷ l) =
      let w = some-least z l in
      ⊎_elim
      (λ (c : f w.0 < f x). (w.0, more_before w.1 x c))
      (λ (c : f x ≤ f w.0). (x, less_before w.1 x c))
      (before_or_not (f w.0) (f x))

  pub has-least : (l : List Point) → 0 < length l → IsFirstLeast f l (first_least f l)
  has-least [] h = absurd (omega arith)
  has-least (x ∷ l) h = let w = some-least x l in subst (IsFirstLeast f (x ∷ l)) (sym (first-least w.1)) w.1

module _ {p : Problem} (ok : Accepted p) where
  pub grid-accepted : GridAccepted p.grid
  grid-accepted = accepted-grid ok.has_start ok.points

  pub some-visited : 0 < length (visited_vertices p)
  some-visited =
      let D = (demand3_holds (accepted-table ok)).follows in
      let here : is_in same_point p.start (place_at (path_of p).visited 0) ≡ true =
      rw D.begins (in_here on_points p.start []) in
      let w = in_at on_points [] p.start (visited_vertices p)
      (((visits (accepted-table ok)).each p.start).1 (0, D.nonempty, here)) in
      omega (arith, w.1)

  -- of w nothing is asked here: a distance is a number for every list
  pub is-nearest : (w : Point) → IsNearest p w
  is-nearest w = let F = has-least (distance p.grid w) (visited_vertices p) some-visited in record {
    number = F.number;
    low = F.low;
    is = F.is;
    least = F.least;
    earlier = F.earlier;
  }

  pub is-list : (w : Point) → is_grid_point p.grid w ≡ true → (given : ℕ) → IsList p w given
  is-list w on given = record {
    each = λ y. (
      (λ m.
          let i = filter_in on_points near y (visited_vertices p) m in
          (i.0, leb-true (distance p.grid w y) given i.1)),
      (λ i. in_filter on_points near y (visited_vertices p) i.0 (le-leb (distance p.grid w y) given i.1)),
    );
    once = distinct-map on_points on_numbers (position p.grid) (vertices_within p w given)
        (λ x y m n e. position-tells p.grid grid-accepted x y (on-grid x m) (on-grid y n) e)
        (distinct_filter on_points near (visited_vertices p) (visits (accepted-table ok)).once);
    in_order = rising-filter on_points (first_visit p) near (visited_vertices p) (visits (accepted-table ok)).in_order;
    few = rw (length-map (vertices_within p w given) (position p.grid))
        (omega (arith, length-filter_le near (visited_vertices p), (visits (accepted-table ok)).few));
    all = λ l. filter-all on_points (visited_vertices p)
        (λ y m. le-leb (distance p.grid w y) given
        (omega (arith, (distances p.grid grid-accepted).most w y on ((visits (accepted-table ok)).on_grid y m))));
  }
    where
      near : Point → Bool
      near y = leb (distance p.grid w y) given

      on-grid : (y : Point) → is_in same_point y (vertices_within p w given) ≡ true → is_grid_point p.grid y ≡ true
      on-grid y m = (visits (accepted-table ok)).on_grid y (filter_in on_points near y (visited_vertices p) m).0
