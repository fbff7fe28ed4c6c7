-- A label table that gives the points of a set the labels of a list. So an unlabelled place is a place over some table,
-- with all of T carried by its points but one, and any index as that one's label. Assumes nothing.
use mathlib.Core.Bool.{true, false, ◌&&◌, cond}
use mathlib.Core.List.{List, [], ◌∷◌, map}
use mathlib.Core.Logic.{◌⊎◌, inl, inr, ⊎_elim}
use mathlib.Core.Path.{◌≡◌, refl, sym, ap, ◌∙◌}
use Prim.Native.Nat.{ℕ, zero, suc, ◌-◌, ◌≤◌, ◌<◌}
use borrow.Author.Tests.{eqb-true, le-leb}
use lib.Dec.{eqb, leb}
use lib.ListN.{length, get_or, length-map}
use native.Mathlib.Omega.{arith}
use Rattle.combinatorics.proofs.Basics.{absurd_bool, true_or_false, and_left, and_right, and_both, false_of}
use Rattle.combinatorics.proofs.Basics.{before_or_not}
use Rattle.combinatorics.proofs.EditsInsert.{length-insert_at, insert_at-before, insert_at-here, insert_at-behind}
use Rattle.combinatorics.proofs.Lists.{all_in, distinct-out, distinct_tail, in_all, in_cases, in_first, in_here, in_later}
use Rattle.combinatorics.proofs.Lists.{map_in, mapped_at}
use Rattle.combinatorics.proofs.Lists.{on_numbers}
use Rattle.combinatorics.proofs.Rising.{rising-distinct}
use Rattle.combinatorics.specs.Edits.{insert_at}
use Rattle.combinatorics.specs.Lists.{all, is_in, distinct, occurrences}
use Rattle.geometry.proofs.Points.{nth}
use Rattle.grid_points.proofs.Round.{block-fits}
use Rattle.grid_points.proofs.Points.{on_points, point_sound, point_self, in_points, position_in_lem}
use Rattle.grid_points.specs.Grid.{Grid, Point, num_indices, is_grid_point, same_point, points, position}
use Rattle.place.specs.Coefficients.{coefficient_sum}
use Rattle.place.specs.Places.{Simplex, set_t, label_set, within, order, is_unlabelled_place, is_place, all_labelled}
use Rattle.place.specs.Problem.{Problem, label, has_label, with_labels}
use Rattle.path_laws.proofs.Filled.{FullyLabelled}
use Rattle.path_laws.proofs.Meaning.{T_means, labels_mean}
use Rattle.path_laws.proofs.Positions.{at_in, in_at, occurs_in, order-long}
use Rattle.path_laws.proofs.ToChain.{size-positive}
use Rattle.path_laws.proofs.LinkSymmetry.{unlabelled-parts}
use Rattle.path_laws.specs.Demand.{HasStart, HasTable}
use Rattle.trail.proofs.Reading.{T-alike, place-alike}
use Rattle.trail.proofs.Tells.{at_position}

-- the label of a point: that of its entry in the list; 1 for a point that has none
abbrev given : Simplex → List ℕ → Point → ℕ
given [] ls y = 1
given (x ∷ s) [] y = 1
given (x ∷ s) (l ∷ ls) y = let later = given s ls y in cond (same_point x y) l later

-- the table
pub table : Grid → Simplex → List ℕ → List ℕ
table g s ls = map (given s ls) (points g)

-- each label is an index
abbrev pub Names : ℕ → List ℕ → Type 0
Names m ls = (l : ℕ) → is_in eqb l ls ≡ true → (1 ≤ l) × (l ≤ m)

given-names : (m : ℕ) → 1 ≤ m → (s : Simplex) (ls : List ℕ) → Names m ls → (y : Point)
    → (1 ≤ given s ls y) × (given s ls y ≤ m)
given-names m c [] ls h y = (omega arith, c)
given-names m c (x ∷ s) [] h y = (omega arith, c)
given-names m c (x ∷ s) (l ∷ ls) h y =
    ⊎_elim (λ t. rw t (h l (in_here on_numbers l ls)))
    (λ f. rw f (given-names m c s ls (λ k n. h k (in_later on_numbers k l ls n)) y))
    (true_or_false (same_point x y))

given-all : (s : Simplex) → distinct same_point s ≡ true → (ls : List ℕ) → length ls ≡ length s → map (given s ls) s ≡ ls
given-all [] d [] e = refl
given-all [] d (l ∷ ls) e = absurd (omega arith)
given-all (x ∷ s) d [] e = absurd (omega arith)
given-all (x ∷ s) d (l ∷ ls) e = rw (point_self x)
    (ap (λ (k : List ℕ). l ∷ k) (later s (λ y m. m) ∙ given-all s (distinct_tail same_point x s d) ls (omega arith)))
  where
    other : (y : Point) → is_in same_point y s ≡ true → same_point x y ≡ false
    other y m = false_of _ (λ q. absurd_bool (sym m ∙ (rw (point_sound x y q) at (distinct-out same_point x s d))))

    later : (r : Simplex) → ((y : Point) → is_in same_point y r ≡ true → is_in same_point y s ≡ true)
        → map (given (x ∷ s) (l ∷ ls)) r ≡ map (given s ls) r
    later [] h = refl
    later (y ∷ r) h = rw (other y (h y (in_here on_points y r)))
        (ap (λ (k : List ℕ). given s ls y ∷ k) (later r (λ z m. h z (in_later on_points z y r m))))

-- grid and start are the same with another table
pub has-start_with : {p : Problem} → HasStart p → (labels : List ℕ) → HasStart (with_labels p labels)
has-start_with ok labels = record {
  some_block = ok.some_block;
  six_blocks = ok.six_blocks;
  sizes = ok.sizes;
  sixteen_indices = ok.sixteen_indices;
  same_number = ok.same_number;
  divisions = ok.divisions;
  low = ok.low;
  start = ok.start;
}

pub some-index : {p : Problem} → HasStart p → 0 < num_indices p.grid
some-index {p} ok = omega (arith, size-positive ok 0 ok.some_block, block-fits p.grid.sizes 0)

module _ {p : Problem} (ok : HasStart p) (s : Simplex) (on : all (is_grid_point p.grid) s ≡ true)
    (d : distinct same_point s ≡ true) (ls : List ℕ) (long : length ls ≡ length s)
    (names : Names (num_indices p.grid) ls) where
  label-given : (y : Point) → is_grid_point p.grid y ≡ true → label (with_labels p (table p.grid s ls)) y ≡ given s ls y
  unfolding label table
  label-given y h =
      mapped_at (given s ls) [] (points p.grid) (position p.grid y)
      (position_in_lem (points p.grid) y (in_points p.grid y ok.same_number h))
      ∙ ap (given s ls) (at_position p.grid ok.same_number y h)

  given_in : (y : Point) → (1 ≤ given s ls y) × (given s ls y ≤ num_indices p.grid)
  given_in = given-names (num_indices p.grid) (some-index ok) s ls names

  -- it has a label for every grid point
  pub is-table : HasTable (with_labels p (table p.grid s ls))
  unfolding table
  is-table = record {
    has_start = has-start_with ok (map (given s ls) (points p.grid));
    table_length = length-map (points p.grid) (given s ls);
    labels = in_all on_numbers (λ l. leb l (num_indices p.grid)) (map (given s ls) (points p.grid)) (λ l m.
        let w = map_in on_points on_numbers (given s ls) l (points p.grid) m in
        rw w.2 (le-leb _ _ (given_in w.0).1));
  }

  pub table_full : FullyLabelled (with_labels p (table p.grid s ls))
  unfolding table
  table_full = record {
    has_start = has-start_with ok (map (given s ls) (points p.grid));
    table_length = length-map (points p.grid) (given s ls);
    labels = in_all on_numbers (λ l. leb 1 l && leb l (num_indices p.grid)) (map (given s ls) (points p.grid)) (λ l m.
        let w = map_in on_points on_numbers (given s ls) l (points p.grid) m in
        let v = given_in w.0 in
        rw w.2 (and_both _ _ (le-leb 1 (given s ls w.0) v.0) (le-leb (given s ls w.0) (num_indices p.grid) v.1)));
  }

  pub table-labelled : (r : Simplex) → all (is_grid_point p.grid) r ≡ true
      → all_labelled (with_labels p (table p.grid s ls)) r ≡ true
  table-labelled r h = in_all on_points (has_label (with_labels p (table p.grid s ls))) r (λ y m.
      let e = label-given y (all_in on_points (is_grid_point p.grid) r h y m) in
      let w = given_in y in
      rw e (and_both _ _ (le-leb 1 (given s ls y) w.0) (le-leb (given s ls y) (num_indices p.grid) w.1)))

  -- the points of the set have the labels of the list
  pub table-labels : map (label (with_labels p (table p.grid s ls))) s ≡ ls
  table-labels = go s on ∙ given-all s d ls long
    where
      go : (r : Simplex) → all (is_grid_point p.grid) r ≡ true
          → map (label (with_labels p (table p.grid s ls))) r ≡ map (given s ls) r
      go [] h = refl
      go (y ∷ r) h =
          let e = label-given y (and_left _ _ h) in
          let k = go r (and_right (is_grid_point p.grid y) (all (is_grid_point p.grid) r) h) in
          cc

insert_at_in : (i x l : ℕ) (ys : List ℕ) → is_in eqb l (insert_at i x ys) ≡ true → (l ≡ x) ⊎ (is_in eqb l ys ≡ true)
insert_at_in zero x l ys m = in_cases on_numbers l x ys m
insert_at_in (suc i) x l [] m = in_cases on_numbers l x [] m
insert_at_in (suc i) x l (y ∷ ys) m =
    ⊎_elim (λ (e : l ≡ y). inr (in_first on_numbers _ y ys e))
    (λ n. ⊎_elim (λ e. inl e) (λ k. inr (in_later on_numbers l y ys k)) (insert_at_in i x l ys n))
    (in_cases on_numbers l y (insert_at i x ys) m)

-- each index of T is in the order
pub in_order_lem : (p : Problem) (s : Simplex) → is_unlabelled_place p s ≡ true → (k : ℕ) → is_in eqb k (set_t p s) ≡ true
    → is_in eqb k (order p.grid s) ≡ true
in_order_lem p s h k m = occurs_in k (order p.grid s)
    (eqb-true _ _ (all_in on_numbers
    (λ h. eqb (occurrences h (order p.grid s)) 1)
    (set_t p s) (and_right (within (order p.grid s) (set_t p s)) _ (unlabelled-parts p s h).once) k m))

-- A table over which s is a place, its points but point i carry T, and point i has label x: over it point i may leave,
-- and x, if not in T, joins.
pub record Labelled (p : Problem) (s : Simplex) (i x : ℕ) (labels : List ℕ) : Type 0 where
  pub has_table : HasTable (with_labels p labels)
  pub full : FullyLabelled (with_labels p labels)
  pub known : (r : Simplex) → all (is_grid_point p.grid) r ≡ true → all_labelled (with_labels p labels) r ≡ true
  pub place : is_place (with_labels p labels) s ≡ true
  pub in_order : map (label (with_labels p labels)) s ≡ insert_at i (suc x) (map suc (order p.grid s))
  pub here : label (with_labels p labels) (nth s i) ≡ suc x
  pub carries : (k : ℕ) → is_in eqb k (set_t p s) ≡ true
      → (j : ℕ) × (j < length s) × (j ≡ i → ⊥) × (label (with_labels p labels) (nth s j) ≡ suc k)
  pub inside : (j : ℕ) → j < length s → (j ≡ i → ⊥)
      → (k : ℕ) × (is_in eqb k (set_t p s) ≡ true) × (label (with_labels p labels) (nth s j) ≡ suc k)

module _ {p : Problem} (ok : HasStart p) (s : Simplex) (h : is_unlabelled_place p s ≡ true) (i x : ℕ) (il : i < length s)
    (xl : x < num_indices p.grid) where
  o : List ℕ
  o = order p.grid s

  ls : List ℕ
  ls = insert_at i (suc x) (map suc o)

  long : length s ≡ suc (length o)
  unfolding o
  long = go s il
    where
      go : (s : Simplex) → i < length s → length s ≡ suc (length (order p.grid s))
      go [] l = absurd (omega arith)
      go (y ∷ s) l = ap suc (sym (order-long p.grid y s))

  o_in_T : (k : ℕ) → is_in eqb k o ≡ true → is_in eqb k (set_t p s) ≡ true
  unfolding o
  o_in_T k m =
      all_in on_numbers (λ k. is_in eqb k (set_t p s)) (order p.grid s)
      (and_left (within (order p.grid s) (set_t p s)) _ (unlabelled-parts p s h).once) k m

  names : Names (num_indices p.grid) ls
  unfolding ls
  names l m = ⊎_elim
      (λ (e : l ≡ suc x). (omega arith, omega arith))
      (λ n.
      let w = map_in on_numbers on_numbers suc l o n in
      let b = ((T_means p s w.0).0 (o_in_T w.0 w.1)).0 in
      (omega (arith, w.2), omega (arith, w.2)))
      (insert_at_in i (suc x) l (map suc o) m)

  ls_long : length ls ≡ length s
  unfolding ls
  ls_long = length-insert_at i (suc x) (map suc o) ∙ ap suc (length-map o suc) ∙ sym long

  on : all (is_grid_point p.grid) s ≡ true
  on = (unlabelled-parts p s h).grid_points

  d : distinct same_point s ≡ true
  d = rising-distinct on_points (coefficient_sum p) s (unlabelled-parts p s h).in_order

  q : Problem
  q = with_labels p (table p.grid s ls)

  labels-are : map (label q) s ≡ ls
  unfolding q
  labels-are = table-labels ok s on d ls ls_long names

  at-point : (j : ℕ) → j < length s → label q (nth s j) ≡ get_or ls j 0
  at-point j l = sym (mapped_at (label q) [] s j l) ∙ ap (λ (k : List ℕ). get_or k j 0) labels-are

  short : i ≤ length (map suc o)
  short = omega (arith, il, long, length-map o suc)

  suc-at : (o : List ℕ) (j : ℕ) → j < length o → get_or (map suc o) j 0 ≡ suc (get_or o j 0)
  suc-at [] j l = absurd (omega arith)
  suc-at (y ∷ o) zero l = refl
  suc-at (y ∷ o) (suc j) l = suc-at o j (omega arith)

  carried : (k : ℕ) → is_in eqb k (set_t p s) ≡ true
      → (j : ℕ) × (j < length s) × (j ≡ i → ⊥) × (label q (nth s j) ≡ suc k)
  unfolding ls o
  carried k m =
      let w = in_at on_numbers 0 k o (in_order_lem p s h k m) in
      let e : get_or (map suc o) w.0 0 ≡ suc k = suc-at o w.0 w.1 ∙ ap suc w.2 in
      ⊎_elim
      (λ (l : w.0 < i).
      let b : w.0 < length s = omega arith in (
        w.0,
        b,
        (λ (z : w.0 ≡ i). omega arith),
        at-point w.0 b ∙ insert_at-before 0 i (suc x) (map suc o) w.0 short l ∙ e,
      ))
      (λ (l : i ≤ w.0).
      let b : suc w.0 < length s = omega (arith, w.1, long) in (
        suc w.0,
        b,
        (λ (z : suc w.0 ≡ i). omega arith),
        at-point (suc w.0) b ∙ insert_at-behind 0 i (suc x) (map suc o) w.0 short l ∙ e,
      ))
      (before_or_not w.0 i)

  inside : (j : ℕ) → j < length s → (j ≡ i → ⊥) → (k : ℕ) × (is_in eqb k (set_t p s) ≡ true) × (label q (nth s j) ≡ suc k)
  unfolding ls
  inside j l n = ⊎_elim
      (λ (b : j < i).
      let c : j < length o = omega (arith, long) in (
        get_or o j 0,
        o_in_T _ (at_in on_numbers 0 o j c),
        at-point j l ∙ insert_at-before 0 i (suc x) (map suc o) j short b ∙ suc-at o j c,
      ))
      (λ (b : i ≤ j).
      let e : suc (j - 1) ≡ j = omega (arith, n) in
      let c : j - 1 < length o = omega (arith, long, n) in (
        get_or o (j - 1) 0,
        o_in_T _ (at_in on_numbers 0 o (j - 1) c),
        at-point j l
            ∙ ap (λ (m : ℕ). get_or ls m 0) (sym e)
            ∙ insert_at-behind 0 i (suc x) (map suc o) (j - 1) short (omega (arith, n))
            ∙ suc-at o (j - 1) c,
      ))
      (before_or_not j i)

  pub some-table : (labels : List ℕ) × Labelled p s i x labels
  unfolding is_place ls q o
  some-table = (
    table p.grid s ls,
    record {
      has_table = is-table ok s on d ls ls_long names;
      full = table_full ok s on d ls ls_long names;
      known = table-labelled ok s on d ls ls_long names;
      place = and_both _ _ (place-alike p (table p.grid s ls) s ∙ h)
          (in_all on_numbers
          (λ k. is_in eqb k (label_set q s))
          (set_t q s)
          (λ k m.
          let t = T-alike p (table p.grid s ls) s in
          let c = carried k (rw t at m) in
          (labels_mean q s k).1 (((T_means q s k).0 m).0, (nth s c.0, at_in on_points [] s c.0 c.1, c.3))));
      in_order = labels-are;
      here = at-point i il ∙ insert_at-here 0 i (suc x) (map suc o) short;
      carries = carried;
      inside = inside;
    },
  )
