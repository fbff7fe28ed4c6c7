-- The reader's checks leave exactly the links over some table. In order: sets of labels; over a table where the points
-- of a place but one carry T, a move that takes that point out is a link, and so is one by which that point's label
-- joins T; each move is a link over some table, and each link is a move. Assumes nothing.
use mathlib.Core.Bool.{true, ◌||◌}
use mathlib.Core.List.{List, [], ◌∷◌}
use mathlib.Core.Logic.{⊎_elim}
use mathlib.Core.Path.{◌≡◌, sym, ap, ◌∙◌}
use Prim.Native.Nat.{ℕ, suc, ◌+◌, ◌<◌}
use borrow.Author.Tests.{eq-eqb}
use lib.Dec.{eqb}
use lib.ListN.{length}
use native.Mathlib.Omega.{arith}
use Rattle.combinatorics.proofs.Basics.{absurd_bool, true_or_false, same_or, and_both, or_left, or_right, both}
use Rattle.combinatorics.proofs.Lists.{in_here, in_cases, in_all, in_filter, filter_cong, same_self, eqb_self}
use Rattle.combinatorics.proofs.Lists.{on_numbers, length_passing}
use Rattle.combinatorics.specs.Lists.{all, is_in}
use Rattle.geometry.proofs.Definitions.{Less}
use Rattle.geometry.proofs.Points.{nth}
use Rattle.grid_points.proofs.Points.{on_points}
use Rattle.grid_points.specs.Grid.{Point, num_indices, indices, same_point, is_grid_point}
use Rattle.place.specs.Links.{shared, exchanged, extended, linked}
use Rattle.place.specs.Places.{Simplex, set_t, label_set, is_unlabelled_place, is_place, all_labelled}
use Rattle.place.specs.Problem.{Problem, label, with_labels}
use Rattle.path_laws.proofs.Meaning.{T_means, labels_mean}
use Rattle.path_laws.proofs.Positions.{set_of_lem, at_in, in_at, same_at}
use Rattle.path_laws.proofs.ToChain.{in_t}
use Rattle.path_laws.proofs.LinkSymmetry.{unlabelled_of, unlabelled-parts}
use Rattle.path_laws.specs.Demand.{HasStart, HasTable}
use Rattle.trail.proofs.LinkRules.{rule_of-link}
use Rattle.trail.proofs.Outside.{in_outside, outside_in, outside-count}
use Rattle.trail.proofs.Reading.{T-alike, place-alike, change-alike, move_of}
use Rattle.trail.proofs.Shapes.{Shape, exchange, joins, leaves, shape_of, not_empty, points-distinct}
use Rattle.trail.proofs.Tables.{has-start_with, Labelled, some-table, some-index}
use Rattle.trail.proofs.Tells.{Moves, moves_of}
use Rattle.trail.specs.Change.{change, outside, ByRule}
use Rattle.trail.specs.Trail.{is_move}

-- the labels of a set are T of another if they have the same indices
labels-T : (p : Problem) (s t : Simplex) → ((k : ℕ) → is_in eqb k (label_set p s) ≡ true → is_in eqb k (set_t p t) ≡ true)
    → ((k : ℕ) → is_in eqb k (set_t p t) ≡ true → is_in eqb k (label_set p s) ≡ true) → label_set p s ≡ set_t p t
unfolding label_set set_t
labels-T p s t f g = set_of_lem _ (indices p.grid)
    ∙ filter_cong on_numbers (indices p.grid) (λ k m. both _ _ (f k) (g k))
    ∙ sym (set_of_lem _ (indices p.grid))

-- what is not left out is in the other set
pub stays_in : (a b : Simplex) {z : Point} → outside same_point b a ≡ z ∷ [] → (y : Point) → is_in same_point y a ≡ true
    → (y ≡ z → ⊥)
    → is_in same_point y b ≡ true
stays_in a b {z} e y m n = ⊎_elim
    (λ t. t)
    (λ f. ⊎_elim
    (λ q. absurd (n q))
    (λ q. absurd_bool (sym q))
    (in_cases on_points y z [] (rw e at (in_outside on_points y a b m f))))
    (true_or_false (is_in same_point y b))

all_stay : (a b : Simplex) → outside same_point b a ≡ [] → (y : Point) → is_in same_point y a ≡ true
    → is_in same_point y b ≡ true
all_stay a b e y m = ⊎_elim
    (λ t. t)
    (λ f. absurd_bool (sym (rw e at (in_outside on_points y a b m f))))
    (true_or_false (is_in same_point y b))

-- a link over a table
pub record LinkOver (p : Problem) (a b : Simplex) (labels : List ℕ) : Type 0 where
  pub from : is_place (with_labels p labels) a ≡ true
  pub to : is_place (with_labels p labels) b ≡ true
  pub by : linked (with_labels p labels) a b ≡ true

module _ {p : Problem} (a b : Simplex) (ha : is_unlabelled_place p a ≡ true) (hb : is_unlabelled_place p b ≡ true) {i x : ℕ}
    (il : i < length a) {labels : List ℕ} (L : Labelled p a i x labels) where
  -- a set of points has a label that one of its points has
  has-label : (s : Simplex) (y : Point) (k : ℕ) → is_in same_point y s ≡ true → k < num_indices p.grid
      → label (with_labels p labels) y ≡ suc k
      → is_in eqb k (label_set (with_labels p labels) s) ≡ true
  has-label s y k m l e = (labels_mean (with_labels p labels) s k).1 (l, (y, m, e))

  counted : length (outside same_point a b) + length a ≡ length (outside same_point b a) + length b
  counted = outside-count on_points a b (points-distinct p a ha) (points-distinct p b hb)

  -- a place over the table, where its T is carried
  place_b : ((k : ℕ) → is_in eqb k (set_t p b) ≡ true → is_in eqb k (label_set (with_labels p labels) b) ≡ true)
      → is_place (with_labels p labels) b ≡ true
  unfolding is_place
  place_b h = and_both _ _ (place-alike p labels b ∙ hb)
      (in_all on_numbers (λ k. is_in eqb k (label_set (with_labels p labels) b)) (set_t (with_labels p labels) b)
      (λ k m. h k (rw (T-alike p labels b) at m)))

  below : (k : ℕ) → is_in eqb k (set_t p a) ≡ true → k < num_indices p.grid
  below k m = ((T_means p a k).0 m).0

  module _ {z : Point} (out : outside same_point b a ≡ z ∷ []) (at-z : nth a i ≡ z) where
    -- the other points stay, and carry T
    others : (j : ℕ) → j < length a → (j ≡ i → ⊥) → is_in same_point (nth a j) b ≡ true
    others j l n = stays_in a b out (nth a j) (at_in on_points [] a j l)
        (λ e. n (same_at on_points [] a (points-distinct p a ha) j i l il (e ∙ sym at-z)))

    carried : (k : ℕ) → is_in eqb k (set_t p a) ≡ true → is_in eqb k (label_set (with_labels p labels) b) ≡ true
    carried k m = let c = L.carries k m in has-label b (nth a c.0) k (others c.0 c.1 c.2) (below k m) c.3

    -- a point is exchanged for it
    pub exchange_links : {y : Point} → outside same_point a b ≡ y ∷ [] → set_t p a ≡ set_t p b → LinkOver p a b labels
    unfolding linked exchanged
    exchange_links {y} come e = record {
      from = L.place;
      to = place_b (λ k m. carried k (rw e m));
      by = or_left _ _ (or_left _ _ (and_both _ _
          (and_both _ _ (and_both _ _ (eq-eqb (length a) _ la) (eq-eqb (length b) _ lb))
          (rw (T-alike p labels a, T-alike p labels b, e) (same_self eqb eqb_self (set_t p b))))
          (in_all on_numbers
          (λ k. is_in eqb k (label_set (with_labels p labels) (shared a b)))
          (set_t (with_labels p labels) a)
          (λ k m.
          let t = rw (T-alike p labels a) at m in
          let c = L.carries k t in
          has-label (shared a b) (nth a c.0) k
          (in_filter on_points (λ y. is_in same_point y b) (nth a c.0) a (at_in on_points [] a c.0 c.1)
          (others c.0 c.1 c.2))
          (below k t) c.3))));
    }
      where
        la : length a ≡ suc (length (shared a b))
        la = omega (arith, ap length out, length_passing (λ y. is_in same_point y b) a)

        lb : length b ≡ suc (length (shared a b))
        lb = omega (arith, la, ap length out, ap length come, counted)

    -- it leaves, and an index of T with it
    pub leave-links : {g : ℕ} → outside same_point a b ≡ [] → Less (in_t p a) (in_t p b) g → LinkOver p a b labels
    unfolding linked extended
    leave-links {g} come T = record {
      from = L.place;
      to = place_b (λ k m. carried k (more k m));
      by = or_right (exchanged (with_labels p labels) a b || extended (with_labels p labels) a b) _
          (and_both _ _ (and_both _ _ (eq-eqb (length a) _ (omega (arith, ap length out, ap length come, counted)))
          (in_all on_points (λ y. is_in same_point y a) b (all_stay b a come)))
          (rw sets (same_self eqb eqb_self (set_t (with_labels p labels) a))));
    }
      where
        more : (k : ℕ) → is_in eqb k (set_t p b) ≡ true → is_in eqb k (set_t p a) ≡ true
        more k m = ⊎_elim
            (λ (e : k ≡ g). absurd_bool (sym m ∙ ap (in_t p b) e ∙ T.out))
            (λ n. sym (T.rest k n) ∙ m)
            (same_or k g)

        -- the labels that stay are those of T
        sets : label_set (with_labels p labels) b ≡ set_t (with_labels p labels) a
        sets = labels-T (with_labels p labels) b a
            (λ k m.
            let w = ((labels_mean (with_labels p labels) b k).0 m).1 in
            let j = in_at on_points [] w.0 a (all_stay b a come w.0 w.1) in
            let c = L.inside j.0 j.1
            (λ e. absurd_bool
            (sym w.1
            ∙ ap (λ (y : Point). is_in same_point y b) (sym j.2 ∙ ap (nth a) e ∙ at-z)
            ∙ (outside_in on_points z a b (rw out (in_here on_points z []))).1)) in
            let n : suc k ≡ suc c.0 = sym w.2 ∙ ap (label (with_labels p labels)) (sym j.2) ∙ c.2 in
            let e : k ≡ c.0 = omega arith in
            rw (T-alike p labels a, e) c.1)
            (λ k m. carried k (rw (T-alike p labels a) at m))

  -- its label joins T
  pub join_links : {y : Point} → outside same_point a b ≡ y ∷ [] → outside same_point b a ≡ []
      → Less (in_t p b) (in_t p a) x
      → LinkOver p a b labels
  unfolding linked extended
  join_links {y} come out T = record {
    from = L.place;
    to = place_b (λ k m. let w = (labels_mean (with_labels p labels) a k).0 (rw sets (rw (T-alike p labels b) m)) in
        has-label b w.1.0 k (all_stay a b out w.1.0 w.1.1) w.0 w.1.2);
    by = or_left _ _ (or_right (exchanged (with_labels p labels) a b) _
        (and_both _ _ (and_both _ _ (eq-eqb (length b) _ (omega (arith, ap length out, ap length come, counted)))
        (in_all on_points (λ y. is_in same_point y b) a (all_stay a b out)))
        (rw sets (same_self eqb eqb_self (set_t (with_labels p labels) b)))));
  }
    where
      sets : label_set (with_labels p labels) a ≡ set_t (with_labels p labels) b
      sets = labels-T (with_labels p labels) a b
          (λ k m.
          let w = ((labels_mean (with_labels p labels) a k).0 m).1 in
          let j = in_at on_points [] w.0 a w.1 in
          let e : label (with_labels p labels) (nth a j.0) ≡ suc k = ap (label (with_labels p labels)) j.2 ∙ w.2 in
          rw (T-alike p labels b) (⊎_elim
          (λ (n : j.0 ≡ i).
          let s : suc k ≡ suc x = sym e ∙ ap (λ (j : ℕ). label (with_labels p labels) (nth a j)) n ∙ L.here in
          let t : k ≡ x = omega arith in
          rw t T.has)
          (λ n.
          let c = L.inside j.0 j.1 n in
          let s : suc k ≡ suc c.0 = sym e ∙ c.2 in
          let t : k ≡ c.0 = omega arith in
          rw t (⊎_elim (λ (r : c.0 ≡ x). rw r T.has) (λ r. sym (T.rest c.0 r) ∙ c.1) (same_or c.0 x)))
          (same_or j.0 i)))
          (λ k m.
          let t : is_in eqb k (set_t p b) ≡ true = rw (T-alike p labels b) at m in
          ⊎_elim
          (λ (e : k ≡ x). has-label a (nth a i) k (at_in on_points [] a i il) ((T_means p b k).0 t).0 (rw e L.here))
          (λ n.
          let c = L.carries k (T.rest k n ∙ t) in
          has-label a (nth a c.0) k (at_in on_points [] a c.0 c.1) ((T_means p b k).0 t).0 c.3)
          (same_or k x))

module _ {p : Problem} (ok : HasStart p) where
  -- the number of a point of a place
  pub number_of : (a b : Simplex) {z : Point} → outside same_point b a ≡ z ∷ []
      → (i : ℕ) × (i < length a) × (nth a i ≡ z)
  number_of a b {z} e = in_at on_points [] z a (outside_in on_points z a b (rw e (in_here on_points z []))).0

  -- each move is a link over some table, without a gap,
  pub move_links : (a b : Simplex) → is_unlabelled_place p a ≡ true → is_move p a b ≡ true
      → (labels : List ℕ) × LinkOver p a b labels × HasTable (with_labels p labels)
      × (all_labelled (with_labels p labels) a ≡ true)
  move_links a b ha m = go (shape_of ok a b ha M)
    where
      M : Moves p a b
      M = moves_of p a b m

      on : all (is_grid_point p.grid) a ≡ true
      on = (unlabelled-parts p a ha).grid_points

      go : Shape p a b
          → (labels : List ℕ) × LinkOver p a b labels × HasTable (with_labels p labels)
          × (all_labelled (with_labels p labels) a ≡ true)
      go (exchange y z come out e) =
          let i = number_of a b out in
          let t = some-table ok a ha i.0 0 i.1 (some-index ok) in
          (t.0, exchange_links a b ha M.place i.1 t.1 out i.2 come e, t.1.has_table, t.1.known a on)
      go (joins y g come out T) =
          let t = some-table ok a ha 0 g (not_empty ok a ha) ((T_means p b g).0 T.has).0 in
          (t.0, join_links a b ha M.place (not_empty ok a ha) t.1 come out T, t.1.has_table, t.1.known a on)
      go (leaves z g come out T) =
          let i = number_of a b out in
          let t = some-table ok a ha i.0 0 i.1 (some-index ok) in
          (t.0, leave-links a b ha M.place i.1 t.1 out i.2 come T, t.1.has_table, t.1.known a on)

  -- and each link from a place whose points have labels is a move
  pub link-moves : (labels : List ℕ) (a b : Simplex) → LinkOver p a b labels
      → all_labelled (with_labels p labels) a ≡ true
      → (is_move p a b ≡ true) × ((r : ℕ) × ByRule (change p a b) r)
  link-moves labels a b L own =
      let w = rule_of-link (has-start_with ok labels) a b L.from L.to own L.by in
      let m : ByRule (change p a b) w.0 = rw (change-alike p labels a b) at w.1 in
      (move_of p a b (sym (place-alike p labels b) ∙ unlabelled_of (with_labels p labels) b L.to) m, (w.0, m))

  -- so each move is by one rule
  pub move_rule : (a b : Simplex) → is_unlabelled_place p a ≡ true → is_move p a b ≡ true
      → (r : ℕ) × ByRule (change p a b) r
  move_rule a b ha m = let w = move_links a b ha m in (link-moves w.0 a b w.1 w.3).1
