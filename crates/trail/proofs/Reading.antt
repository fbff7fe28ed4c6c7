-- What a reader rebuilds. In order: the record at the front of the bytes leads to its place, or to none; the table is
-- not looked at; over a run's trail the places are the path. Assumes nothing.
use mathlib.Core.Bool.{Bool, true, ◌&&◌, not}
use mathlib.Core.List.{List, [], ◌∷◌, ◌++◌}
use mathlib.Core.Option.{Option, none}
use mathlib.Core.Path.{◌≡◌, refl, sym, ap, ◌∙◌}
use Prim.Native.Nat.{ℕ, zero, suc, ◌≤◌}
use borrow.Author.Tests.{le-leb}
use lib.ListN.{length, drop}
use native.Mathlib.Omega.{arith}
use Rattle.combinatorics.proofs.Basics.{absurd_bool, and_left, and_right, and_both}
use Rattle.combinatorics.proofs.Lists.{in_here, in_filter, filter_in, filter_cong, eqb_self}
use Rattle.combinatorics.specs.Lists.{all, filter, is_in, sublists}
use Rattle.grid_points.specs.Grid.{Point, num_blocks, is_grid_point, points}
use Rattle.place.specs.Coefficients.{coefficients}
use Rattle.place.specs.Path.{same_simplex}
use Rattle.place.specs.Places.{Simplex, set_t, is_unlabelled_place, insert, in_order}
use Rattle.place.specs.Problem.{Problem, with_labels}
use Rattle.path_laws.proofs.ListOfPlaces.{sets_all}
use Rattle.path_laws.proofs.Simplices.{on_simplices}
use Rattle.path_laws.proofs.LinkSymmetry.{unlabelled-parts}
use Rattle.trail.proofs.Rules.{rules-are}
use Rattle.trail.proofs.Tells.{moves_of, record_tells}
use Rattle.trail.specs.Change.{Change, change, ByRule, rule1, rule2, rule3, rule4, rule5, rule6, rule7, empty}
use Rattle.trail.specs.Record.{encoded, fields, record_of, start_record}
use Rattle.trail.specs.Trail.{is_move, begins, unlabelled_places, read_on, go_on, rebuilt_from, rebuilt}

pub begins_self : (r x : List ℕ) → begins r (r ++ x) ≡ true
begins_self [] x = refl
begins_self (y ∷ r) x = and_both _ _ (eqb_self y) (begins_self r x)

-- a place reached by a rule is reached by a move
pub move_of : (p : Problem) (a b : Simplex) → is_unlabelled_place p b ≡ true → {r : ℕ} → ByRule (change p a b) r
    → is_move p a b ≡ true
unfolding is_move
move_of p a b h {r} m = and_both _ _
    (and_both _ _ (and_both _ _ (and_both _ _ h (le-leb _ 1 (few m).0)) (le-leb _ 1 (few m).1)) (some m))
    (rw (rules-are m))
  where
    few : {r : ℕ} → ByRule (change p a b) r
        → (length (change p a b).points_in ≤ 1) × (length (change p a b).points_out ≤ 1)
    few (rule1 y z e) = rw e (omega arith, omega arith)
    few (rule2 y z h e) = rw e (omega arith, omega arith)
    few (rule3 y z h e) = rw e (omega arith, omega arith)
    few (rule4 y h e) = rw e (omega arith, omega arith)
    few (rule5 y h e) = rw e (omega arith, omega arith)
    few (rule6 z h e) = rw e (omega arith, omega arith)
    few (rule7 z h e) = rw e (omega arith, omega arith)

    some : {r : ℕ} → ByRule (change p a b) r
        → not (empty (change p a b).points_in && empty (change p a b).points_out) ≡ true
    some (rule1 y z e) = rw e
    some (rule2 y z h e) = rw e
    some (rule3 y z h e) = rw e
    some (rule4 y h e) = rw e
    some (rule5 y h e) = rw e
    some (rule6 z h e) = rw e
    some (rule7 z h e) = rw e

module _ (p : Problem) (even : length p.grid.divisions ≡ num_blocks p.grid) (a : Simplex)
    (on : all (is_grid_point p.grid) a ≡ true) (bytes : List ℕ) where
  abbrev fits : Simplex → Bool
  fits b = is_move p a b && begins (record_of p a b) bytes

  -- what is found is a place whose record stands there
  pub found : (b : Simplex) → is_in same_simplex b (read_on p a bytes) ≡ true
      → (is_move p a b ≡ true) × (begins (record_of p a b) bytes ≡ true)
  unfolding read_on
  found b m =
      let w = (filter_in on_simplices fits b (unlabelled_places p) m).1 in
      (and_left _ _ w, and_right (is_move p a b) _ w)

  -- and each such place is found
  finds : (b : Simplex) → is_move p a b ≡ true → begins (record_of p a b) bytes ≡ true
      → is_in same_simplex b (read_on p a bytes) ≡ true
  unfolding read_on unlabelled_places
  finds b m e =
      let h = (moves_of p a b m).place in
      let k = unlabelled-parts p b h in
      in_filter on_simplices fits b (unlabelled_places p)
      (in_filter on_simplices (is_unlabelled_place p) b (sublists (in_order p (points p.grid)))
      (sets_all p even b k.grid_points k.in_order) h)
      (and_both _ _ m e)

  -- the record leads to its place,
  pub reads_on : (b : Simplex) → is_move p a b ≡ true → begins (record_of p a b) bytes ≡ true → (n : ℕ)
      → rebuilt_from p (suc n) a bytes ≡ rebuilt_from p n b (drop (length (record_of p a b)) bytes)
  reads_on b m e n = go (read_on p a bytes) (finds b m e) (λ c k. found c k)
    where
      rest : Simplex → Option Simplex
      rest c = rebuilt_from p n c (drop (length (record_of p a c)) bytes)

      go : (l : List Simplex) → is_in same_simplex b l ≡ true
          → ((c : Simplex) → is_in same_simplex c l ≡ true
          → (is_move p a c ≡ true) × (begins (record_of p a c) bytes ≡ true))
          → go_on rest l ≡ rest b
      go [] k all = absurd_bool (sym k)
      go (c ∷ l) k all =
          let w = all c (in_here on_simplices c l) in
          ap rest (record_tells even on (moves_of p a c w.0) (moves_of p a b m) bytes w.1 e)

  -- and where there is no such place, to none
  pub reads_none : ((b : Simplex) → is_move p a b ≡ true → begins (record_of p a b) bytes ≡ true → ⊥) → (n : ℕ)
      → rebuilt_from p (suc n) a bytes ≡ none
  reads_none h n = go (read_on p a bytes) (λ c k. found c k)
    where
      go : (l : List Simplex)
          → ((c : Simplex) → is_in same_simplex c l ≡ true
          → (is_move p a c ≡ true) × (begins (record_of p a c) bytes ≡ true))
          → go_on (λ c. rebuilt_from p n c (drop (length (record_of p a c)) bytes)) l ≡ none
      go [] all = refl
      go (c ∷ l) all = let w = all c (in_here on_simplices c l) in absurd (h c w.0 w.1)

-- the table is not looked at
module _ (p : Problem) (labels : List ℕ) where
  pub T-alike : (s : Simplex) → set_t (with_labels p labels) s ≡ set_t p s
  unfolding set_t coefficients
  T-alike s = refl

  pub place-alike : (s : Simplex) → is_unlabelled_place (with_labels p labels) s ≡ is_unlabelled_place p s
  unfolding is_unlabelled_place set_t coefficients
  place-alike s = refl

  pub change-alike : (a b : Simplex) → change (with_labels p labels) a b ≡ change p a b
  unfolding change
  change-alike a b = rw (T-alike a, T-alike b)

  insert-alike : (y : Point) (l : List Point) → insert (with_labels p labels) y l ≡ insert p y l
  unfolding coefficients
  insert-alike y [] = refl
  insert-alike y (z ∷ l) = rw (insert-alike y l)

  order_alike : (l : List Point) → in_order (with_labels p labels) l ≡ in_order p l
  order_alike [] = refl
  order_alike (y ∷ l) = insert-alike y (in_order (with_labels p labels) l) ∙ ap (insert p y) (order_alike l)

  places-alike : unlabelled_places (with_labels p labels) ≡ unlabelled_places p
  unfolding unlabelled_places
  places-alike =
      filter_cong on_simplices (sublists (in_order (with_labels p labels) (points p.grid))) (λ s m. place-alike s)
      ∙ ap (λ (l : List Point). filter (is_unlabelled_place p) (sublists l)) (order_alike (points p.grid))

  move_alike : (a b : Simplex) → is_move (with_labels p labels) a b ≡ is_move p a b
  unfolding is_move
  move_alike a b = rw (place-alike b, change-alike a b)

  record_alike : (a b : Simplex) → record_of (with_labels p labels) a b ≡ record_of p a b
  unfolding record_of
  record_alike a b = ap (λ (c : Change). encoded (fields c)) (change-alike a b)

  read_alike : (a : Simplex) (bytes : List ℕ) → read_on (with_labels p labels) a bytes ≡ read_on p a bytes
  unfolding read_on
  read_alike a bytes =
      filter_cong on_simplices (unlabelled_places (with_labels p labels)) (λ b m. rw (move_alike a b, record_alike a b))
      ∙ ap (filter (λ b. is_move p a b && begins (record_of p a b) bytes)) places-alike

  from-alike : (n : ℕ) (a : Simplex) (bytes : List ℕ)
      → rebuilt_from (with_labels p labels) n a bytes ≡ rebuilt_from p n a bytes
  from-alike zero a bytes = refl
  from-alike (suc n) a bytes = ap (go_on _) (read_alike a bytes) ∙ go (read_on p a bytes) (λ b x. from-alike n b x)
    where
      go : (l : List Simplex)
          → ((b : Simplex) (x : List ℕ) → rebuilt_from (with_labels p labels) n b x ≡ rebuilt_from p n b x)
          → go_on
          (λ b. rebuilt_from (with_labels p labels) n b (drop (length (record_of (with_labels p labels) a b)) bytes))
          l
          ≡ go_on (λ b. rebuilt_from p n b (drop (length (record_of p a b)) bytes)) l
      go [] k = refl
      go (b ∷ l) k = k b (drop (length (record_of (with_labels p labels) a b)) bytes)
          ∙ ap (λ (r : List ℕ). rebuilt_from p n b (drop (length r) bytes)) (record_alike a b)

  pub without_labels : (bytes : List ℕ) (number : ℕ)
      → rebuilt (with_labels p labels) bytes number ≡ rebuilt p bytes number
  unfolding rebuilt start_record
  without_labels bytes zero = refl
  without_labels bytes (suc n) = rw (from-alike n (p.start ∷ []) (drop (length (start_record p)) bytes))
