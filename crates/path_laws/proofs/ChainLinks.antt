-- Links of places are links of the geometry, both ways. In order: lists that miss one element; exchanged places;
-- extended places; links. Assumes nothing.
use mathlib.Core.Bool.{Bool, true, false, ◌&&◌, ◌||◌, cond}
use mathlib.Core.List.{List, [], ◌∷◌, map}
use mathlib.Core.Logic.{inl, inr, ⊎_elim}
use mathlib.Core.Path.{◌≡◌, refl, sym, ap, ◌∙◌}
use Prim.Native.Nat.{ℕ, zero, suc, ◌<◌}
use borrow.Author.Tests.{eqb-true, eq-eqb}
use lib.Dec.{eqb, leb}
use lib.ListN.{length}
use native.Mathlib.Omega.{arith}
use Rattle.combinatorics.proofs.Lists.{filter_cong, in_cases, in_all, all_in, in_filter, filter_in, pigeon}
use Rattle.combinatorics.proofs.Lists.{distinct_filter, length-filter_le, same_sound, same_self, on_numbers, eqb_self}
use Rattle.combinatorics.proofs.Basics.{same_or, absurd_bool, and_both, and_left, and_right, or_left, or_right}
use Rattle.combinatorics.proofs.Basics.{or_cases, false_of, both}
use Rattle.combinatorics.proofs.Ranges.{up_from_in}
use Rattle.combinatorics.specs.Lists.{is_in, all, filter, distinct, same}
use Rattle.geometry.proofs.Graph.{same-T, from-same}
use Rattle.geometry.proofs.LabelledChains.{list_at, LabelledChain, Swapped, Extended, Joined, Link}
use Rattle.geometry.proofs.Points.{nth, list_at-map}
use Rattle.grid_points.proofs.Points.{on_points}
use Rattle.grid_points.specs.Grid.{Point, same_point, at, indices, is_grid_point, num_indices}
use Rattle.place.specs.Links.{shared, exchanged, extended, linked}
use Rattle.place.specs.Places.{Simplex, is_place, set_t, label_set, within, order, all_labelled}
use Rattle.place.specs.Problem.{Problem, label}
use Rattle.path_laws.proofs.ToChain.{in_t_agrees, in_t, coefficients_of, points_of, label_of, grid-at, in_labels}
use Rattle.path_laws.proofs.ToChain.{labels_in, labels-below, place-long, labelled_chain_of}
use Rattle.path_laws.proofs.FromChain.{back-again, place_of}
use Rattle.path_laws.proofs.Meaning.{T_means}
use Rattle.path_laws.proofs.LinkSymmetry.{parts, place-distinct}
use Rattle.path_laws.proofs.Positions.{set_of_lem, at_in, in_at, same_at}
use Rattle.path_laws.proofs.BlocksOfGrid.{blocks_of, point_of, coefficient_of, point_coefficient_of}
use Rattle.path_laws.specs.Demand.{HasStart}

-- a filter that leaves one out
module _ (q : Point → Bool) where
  all_held : (xs : List Point) → length (filter q xs) ≡ length xs → (j : ℕ) → j < length xs → q (nth xs j) ≡ true
  all_held [] e j l = absurd (omega arith)
  all_held (x ∷ xs) e j l = go (q x) refl e j l (all_held xs)
    where
      go : (b : Bool) → q x ≡ b → length (cond b (x ∷ filter q xs) (filter q xs)) ≡ suc (length xs) → (j : ℕ)
          → j < suc (length xs) → (length (filter q xs) ≡ length xs → (j : ℕ) → j < length xs → q (nth xs j) ≡ true)
          → q (nth (x ∷ xs) j) ≡ true
      go true w e zero l r = w
      go true w e (suc j) l r = r (omega arith) j (omega arith)
      go false w e j l r = absurd (omega (arith, length-filter_le q xs))

  pub one_missing : (xs : List Point) → length xs ≡ suc (length (filter q xs))
      → (i : ℕ) × (i < length xs) × (q (nth xs i) ≡ false)
      × ((j : ℕ) → j < length xs → (j ≡ i → ⊥) → q (nth xs j) ≡ true)
  one_missing [] e = absurd (omega arith)
  one_missing (x ∷ xs) e = go (q x) refl e (one_missing xs)
    where
      go : (b : Bool) → q x ≡ b → suc (length xs) ≡ suc (length (cond b (x ∷ filter q xs) (filter q xs)))
          → (length xs ≡ suc (length (filter q xs))
          → (i : ℕ) × (i < length xs) × (q (nth xs i) ≡ false)
          × ((j : ℕ) → j < length xs → (j ≡ i → ⊥) → q (nth xs j) ≡ true))
          → (i : ℕ) × (i < suc (length xs)) × (q (nth (x ∷ xs) i) ≡ false)
          × ((j : ℕ) → j < suc (length xs) → (j ≡ i → ⊥) → q (nth (x ∷ xs) j) ≡ true)
      go true w e r = let i = r (omega arith) in (suc i.0, omega (arith, i.1), i.2, rest i)
        where
          rest : (i : (i : ℕ) × (i < length xs) × (q (nth xs i) ≡ false)
              × ((j : ℕ) → j < length xs → (j ≡ i → ⊥) → q (nth xs j) ≡ true))
              (j : ℕ)
              → j < suc (length xs) → (j ≡ suc i.0 → ⊥)
              → q (nth (x ∷ xs) j) ≡ true
          rest i zero l n = w
          rest i (suc j) l n = i.3 j (omega arith) (λ z. n (ap suc z))
      go false w e r = (0, omega arith, w, rest)
        where
          rest : (j : ℕ) → j < suc (length xs) → (j ≡ 0 → ⊥) → q (nth (x ∷ xs) j) ≡ true
          rest zero l n = absurd (n refl)
          rest (suc j) l n = all_held xs (omega arith) j (omega arith)

  held_all : (xs : List Point) → ((j : ℕ) → j < length xs → q (nth xs j) ≡ true) → length (filter q xs) ≡ length xs
  held_all [] h = refl
  held_all (x ∷ xs) h = rw (h 0 (omega arith)) (ap suc (held_all xs (λ j l. h (suc j) (omega arith))))

  pub missing_one : (xs : List Point) (i : ℕ) → i < length xs → q (nth xs i) ≡ false
      → ((j : ℕ) → j < length xs → (j ≡ i → ⊥) → q (nth xs j) ≡ true)
      → length xs ≡ suc (length (filter q xs))
  missing_one [] i l e h = absurd (omega arith)
  missing_one (x ∷ xs) zero l e h =
      rw e (ap suc (sym (held_all xs (λ j m. h (suc j) (omega arith) (λ z. omega arith)))))
  missing_one (x ∷ xs) (suc i) l e h = rw (h 0 (omega arith) (λ z. omega arith))
      (ap suc (missing_one xs i (omega arith) e (λ j m n. h (suc j) (omega arith) (λ z. n (omega arith)))))

module _ {p : Problem} (ok : HasStart p) (a b : Simplex) (ha : is_place p a ≡ true) (hb : is_place p b ≡ true) where
  -- points and coefficients are the same together
  to-list : (j f : ℕ) → j < length a → f < length b → nth b f ≡ nth a j
      → list_at (coefficients_of p b) f ≡ list_at (coefficients_of p a) j
  to-list j f l m e = list_at-map _ b f m ∙ ap (coefficient_of p) e ∙ sym (list_at-map _ a j l)

  of_list : (j f : ℕ) → j < length a → f < length b → list_at (coefficients_of p b) f ≡ list_at (coefficients_of p a) j
      → nth b f ≡ nth a j
  of_list j f l m e =
      sym (point_coefficient_of ok (nth b f) (grid-at ok b (parts p b hb).grid_points f m))
      ∙ ap (point_of p) (sym (list_at-map _ b f m) ∙ e ∙ list_at-map _ a j l)
      ∙ point_coefficient_of ok (nth a j) (grid-at ok a (parts p a ha).grid_points j l)

  abbrev ta : ℕ
  ta = length (order p.grid a)

  abbrev tb : ℕ
  tb = length (order p.grid b)

  la : length a ≡ suc ta
  la = place-long ok a ha

  lb : length b ≡ suc tb
  lb = place-long ok b hb

  pub exchanged_swapped : exchanged p a b ≡ true
      → Swapped (label_of p) (in_t p a) ta (coefficients_of p a) (in_t p b) tb (coefficients_of p b)
  unfolding exchanged
  exchanged_swapped e =
      let s = shared a b in
      let e1 : Bool = eqb (length a) (suc (length s)) in
      let e2 : Bool = eqb (length b) (suc (length s)) in
      let e3 : Bool = same eqb (set_t p a) (set_t p b) in
      let e4 : Bool = within (set_t p a) (label_set p s) in
      let f3 : (e1 && e2 && e3) ≡ true = and_left (e1 && e2 && e3) e4 e in
      let f2 : (e1 && e2) ≡ true = and_left (e1 && e2) e3 f3 in
      let ts : set_t p a ≡ set_t p b = same_sound eqb eqb-true (set_t p a) (set_t p b) (and_right (e1 && e2) e3 f3) in
      go ts (eqb-true _ _ (and_left e1 e2 f2)) (eqb-true _ _ (and_right e1 e2 f2)) (and_right (e1 && e2 && e3) e4 e)
    where
      go : set_t p a ≡ set_t p b → length a ≡ suc (length (shared a b)) → length b ≡ suc (length (shared a b))
          → within (set_t p a) (label_set p (shared a b)) ≡ true
          → Swapped (label_of p) (in_t p a) ta (coefficients_of p a) (in_t p b) tb (coefficients_of p b)
      go ts x y w = record {
        same_t = ap (λ (u : List ℕ). (λ (k : ℕ). is_in eqb k u)) (sym ts);
        sizes = omega (arith, x, y, la, lb);
        i = A.0;
        i' = B.0;
        i_bound = omega (arith, A.1, la);
        i'_bound = omega (arith, B.1, lb, la, x, y);
        shared = λ j l n.
            let jl : j < length a = omega (arith, la) in
            let m = in_at on_points [] (nth a j) b (A.3 j jl n) in (
              m.0,
              omega (arith, m.1, lb, la, x, y),
              (λ z. absurd_bool (sym (rw (sym m.2 ∙ ap (nth b) z) at (at_in on_points [] a j jl)) ∙ B.2)),
              to-list j m.0 jl m.1 m.2,
            );
        new = λ z. absurd_bool (sym (rw (of_list A.0 B.0 A.1 B.1 z) (at_in on_points [] a A.0 A.1)) ∙ B.2);
        carry = λ k t.
            let sg : all (is_grid_point p.grid) (shared a b) ≡ true = in_all on_points (is_grid_point p.grid) (shared a b)
            (λ z m. all_in on_points (is_grid_point p.grid) a (parts p a ha).grid_points z
            (filter_in on_points (λ y. is_in same_point y b) z a m).0) in
            let c = labels_in ok (shared a b) sg k
            (all_in on_numbers (λ h. is_in eqb h (label_set p (shared a b))) (set_t p a) w k t) in
            let m = filter_in on_points (λ y. is_in same_point y b) (nth (shared a b) c.0) a
            (at_in on_points [] (shared a b) c.0 c.1) in
            let f = in_at on_points [] (nth (shared a b) c.0) a m.0 in (
              f.0,
              omega (arith, f.1, la),
              (λ z. absurd_bool (sym m.1 ∙ (rw (ap (nth a) (sym z) ∙ f.2) at A.2))),
              ap (label_of p)
                  (list_at-map (coefficient_of p) a f.0 f.1
                  ∙ ap (coefficient_of p) f.2
                  ∙ sym (list_at-map (coefficient_of p) (shared a b) c.0 c.1))
                  ∙ c.2,
            );
      }
        where
          A : (i : ℕ) × (i < length a) × (is_in same_point (nth a i) b ≡ false)
              × ((j : ℕ) → j < length a → (j ≡ i → ⊥) → is_in same_point (nth a j) b ≡ true)
          A = one_missing (λ u. is_in same_point u b) a x

          swap_le : length (shared b a) ≡ length (shared a b)
          swap_le = omega (
            arith,
            pigeon on_points (shared a b) (shared b a)
                (distinct_filter on_points (λ u. is_in same_point u b) a (place-distinct p a ha))
                (λ z m.
                let i = filter_in on_points (λ u. is_in same_point u b) z a m in
                in_filter on_points (λ u. is_in same_point u a) z b i.1 i.0),
            pigeon on_points (shared b a) (shared a b)
                (distinct_filter on_points (λ u. is_in same_point u a) b (place-distinct p b hb))
                (λ z m.
                let i = filter_in on_points (λ u. is_in same_point u a) z b m in
                in_filter on_points (λ u. is_in same_point u b) z a i.1 i.0),
          )

          B : (i : ℕ) × (i < length b) × (is_in same_point (nth b i) a ≡ false)
              × ((j : ℕ) → j < length b → (j ≡ i → ⊥) → is_in same_point (nth b j) a ≡ true)
          B = one_missing (λ u. is_in same_point u a) b (y ∙ ap suc (sym swap_le))

  swapped_exchanged : Swapped (label_of p) (in_t p a) ta (coefficients_of p a) (in_t p b) tb (coefficients_of p b)
      → exchanged p a b ≡ true
  unfolding exchanged
  swapped_exchanged W = and_both _ _
      (and_both _ _ (and_both _ _ (eq-eqb _ _ one-left-out) (eq-eqb _ _ (same_length ∙ one-left-out)))
      (rw sets (same_self eqb eqb_self (set_t p b))))
      (in_all on_numbers _ (set_t p a) (λ k m.
      let c = W.carry k m in
      let cl : c.0 < length a = omega (arith, c.1, la) in
      let f = W.shared c.0 c.1 c.2 in
      let fl : f.0 < length b = omega (arith, f.1, lb, W.sizes) in
      let inb : is_in same_point (nth a c.0) b ≡ true = rw (of_list c.0 f.0 cl fl f.3) at (at_in on_points [] b f.0 fl) in
      let ins : is_in same_point (nth a c.0) (shared a b) ≡ true =
      in_filter on_points _ (nth a c.0) a (at_in on_points [] a c.0 cl) inb in
      let sg : all (is_grid_point p.grid) (shared a b) ≡ true = in_all on_points _ (shared a b)
      (λ z m. all_in on_points _ a (parts p a ha).grid_points z (filter_in on_points _ z a m).0) in
      let g = in_at on_points [] (nth a c.0) (shared a b) ins in
      let e : label_of p (list_at (coefficients_of p (shared a b)) g.0) ≡ k =
      ap (label_of p) (list_at-map _ (shared a b) g.0 g.1 ∙ ap (coefficient_of p) g.2 ∙ sym (list_at-map _ a c.0 cl))
      ∙ c.3 in
      rw e at (in_labels ok (shared a b) sg g.0 g.1 (omega (arith, e, ((T_means p a k).0 m).0)))))
    where
      same_length : length b ≡ length a
      same_length = omega (arith, la, lb, W.sizes)

      sets : set_t p a ≡ set_t p b
      sets =
          in_t_agrees ok a ha ∙ ap (λ (T : ℕ → Bool). filter T (indices p.grid)) (sym W.same_t) ∙ sym (in_t_agrees ok b hb)

      il : W.i < length a
      il = omega (arith, W.i_bound, la)

      il' : W.i' < length b
      il' = omega (arith, W.i'_bound, lb, W.sizes)

      others : (j : ℕ) → j < length a → (j ≡ W.i → ⊥)
          → (f : ℕ) × (f < length b) × (f ≡ W.i' → ⊥) × (nth b f ≡ nth a j)
      others j l n =
          let f = W.shared j (omega (arith, la)) n in
          let fl : f.0 < length b = omega (arith, f.1, lb, W.sizes) in
          (f.0, fl, f.2, of_list j f.0 l fl f.3)

      new-out : is_in same_point (nth b W.i') a ≡ false
      new-out = false_of _ (λ m.
          let j = in_at on_points [] (nth b W.i') a m in
          ⊎_elim
          (λ (e : j.0 ≡ W.i). W.new (to-list W.i W.i' il il' (sym (ap (nth a) (sym e) ∙ j.2))))
          (λ n.
          let f = others j.0 j.1 n in
          f.2 (same_at on_points [] b (place-distinct p b hb) f.0 W.i' f.1 il' (f.3 ∙ j.2)))
          (same_or j.0 W.i))

      old-out : is_in same_point (nth a W.i) b ≡ false
      old-out = false_of _ (λ m.
          let d : distinct same_point (nth b W.i' ∷ a) ≡ true = rw new-out (place-distinct p a ha) in
          omega (
            arith,
            same_length,
            pigeon on_points (nth b W.i' ∷ a) b d (λ z k. ⊎_elim (λ e. rw e (at_in on_points [] b W.i' il')) (λ k.
                let j = in_at on_points [] z a k in
                ⊎_elim (λ (e : j.0 ≡ W.i). rw (ap (nth a) (sym e) ∙ j.2) at m)
                (λ n. let f = others j.0 j.1 n in rw (f.3 ∙ j.2) at (at_in on_points [] b f.0 f.1))
                (same_or j.0 W.i))
                (in_cases on_points z (nth b W.i') a k)),
          ))

      one-left-out : length a ≡ suc (length (shared a b))
      one-left-out =
          missing_one _ a W.i il old-out (λ j l n. let f = others j l n in rw f.3 at (at_in on_points [] b f.0 f.1))

  pub extended-to : all_labelled p a ≡ true → extended p a b ≡ true
      → Extended (label_of p) (in_t p a) ta (coefficients_of p a) (in_t p b) tb (coefficients_of p b)
  unfolding extended
  extended-to own e =
      let e1 : Bool = eqb (length b) (suc (length a)) in
      let e2 : Bool = all (λ y. is_in same_point y b) a in
      let e3 : Bool = same eqb (label_set p a) (set_t p b) in
      let f2 : (e1 && e2) ≡ true = and_left (e1 && e2) e3 e in
      let x : length b ≡ suc (length a) = eqb-true _ _ (and_left e1 e2 f2) in
      let ts : label_set p a ≡ set_t p b = same_sound eqb eqb-true _ (set_t p b) (and_right (e1 && e2) e3 e) in
      record {
        sizes = omega (arith, x, la, lb);
        part = λ j l.
            let jl : j < length a = omega (arith, la) in
            let m = in_at on_points [] (nth a j) b
            (all_in on_points _ a (and_right e1 e2 f2) (nth a j) (at_in on_points [] a j jl)) in
            (m.0, omega (arith, m.1, lb), to-list j m.0 jl m.1 m.2);
        covers = λ k t.
            let w = labels_in ok a (parts p a ha).grid_points k (rw ts t) in
            (w.0, omega (arith, w.1, la), w.2);
        inside = λ j l. rw ts at (in_labels ok a (parts p a ha).grid_points j (omega (arith, la))
            (labels-below ok a (parts p a ha).grid_points own j (omega (arith, la))));
      }

  extended_of : Extended (label_of p) (in_t p a) ta (coefficients_of p a) (in_t p b) tb (coefficients_of p b)
      → extended p a b ≡ true
  unfolding extended label_set
  extended_of E = and_both _ _
      (and_both _ _ (eq-eqb (length b) _ (omega (arith, E.sizes, la, lb)))
      (in_all on_points _ a (λ z m.
      let j = in_at on_points [] z a m in
      let f = E.part j.0 (omega (arith, j.1, la)) in
      let fl : f.0 < length b = omega (arith, f.1, lb) in
      rw (of_list j.0 f.0 j.1 fl f.2 ∙ j.2) at (at_in on_points [] b f.0 fl))))
      (rw sets (same_self eqb eqb_self (set_t p b)))
    where
      sets : label_set p a ≡ set_t p b
      sets = set_of_lem (λ h. is_in eqb (suc h) (map (label p) a)) (indices p.grid)
          ∙ filter_cong on_numbers (indices p.grid)
          (λ k m. both _ _
          (λ e.
          let w = labels_in ok a (parts p a ha).grid_points k e in
          rw w.2 at (E.inside w.0 (omega (arith, w.1, la))))
          (λ e.
          let w = E.covers k e in
          rw w.2 at (in_labels ok a (parts p a ha).grid_points w.0 (omega (arith, w.1, la))
          (omega (arith, w.2, (up_from_in 0 (num_indices p.grid) k m).1)))))
          ∙ sym (in_t_agrees ok b hb)

abbrev joined_of : Problem → Simplex → Simplex → Type 0
joined_of p a b = Joined (label_of p) (in_t p a) (length (order p.grid a)) (coefficients_of p a) (in_t p b)
    (length (order p.grid b)) (coefficients_of p b)

module _ {p : Problem} (ok : HasStart p) (a : Simplex) (ha : is_place p a ≡ true) where
  -- a link of places is one of the geometry
  pub link_of : all_labelled p a ≡ true → (b : Simplex) → is_place p b ≡ true → linked p a b ≡ true
      → Link (blocks_of p) (label_of p) (coefficients_of p a) (coefficients_of p b)
  unfolding linked extended
  link_of own b hb e = record {
    T = in_t p a;
    t = length (order p.grid a);
    o = at (order p.grid a);
    place = labelled_chain_of ok a ha;
    onto = (in_t p b, length (order p.grid b), at (order p.grid b), labelled_chain_of ok b hb, tie);
  }
    where
      q : Point → Bool
      q = λ y. leb 1 (label p y) && leb (label p y) (num_indices p.grid)

      part_labelled : extended p b a ≡ true → all_labelled p b ≡ true
      part_labelled x =
          let e1 : Bool = eqb (length a) (suc (length b)) in
          let e2 : Bool = all (λ y. is_in same_point y a) b in
          let e3 : Bool = same eqb (label_set p b) (set_t p a) in
          in_all on_points q b
          (λ y m. all_in on_points q a own y (all_in on_points _ b (and_right e1 e2 (and_left (e1 && e2) e3 x)) y m))

      tie : joined_of p a b
      tie = ⊎_elim
          (λ m. ⊎_elim (λ x. inl (exchanged_swapped ok a b ha hb x))
          (λ x. inr (inl (extended-to ok a b ha hb own x)))
          (or_cases _ _ m))
          (λ x. inr (inr (extended-to ok b a hb ha (part_labelled x) x))) (or_cases _ _ e)

  -- and what the geometry links is a place linked
  pub of_link : {x : List (ℕ → ℕ)} → Link (blocks_of p) (label_of p) (coefficients_of p a) x
      → (is_place p (points_of p x) ≡ true) × (linked p a (points_of p x) ≡ true) × (coefficients_of p (points_of p x) ≡ x)
  unfolding linked
  of_link {x} L = go (from-same (blocks_of p) (label_of p) (labelled_chain_of ok a ha) L)
    where
      tie_linked : (b : Simplex) → is_place p b ≡ true → joined_of p a b → linked p a b ≡ true
      tie_linked b hb w =
          let X : Bool = exchanged p a b in let Y : Bool = extended p a b in let Z : Bool = extended p b a in
          ⊎_elim (λ W. or_left (X || Y) Z (or_left X Y (swapped_exchanged ok a b ha hb W)))
          (λ v. ⊎_elim (λ E. or_left (X || Y) Z (or_right X Y (extended_of ok a b ha hb E)))
          (λ E. or_right (X || Y) Z (extended_of ok b a hb ha E)) v) w

      go : (T' : ℕ → Bool) × (t' : ℕ) × (o' : ℕ → ℕ) × LabelledChain (blocks_of p) (label_of p) T' t' o' x
          × Joined (label_of p) (in_t p a) (length (order p.grid a)) (coefficients_of p a) T' t' x
          → (is_place p (points_of p x) ≡ true) × (linked p a (points_of p x) ≡ true)
          × (coefficients_of p (points_of p x) ≡ x)
      go F =
          let b = points_of p x in
          let hb : is_place p b ≡ true = place_of ok F.3 in
          let q : coefficients_of p b ≡ x = back-again ok F.3 in
          let S : LabelledChain (blocks_of p) (label_of p) F.0 F.1 F.2 (coefficients_of p b) = rw q F.3 in
          let e = same-T (blocks_of p) (label_of p) (labelled_chain_of ok b hb) S in
          let w : Joined (label_of p) (in_t p a) (length (order p.grid a)) (coefficients_of p a) F.0 F.1
          (coefficients_of p b) =
          rw q F.4 in
          (hb, tie_linked b hb (rw e.1 at (rw e.0 at w)), q)
