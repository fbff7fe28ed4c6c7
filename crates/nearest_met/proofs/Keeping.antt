-- What is kept of the vertices met so far, and what one vertex more changes. Assumes nothing.
use mathlib.Core.Bool.{Bool, true, false, cond}
use mathlib.Core.List.{List, [], ◌∷◌, ◌++◌, append-nil, map}
use mathlib.Core.Logic.{⊎_elim}
use mathlib.Core.Path.{◌≡◌, refl, sym, ap, ◌∙◌, subst}
use Prim.Native.Nat.{ℕ, ◌+◌, ◌*◌, ◌<◌, ◌≤◌}
use borrow.Author.Tests.{le-leb, le-ltb, leb-true, lt-ltb}
use lib.Dec.{eqb, leb, ltb}
use lib.ListN.{get_or-replicate, length, length-append, length-map, length-replicate, length-set, replicate, set}
use lib.Seq.{get_or-set_other, get_or-set_same}
use native.Mathlib.Nat.{mul-le-mul}
use native.Mathlib.Omega.{arith}
use Rattle.combinatorics.proofs.Basics.{absurd_bool, before_or_not, both, false_of, same_or, true_or_false}
use Rattle.combinatorics.proofs.Fronts.{front_length, front-none, front_put}
use Rattle.combinatorics.proofs.Lists.{append_in, distinct_append, distinct_filter, filter-append, filter_in}
use Rattle.combinatorics.proofs.Lists.{in_append_left, in_append_right, in_cases, in_here, in_map, map_in, on_numbers}
use Rattle.combinatorics.proofs.Lists.{pigeon}
use Rattle.combinatorics.proofs.Turns.{map-append}
use Rattle.combinatorics.specs.Front.{front}
use Rattle.combinatorics.specs.Lists.{distinct, filter, is_in}
use Rattle.grid_points.proofs.Accepted.{Accepted}
use Rattle.grid_points.proofs.Points.{in_points, on_points}
use Rattle.grid_points.specs.Grid.{Grid, Point, at, is_grid_point, num_blocks, num_points, points, position, same_point}
use Rattle.game_losses.proofs.Players.{divisions-few}
use Rattle.positions.proofs.ByTails.{position-tells}
use Rattle.positions.proofs.Positions.{position-below}
use Rattle.nearest_visited.proofs.Distances.{distances}
use Rattle.nearest_visited.proofs.Nearest.{first-least, has-least, less_behind, more_behind, only-least}
use Rattle.nearest_visited.specs.Distance.{all_divisions, distance}
use Rattle.nearest_visited.specs.Nearest.{first_least}
use Rattle.nearest_met.specs.Meeting.{Kept, listed_in, noted}
use Rattle.nearest_met.specs.declared.Tally.{Tally}

module _ (g : Grid) (a : Accepted g) (w : Point) (on_w : is_grid_point g w ≡ true) (given : ℕ) (old : List ℕ)
    (room : num_points g ≤ length old) where
  abbrev near : Point → Bool
  near y = leb (distance g w y) given

  -- before the first vertex
  pub kept-none : Kept g w given old [] (replicate 60000 0) old
      (record { nearest = 0; least = 18446744073709551615; listed = 0 })
  kept-none = record {
    long = length-replicate {A = ℕ} 60000 0;
    marks = λ i l. get_or-replicate 60000 i 0 0 l;
    listed = refl;
    written = sym (front-none old);
    none = λ e. refl;
    nearest = λ l. absurd (omega arith);
    least = λ l. absurd (omega arith);
  }

  -- every distance is below the one that no vertex has
  far : (y : Point) → is_grid_point g y ≡ true → distance g w y < 18446744073709551615
  far y on_y =
      let m : 2 * num_blocks g * all_divisions g ≤ 12 * 60000 =
      mul-le-mul {n₁ = 2 * num_blocks g} {n₂ = 12} (omega (arith, a.few_blocks)) (divisions-few g a) in
      omega (arith, (distances g a).most w y on_w on_y)

  module _ {l : List Point} {seen list : List ℕ} {t : Tally} (K : Kept g w given old l seen list t)
      (on : (y : Point) → is_in same_point y l ≡ true → is_grid_point g y ≡ true) (y : Point)
      (on_y : is_grid_point g y ≡ true) where
    abbrev q : ℕ
    q = position g y

    pub low : position g y < 60000
    low = omega (arith, position-below g y a.same_number on_y, a.few_points)

    place_of : is_in eqb (position g y) (map (position g) l) ≡ true → is_in same_point y l ≡ true
    place_of m =
        let i = map_in on_points on_numbers (position g) (position g y) l m in
        rw (position-tells g a y i.0 on_y (on i.0 i.1) i.2) i.1

    -- the byte of a vertex tells whether it was met before
    pub seen-new : is_in same_point y l ≡ false → at seen (position g y) ≡ 0
    seen-new n =
        K.marks q low ∙ rw (false_of (is_in eqb q (map (position g) l)) (λ m. absurd_bool (sym (place_of m) ∙ n)))

    pub seen-old : is_in same_point y l ≡ true → at seen (position g y) ≡ 1
    seen-old m = K.marks q low ∙ rw (in_map on_points on_numbers (position g) y l m)

    module _ (new : is_in same_point y l ≡ false) (once : distinct same_point l ≡ true) where
      more_once : distinct same_point (l ++ (y ∷ [])) ≡ true
      more_once = distinct_append on_points l (y ∷ []) once refl (λ z m n.
          ⊎_elim (λ e. absurd_bool (sym (rw e at m) ∙ new)) (λ k. absurd_bool (sym k)) (in_cases on_points z y [] n))

      more_on : (z : Point) → is_in same_point z (l ++ (y ∷ [])) ≡ true → is_grid_point g z ≡ true
      more_on z m = ⊎_elim (on z)
          (λ n. ⊎_elim (λ e. rw e on_y) (λ k. absurd_bool (sym k)) (in_cases on_points z y [] n))
          (append_in on_points z l (y ∷ []) m)

      -- the list has room for it
      pub room_for : distance g w y ≤ given → t.listed < length list
      room_for c =
          let e : filter near (l ++ (y ∷ [])) ≡ filter near l ++ (y ∷ []) = filter-append near l (y ∷ [])
          ∙ ap (λ (x : List Point). filter near l ++ x) (rw (le-leb (distance g w y) given c)) in
          let few : length (filter near (l ++ (y ∷ []))) ≤ num_points g = pigeon on_points (filter near (l ++ (y ∷ [])))
          (points g) (distinct_filter on_points near (l ++ (y ∷ [])) more_once)
          (λ z m. in_points g z a.same_number (more_on z (filter_in on_points near z (l ++ (y ∷ [])) m).0)) in
          let k : length (filter near l) + 1 ≤ num_points g =
          omega (arith, ap length e, length-append (filter near l) (y ∷ [])) in
          rw (
            K.written,
            front_length (map (position g) (filter near l)) old
                (rw (length-map (filter near l) (position g)) (omega arith)),
          ) (omega (arith, K.listed))

      marks_more : (i : ℕ) → i < 60000 → at (set seen q 1) i ≡ cond (is_in eqb i (map (position g) (l ++ (y ∷ [])))) 1 0
      marks_more i c = rw (map-append (position g) l (y ∷ [])) (⊎_elim
          (λ (e : i ≡ q). rw e
          (get_or-set_same seen q 1 0 (omega (arith, K.long, low))
          ∙ rw (in_append_right on_numbers q (map (position g) l) (q ∷ []) (in_here on_numbers q []))))
          (λ n. get_or-set_other seen q i 1 0 n
          ∙ K.marks i c
          ∙ ap (λ (b : Bool). cond b 1 0)
          (both (is_in eqb i (map (position g) l)) (is_in eqb i (map (position g) l ++ (q ∷ [])))
          (in_append_left on_numbers i (map (position g) l) (q ∷ []))
          (λ m. ⊎_elim
          (λ k. k)
          (λ k. ⊎_elim (λ e. absurd (n e)) (λ x. absurd_bool (sym x)) (in_cases on_numbers i q [] k))
          (append_in on_numbers i (map (position g) l) (q ∷ []) m))))
          (same_or i q))

      -- with it within the given distance, or not
      listed_more : (near y ≡ true → (t.listed + 1 ≡ length (filter near (l ++ (y ∷ []))))
          × (set list t.listed q ≡ front (map (position g) (filter near (l ++ (y ∷ [])))) old))
      listed_more c =
          let new-list : List ℕ = map (position g) (filter near l) in
          let e : filter near (l ++ (y ∷ [])) ≡ filter near l ++ (y ∷ []) =
          filter-append near l (y ∷ []) ∙ ap (λ (x : List Point). filter near l ++ x) (rw c) in
          let n : t.listed ≡ length new-list = K.listed ∙ sym (length-map (filter near l) (position g)) in
          let r : t.listed < length old = subst (λ (x : ℕ). t.listed < x)
          (ap length K.written ∙ front_length new-list old (fits (leb-true (distance g w y) given c)))
          (room_for (leb-true (distance g w y) given c)) in
          rw e (
            omega (arith, K.listed, length-append (filter near l) (y ∷ [])),
            rw (K.written, map-append (position g) (filter near l) (y ∷ []))
                (front_put new-list old t.listed q n r),
          )
        where
          fits : distance g w y ≤ given → length (map (position g) (filter near l)) ≤ length old
          fits c =
              let few : length (filter near l) ≤ num_points g =
              pigeon on_points (filter near l) (points g) (distinct_filter on_points near l once)
              (λ z m. in_points g z a.same_number (on z (filter_in on_points near z l m).0)) in
              rw (length-map (filter near l) (position g)) (omega arith)

      listed_same : near y ≡ false → filter near (l ++ (y ∷ [])) ≡ filter near l
      listed_same c = filter-append near l (y ∷ [])
          ∙ ap (λ (x : List Point). filter near l ++ x) (rw c)
          ∙ append-nil (filter near l)

      least_more : (cond (ltb (distance g w y) t.least) q t.nearest
          ≡ position g (first_least (distance g w) (l ++ (y ∷ []))))
          × (cond (ltb (distance g w y) t.least) (distance g w y) t.least
          ≡ distance g w (first_least (distance g w) (l ++ (y ∷ []))))
      least_more = ⊎_elim some (λ (e : length l ≤ 0). only l e (K.none (omega arith))) (before_or_not 0 (length l))
        where
          only : (l : List Point) → length l ≤ 0 → t.least ≡ 18446744073709551615
              → (cond (ltb (distance g w y) t.least) q t.nearest
              ≡ position g (first_least (distance g w) (l ++ (y ∷ []))))
              × (cond (ltb (distance g w y) t.least) (distance g w y) t.least
              ≡ distance g w (first_least (distance g w) (l ++ (y ∷ []))))
          only (x ∷ l) e m = absurd (omega arith)
          only [] e m =
              let c : distance g w y < t.least = omega (arith, far y on_y) in
              let z = first-least (distance g w) (only-least (distance g w) y) in
              rw (lt-ltb (distance g w y) t.least c, z) (refl, refl)

          some : 0 < length l
              → (cond (ltb (distance g w y) t.least) q t.nearest
              ≡ position g (first_least (distance g w) (l ++ (y ∷ []))))
              × (cond (ltb (distance g w y) t.least) (distance g w y) t.least
              ≡ distance g w (first_least (distance g w) (l ++ (y ∷ []))))
          some h =
              let F = has-least (distance g w) l h in
              ⊎_elim
              (λ (c : distance g w y < t.least).
              let z = first-least (distance g w) (less_behind (distance g w) F y (omega (arith, K.least h))) in
              rw (lt-ltb (distance g w y) t.least c, z) (refl, refl))
              (λ (c : t.least ≤ distance g w y).
              let z = first-least (distance g w) (more_behind (distance g w) F y (omega (arith, K.least h))) in
              rw (le-ltb (distance g w y) t.least c, z) (K.nearest h, K.least h))
              (before_or_not (distance g w y) t.least)

      pub kept_more : Kept g w given old (l ++ (y ∷ [])) (set seen (position g y) 1)
          (listed_in given t.listed (position g y) (distance g w y) list)
          (noted given t (position g y) (distance g w y))
      kept_more = record {
        long = length-set seen q 1 ∙ K.long;
        marks = marks_more;
        listed =
            ⊎_elim (λ c. rw c (listed_more c).0) (λ c. rw (listed_same c, c) K.listed) (true_or_false (near y));
        written =
            ⊎_elim (λ c. rw c (listed_more c).1) (λ c. rw (listed_same c, c) K.written) (true_or_false (near y));
        none = λ e. absurd (omega (arith, length-append l (y ∷ [])));
        nearest = λ c. least_more.0;
        least = λ c. least_more.1;
      }
