-- The labels carried from a place to the next. In order: whether a point came in, by marks; the labels that the walk
-- carries; what is carried. Assumes nothing.
use mathlib.Core.Bool.{true, false, not, cond}
use mathlib.Core.List.{List, [], ◌∷◌, map}
use mathlib.Core.Logic.{⊎_elim}
use mathlib.Core.Path.{◌≡◌, refl, sym, ap, ◌∙◌}
use Prim.Native.Nat.{ℕ, suc, ◌≤◌, ◌<◌}
use lib.Dec.{eqb}
use lib.ListN.{length, get_or, take, length-map, length-take}
use lib.Seq.{get_or-take, length-take-le}
use native.Mathlib.Omega.{arith}
use Rattle.combinatorics.proofs.Basics.{and_left, and_right, true_or_false}
use Rattle.combinatorics.proofs.Lists.{all_in}
use Rattle.combinatorics.specs.Lists.{all, is_in, same}
use Rattle.combinatorics.specs.Front.{padded}
use Rattle.grid_points.proofs.Points.{in_points, on_points, position_in_lem}
use Rattle.grid_points.specs.Grid.{Point, at, is_grid_point, points, same_point}
use Rattle.grid.specs.Made.{IsMade, shape}
use Rattle.grid.specs.declared.Grid.{Grid as GridStruct}
use Rattle.place.specs.LabelsRead.{point_came_in}
use Rattle.place.specs.Places.{Simplex}
use Rattle.place.specs.Problem.{Problem, label}
use Rattle.path_laws.proofs.Positions.{at_in}
use Rattle.path_laws.specs.Demand.{Accepted}
use Rattle.walk_recogniser.specs.Pieces.{bare_mark}
use Rattle.rules.specs.Moves.{mark_position}
use Rattle.walks.specs.Walk.{labels_of}
use Rattle.walk_calls.specs.Moving.{CarriesTo, Completes}
use Rattle.walk_places.specs.Placing.{BothMarked, GoesTo}
use Rattle.walk_places.specs.declared.Both.{Both}
use Rattle.walk_labels.specs.Carrying.{CanCarry, CarriedOver, CarriesOver, label_at_mark}
use Rattle.walk_labels.specs.declared.Carried.{Carried}
use Rattle.walk_places.specs.Walks.{carried_of, place_of, table_on}
use Rattle.walk_places.specs.declared.Place.{Place}
use Rattle.walk_places.specs.declared.Walk.{Walk as WalkStruct}
use Rattle.walk_places.proofs.BothPlaced.{bare_in, bare-position, map_at, ok as accepted, on-here, on-there, passes}

module _ {p : Problem} (ok : Accepted p) where
  came_in_lem : (a b : Simplex) → all (is_grid_point p.grid) a ≡ true → all (is_grid_point p.grid) b ≡ true
      → not (all (λ m. is_in eqb m (map (bare_mark p.grid) a)) (map (bare_mark p.grid) b)) ≡ point_came_in a b
  came_in_lem a b on-a on-b = ap not (go b on-b)
    where
      go : (b : Simplex) → all (is_grid_point p.grid) b ≡ true
          → all (λ m. is_in eqb m (map (bare_mark p.grid) a)) (map (bare_mark p.grid) b) ≡ all (λ y. is_in same_point y a) b
      go [] on = refl
      go (y ∷ b) on = rw (
        bare_in ok y a (and_left (is_grid_point p.grid y) (all (is_grid_point p.grid) b) on) on-a,
        go b
            (and_right (is_grid_point p.grid y) (all (is_grid_point p.grid) b) on),
      )

module _ {g : GridStruct} {w : WalkStruct} {labels : List ℕ} {next : Place} (made : IsMade g)
    (G : GoesTo (shape g) w labels next) where
  abbrev p : Problem
  p = table_on g w labels

  abbrev here : Simplex
  here = place_of (shape g) w.present

  abbrev there : Simplex
  there = G.to

  abbrev ok : Accepted p
  ok = accepted made G

  label-bare : (table : List ℕ) (y : Point)
      → label_at_mark table (bare_mark (shape g) y) ≡ label (table_on g w table) y
  unfolding label
  label-bare table y = ap (λ (i : ℕ). get_or table i 0) (bare-position (shape g) y)

  -- the labels that the walk carries
  carried-at : (i : ℕ) → i < length here → at w.carried i ≡ label p (get_or here i [])
  unfolding carried_of
  carried-at i l = go (passes made G).0.stands.carries
    where
      go : cond (same eqb w.carried (padded 16 (take w.present.count w.carried)))
          (take w.present.count w.carried) [] ≡ labels_of p here
          → at w.carried i ≡ label p (get_or here i [])
      go e =
          ⊎_elim (λ t. let a : take w.present.count w.carried ≡ labels_of p here = rw t at e in
          let m : i < w.present.count = omega (
            arith,
            ap length a,
            length-map here (label p),
            length-take
                w.present.count w.carried,
          ) in
          sym (get_or-take w.present.count w.carried i 0 m) ∙ ap (λ (r : List ℕ). at r i) a ∙ map_at (label p)
          here i l)
          (λ f. let a : [] ≡ labels_of p here = rw f at e in
          absurd (omega (arith, ap length a, length-map here (label p))))
          (true_or_false (same eqb w.carried (padded 16 (take w.present.count w.carried))))

  -- so the lent table itself has them
  pub lent_completes : Completes g w labels there labels
  lent_completes = record { carried = carried-at; comes_in = λ y h e. refl }

  module _ {b : Both} (M : BothMarked p here there b) where
    long-here : length here ≡ suc b.n
    long-here = sym (length-map here (bare_mark (shape g))) ∙ sym (ap length M.from) ∙ length-take-le (suc b.n)
        b.from (omega (arith, M.from_long, M.few))

    long-there : length there ≡ suc b.k
    long-there = sym (length-map there (bare_mark (shape g))) ∙ sym (ap length M.onto) ∙ length-take-le (suc b.k)
        b.onto (omega (arith, M.onto_long, M.few_next))

    from_at : (i : ℕ) → i ≤ b.n → at b.from i ≡ bare_mark (shape g) (get_or here i [])
    from_at i l = sym (get_or-take (suc b.n) b.from i 0 (omega arith)) ∙ ap (λ (r : List ℕ). at r i) M.from ∙ map_at
        (bare_mark (shape g)) here i (omega (arith, long-here))

    onto-at : (j : ℕ) → j ≤ b.k → at b.onto j ≡ bare_mark (shape g) (get_or there j [])
    onto-at j l = sym (get_or-take (suc b.k) b.onto j 0 (omega arith)) ∙ ap (λ (r : List ℕ). at r j) M.onto ∙ map_at
        (bare_mark (shape g)) there j (omega (arith, long-there))

    on-next : (j : ℕ) → j ≤ b.k → (is_in same_point (get_or there j []) there ≡ true)
        × (is_grid_point (shape g) (get_or there j []) ≡ true)
    on-next j l =
        let m = at_in on_points [] there j (omega (arith, long-there)) in
        (m, all_in on_points (is_grid_point (shape g)) there (on-there made G) (get_or there j []) m)

    pub can-carry : CanCarry b.from b.n b.onto b.k labels
    can-carry = record {
      few = M.few;
      long = M.from_long;
      few_next = M.few_next;
      next_long = M.onto_long;
      within = λ j l. let y = get_or there j [] in
          let on = (on-next j l).1 in
          omega (
            arith,
            ap mark_position (onto-at j l) ∙ bare-position (shape g) y,
            position_in_lem (points (shape g)) y (in_points (shape g) y ok.has_start.same_number on),
            ok.table_length,
          );
    }

    module _ (full : List ℕ) (F : Completes g w labels there full) where
      carries_over : CarriesOver b.from b.n w.carried b.onto b.k labels full
      carries_over = record {
        carries = λ i l. F.carried i (omega (arith, long-here)) ∙ sym
            (ap (label_at_mark full) (from_at i l) ∙ label-bare full (get_or here i []));
        comes_in = λ j l e.
            let y = get_or there j [] in
            let o = on-next j l in
            let new : is_in same_point y here ≡ false =
            sym (bare_in ok y here o.1 (on-here made G)) ∙ (rw (onto-at j l, M.from) at e) in
            rw (onto-at j l, label-bare labels y, label-bare full y) (F.comes_in y o.0 new);
      }

      pub carries-to : (r : Carried) → CarriedOver b.from b.n w.carried b.onto b.k labels r
          → CarriesTo (table_on g w full) here there r
      carries-to r given = let C = given full carries_over in record {
        labels = C.labels ∙ ap (padded 16) (rw M.onto (go there));
        came_in = C.came_in ∙ rw (M.from, M.onto) (came_in_lem ok here there (on-here made G) (on-there made G));
      }
        where
          go : (s : Simplex) → map (label_at_mark full) (map (bare_mark (shape g)) s) ≡ labels_of (table_on g w full) s
          go [] = refl
          go (x ∷ s) = rw (label-bare full x, go s)
