-- From a place that is kept rightly to one that is recognised, with its spare point. In order: what is asked; labels; T
-- among the labels; the spare point. Assumes nothing.
use mathlib.Core.Bool.{true, false, ◌&&◌, cond}
use mathlib.Core.List.{List, [], ◌∷◌, map}
use mathlib.Core.Logic.{⊎_elim}
use mathlib.Core.Path.{◌≡◌, refl, sym, ap, ◌∙◌, subst}
use Prim.Native.Nat.{ℕ, zero, suc, ◌+◌, ◌≤◌, ◌<◌}
use borrow.Author.Tests.{eqb-true, ltb-true}
use lib.Dec.{eqb, ltb}
use lib.ListN.{length, get_or, take, length-map, length-take}
use lib.Seq.{ext_get_or, get_or-take, length-take-le}
use native.Mathlib.Omega.{arith}
use Rattle.combinatorics.proofs.Basics.{absurd_bool, and_both, and_right, before_or_not, both, false_of}
use Rattle.combinatorics.proofs.Basics.{true_or_false}
use Rattle.combinatorics.proofs.Lists.{all_in, eqb_self, in_all, on_numbers, same_self, same_sound}
use Rattle.combinatorics.specs.Lists.{is_in, same}
use Rattle.combinatorics.specs.Front.{padded}
use Rattle.grid.proofs.Fields.{made-accepted}
use Rattle.grid_points.proofs.Points.{on_points}
use Rattle.grid_points.specs.Grid.{Point, is_grid_point, num_indices, position}
use Rattle.grid.specs.Made.{shape}
use Rattle.grid.specs.declared.Grid.{Grid as GridStruct}
use Rattle.arrays.specs.declared.holding.Held.{Held}
use Rattle.moves.specs.declared.Status.{Status}
use Rattle.place.specs.Places.{Simplex, is_place, label_set, within}
use Rattle.place.specs.Problem.{Problem, label}
use Rattle.path_laws.proofs.Accepted.{accepted_of, accepted-table}
use Rattle.path_laws.proofs.Labels.{label-within}
use Rattle.path_laws.proofs.Meaning.{labels_mean}
use Rattle.path_laws.proofs.Positions.{at_in, in_at}
use Rattle.path_laws.specs.Demand.{Accepted}
use Rattle.rules.proofs.SameMasks.{same_mask}
use Rattle.rules.proofs.Marks.{label_in_lem, labels_in}
use Rattle.rules.specs.Mask.{bit}
use Rattle.rules.specs.Read.{mark_of}
use Rattle.rules.specs.Moves.{mark_label}
use Rattle.walks.proofs.KeptPlace.{conditions_of, points-long}
use Rattle.walks.proofs.Recognised.{recognised}
use Rattle.walks.specs.Kept.{is_kept, kept_points}
use Rattle.walks.specs.Next.{next_of, refused}
use Rattle.walks.specs.Walk.{labels_of}
use Rattle.walk_ways.proofs.ComesNext.{no_place, not_carried}
use Rattle.walk_ways.proofs.Unknown.{some-spare}
use Rattle.walk_labels.specs.Carrying.{labels_in_marks}
use Rattle.walk_ways.specs.Spare.{Spare, again, outside, unknown}
use Rattle.walk_recogniser.specs.Kept.{Seen}
use Rattle.walk_places.proofs.Placed.{kept-on-grid, kept-position}
use Rattle.walk_next.specs.Choosing.{CanChoose}
use Rattle.walk_next.specs.Standing.{CanStand}
use Rattle.walk_places.specs.Placing.{CanSee}
use Rattle.walk_places.proofs.Held.{padded_taken}
use Rattle.walk_next.specs.Spares.{LabelsLow, NotNew, SparesOf, again as seen_again, label_at}
use Rattle.walk_next.specs.Spares.{outside as seen_outside, unknown as unseen}
use Rattle.walk_ways.specs.Standing.{Standing, points_kept}
use Rattle.walk_places.specs.Walks.{carried_of, place_of, table_on, walk_on}
use Rattle.walk_next.specs.declared.Spared.{Spared}
use Rattle.walk_places.specs.declared.Walk.{Walk as WalkStruct}

module _ {g : GridStruct} {w : WalkStruct} {labels : List ℕ} {n : ℕ} (C : CanSee g w labels n) where
  abbrev p : Problem
  p = table_on g w labels

  pub ok : Accepted p
  ok = accepted_of p C.asked

  module _ (held : Held) where
    abbrev y : Point
    y = take g.indices held.first

    abbrev o : List ℕ
    o = take n held.order

    abbrev s : Simplex
    s = kept_points (shape g) y o

    long-o : length o ≡ n
    long-o = length-take n held.order ∙ omega (arith, held.order_long, C.few)

    pub not_kept_place : is_kept p y o ≡ false → is_place p s ≡ false
    not_kept_place f = recognised ok.has_start y o ∙ (rw f)

    module _ {t u : ℕ} (S : Seen p (mark_of p) y o held t u) where
      -- the points are on the grid, and their labels stand in the marks
      on-grid : (j : ℕ) → j ≤ n → is_grid_point (shape g) (get_or s j []) ≡ true
      on-grid j l = kept-on-grid C held S.kept j l

      label-few : (j : ℕ) → j ≤ n → label p (get_or s j []) ≤ 16
      label-few j l =
          omega (arith, label-within (accepted-table ok) (get_or s j []) (on-grid j l), ok.has_start.sixteen_indices)

      pub label_is : (j : ℕ) → j ≤ n → label_at held.marks j ≡ label p (get_or s j [])
      label_is j l = ap mark_label (S.marked j (omega (arith, long-o)))
          ∙ label_in_lem (position (shape g) (get_or s j [])) (label p (get_or s j [])) (omega (arith, label-few j l))

      pub labels-low : LabelsLow held.marks n
      labels-low j l = omega (arith, label_is j l, label-few j l)

      -- T is among the labels exactly if all of it is seen
      module _ {r : Spared} (P : SparesOf held.marks n t r) where
        seen_in : (k : ℕ) → k < 16 → bit r.seen k ≡ true → is_in eqb k (label_set p s) ≡ true
        seen_in k l b =
            let v = P.known k l b in
            let jl : v.1.0 ≤ n = omega (arith, v.1.1) in
            let e = sym (label_is v.1.0 jl) ∙ v.1.2 in
            (labels_mean p s k).1 (
              omega (arith, e, label-within (accepted-table ok) (get_or s v.1.0 []) (on-grid v.1.0 jl)),
              (
                get_or s v.1.0 [],
                at_in on_points [] s v.1.0
                    (omega (arith, points-long ok.has_start y o (conditions_of p y o S.kept), long-o)),
                e,
              ),
            )

        below : (k : ℕ) → is_in eqb k o ≡ true → k < 16
        below k m = let b = (conditions_of p y o S.kept).below in
            omega (
              arith,
              ltb-true k (num_indices (shape g))
                  (all_in on_numbers (λ h. ltb h (num_indices (shape g))) o b k m),
              ok.has_start.sixteen_indices,
            )

        pub all_seen : r.seen ≡ t → is_place p s ≡ true
        all_seen e = recognised ok.has_start y o ∙ and_both _ _ S.kept
            (in_all on_numbers _ o (λ k m.
            seen_in k (below k m) (ap (λ (x : ℕ). bit x k) e ∙ S.in_t k (below k m) ∙ m)))

        pub not_all_place : r.seen < 65536 → t < 65536 → (r.seen ≡ t → ⊥) → is_place p s ≡ false
        not_all_place ls lt ne = false_of _ (λ h. ne (same_mask r.seen t ls lt
            (λ k l. both (bit r.seen k) (bit t k) (λ b. (P.known k l b).0) (λ b.
            let m = sym (S.in_t k l) ∙ b in
            let v = (labels_mean p s k).0 (all_in on_numbers (λ h. is_in eqb h (label_set p s)) o
            (and_right (is_kept p y o) (within o (label_set p s)) (sym (recognised ok.has_start y o) ∙ h)) k m) in
            let i = in_at on_points [] v.1.0 s v.1.1 in
            let il : i.0 ≤ n = omega (arith, i.1, points-long ok.has_start y o (conditions_of p y o S.kept), long-o) in
            P.all i.0 k (omega (arith, il)) l (label_is i.0 il ∙ ap (label p) i.2 ∙ v.1.2) b))))

        -- the spare point
        module _ (place : is_place p s ≡ true) where
          not_new : (j : ℕ) × (j ≤ n) × NotNew held.marks t j
          not_new =
              let v = some-spare ok y o place in
              let jl : v.0 ≤ n = omega (arith, v.1, long-o) in (
                v.0,
                jl,
                ⊎_elim (λ z. unseen (label_is v.0 jl ∙ z)) (λ z. ⊎_elim
                    (λ x. ⊎_elim (λ (l : x.0 < 16). seen_outside x.0 (label_is v.0 jl ∙ x.1) (S.in_t x.0 l ∙ x.2))
                    (λ l. absurd (omega (arith, l, x.1, label-few v.0 jl))) (before_or_not x.0 16))
                    (λ x. seen_again x.0 x.1 (label_is x.0 (omega (arith, x.1)) ∙ x.2 ∙ sym (label_is v.0 jl))) z) v.2,
              )

          found : (r.point ≤ n) × NotNew held.marks t r.point
          found = let v = not_new in let f = P.spare v.0 (omega (arith, v.1)) v.2 in (omega (arith, f.0), f.1)

          spare_of : Spare p s o r.point
          spare_of = go found.1
            where
              go : NotNew held.marks t r.point → Spare p s o r.point
              go (unseen z) = unknown (sym (label_is r.point found.0) ∙ z)
              go (seen_outside h z b) = let e = sym (label_is r.point found.0) ∙ z in
                  outside h e (sym (S.in_t h (omega (arith, e, label-few r.point found.0))) ∙ b)
              go (seen_again j l z) = again j (omega (arith, l, found.0, long-o)) (λ e. omega (arith, l, e))
                  (sym (label_is j (omega (arith, l, found.0))) ∙ z ∙ label_is r.point found.0)

          abbrev pub here : Status
          here = record { rule = 1; count = n; t = t; u = u; active = r.point }

          pub can-choose : CanStand g w labels n → place_of (shape g) w.present ≡ s
              → carried_of w ≡ labels_of p (place_of (shape g) w.present)
              → CanChoose g w labels held here
          can-choose D present carried = record {
            low = omega (arith, found.0, C.few);
            long = S.marks_long;
            room = omega (
              arith,
              S.marked r.point (omega (arith, found.0, long-o)),
              label-few r.point found.0,
              kept-position C held S.kept r.point found.0,
              (made-accepted g C.made).few_points,
            );
            stands = λ own un e F. subst (λ (h : Held). Standing g w labels h here un) (sym F.same) (record {
              made = C.made;
              asked = C.asked;
              came_in = omega arith;
              few = C.few;
              list_long = S.list_long;
              marks_long = F.long;
              present = present;
              place = place;
              in_t = S.in_t;
              in_u = S.in_u;
              list_at = S.list_at;
              low = found.0;
              spare = spare_of;
              unknown_is = e ∙ ap (λ (x : ℕ). eqb x 0) (label_is r.point found.0);
              marked = λ j l. F.each j ∙ ap (λ (x : ℕ). x + cond (un && eqb j r.point) 1 0)
                  (S.marked j (omega (arith, long-o)));
              counted = record {
                some = D.some;
                most = D.most;
                carries = carried;
                read = D.read;
                read_few = D.read_few;
              };
            });
          }

-- a walk whose present place is no place is refused
module _ {g : GridStruct} {w : WalkStruct} {labels : List ℕ} {n : ℕ} (D : CanStand g w labels n) where
  pub can_see : CanSee g w labels n
  can_see = record { made = D.made; asked = D.asked; few = D.few }

  module _ (held : Held) (there-first : held.first ≡ w.present.first) (there-order : held.order ≡ w.present.order) where
    abbrev there : Simplex
    there = points_kept g held.first held.order n

    pub present : place_of (shape g) w.present ≡ there
    present = rw (there-first, there-order) D.present

    pub no-place-there : is_place (table_on g w labels) there ≡ false
        → next_of (walk_on (shape g) w) labels ≡ refused 20
    no-place-there f = no_place (walk_on (shape g) w) labels (ok can_see) (rw present f)

    -- the labels that are carried, beside those in the marks
    module _ {t u : ℕ} (S : Seen (table_on g w labels) (mark_of (table_on g w labels))
        (take g.indices held.first) (take n held.order) held t u) where
      there-long : length there ≡ suc n
      there-long = points-long (ok can_see).has_start (take g.indices held.first) (take n held.order)
          (conditions_of (table_on g w labels) (take g.indices held.first) (take n held.order) S.kept)
          ∙ ap suc (length-take n held.order ∙ omega (arith, held.order_long, D.few))

      in_marks_lem : map mark_label (take (suc n) held.marks) ≡ labels_of (table_on g w labels) there
      in_marks_lem =
          let l = length-take-le (suc n) held.marks (omega (arith, S.marks_long, D.few)) in
          let m = length-map (take (suc n) held.marks) mark_label ∙ l in
          ext_get_or 0 (map mark_label (take (suc n) held.marks)) (labels_of (table_on g w labels) there)
          (m ∙ sym (length-map there (label (table_on g w labels)) ∙ there-long)) (λ j h.
          let jl : j ≤ n = omega (arith, m) in
          labels_in (take (suc n) held.marks) j (omega (arith, l))
          ∙ ap mark_label (get_or-take (suc n) held.marks j 0 (omega arith))
          ∙ label_is can_see held S j jl
          ∙ sym (label-at there j (omega (arith, there-long))))
        where
          label-at : (r : Simplex) (j : ℕ) → j < length r → get_or (labels_of (table_on g w labels) r) j 0 ≡ label
              (table_on g w labels) (get_or r j [])
          label-at [] j l = absurd (omega arith)
          label-at (z ∷ r) zero l = refl
          label-at (z ∷ r) (suc j) l = label-at r j (omega arith)

      pub carries_own : same eqb w.carried (labels_in_marks held.marks n) ≡ true → carried_of w
          ≡ labels_of (table_on g w labels)
          (place_of (shape g) w.present)
      unfolding carried_of
      carries_own e =
          let a : w.carried ≡ padded 16 (labels_of (table_on g w labels) there) = same_sound eqb eqb-true w.carried
          _ e
          ∙ ap (padded 16) in_marks_lem in
          let b : take w.present.count w.carried ≡ labels_of (table_on g w labels) there =
          ap (take w.present.count) a ∙ padded_taken w.present.count (labels_of (table_on g w labels) there)
          (length-map there (label (table_on g w labels)) ∙ there-long ∙ sym D.count) in
          rw (b, present) (rw (← a) (rw (same_self eqb eqb_self w.carried)))

      pub carries_others : same eqb w.carried (labels_in_marks held.marks n) ≡ false
          → next_of (walk_on (shape g) w) labels ≡ refused 20
      unfolding carried_of
      carries_others f = not_carried (walk_on (shape g) w) labels (ok can_see) (λ e.
          let own : List ℕ = take w.present.count w.carried in
          let z : cond (same eqb w.carried (padded 16 own)) own [] ≡ labels_of (table_on g w labels) there = e ∙ ap
          (labels_of (table_on g w labels)) present in
          ⊎_elim (λ t.
          let a : own ≡ labels_of (table_on g w labels) there = rw t at z in
          let b : w.carried ≡ labels_in_marks held.marks n = same_sound eqb eqb-true w.carried (padded 16 own) t ∙ ap
          (padded 16)
          (a ∙ sym in_marks_lem) in
          absurd_bool (sym (same_self eqb eqb_self w.carried) ∙ ap (same eqb w.carried) b ∙ f))
          (λ x. let a : [] ≡ labels_of (table_on g w labels) there = rw x at z in
          omega (arith, ap length a, length-map there (label (table_on g w labels)), there-long))
          (true_or_false (same eqb w.carried (padded 16 own))))
