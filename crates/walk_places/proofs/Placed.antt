-- A place that is recognised without its labels, and with them. Assumes nothing.
use mathlib.Core.Bool.{true}
use mathlib.Core.List.{List, []}
use mathlib.Core.Path.{◌≡◌, ap, ◌∙◌}
use Prim.Native.Nat.{ℕ, ◌+◌, ◌≤◌, ◌<◌}
use lib.ListN.{length, get_or, take, length-take}
use native.Mathlib.Omega.{arith}
use Rattle.combinatorics.proofs.Lists.{all_in}
use Rattle.grid.proofs.Fields.{made-accepted}
use Rattle.grid_points.proofs.Points.{in_points, on_points, position_in_lem}
use Rattle.grid_points.specs.Grid.{Point, at, is_grid_point, num_points, points, position}
use Rattle.grid.specs.Made.{shape}
use Rattle.grid.specs.declared.Grid.{Grid as GridStruct}
use Rattle.arrays.specs.declared.holding.Held.{Held}
use Rattle.place.specs.Places.{Simplex}
use Rattle.place.specs.Problem.{Problem, label}
use Rattle.path_laws.proofs.Accepted.{accepted_of}
use Rattle.path_laws.proofs.Positions.{at_in}
use Rattle.path_laws.specs.Demand.{Accepted}
use Rattle.walk_recogniser.specs.Kept.{Seen}
use Rattle.walk_recogniser.specs.Pieces.{CanReadLabels, LabelsPut, bare_mark}
use Rattle.rules.proofs.Marks.{position_in as position-of-mark}
use Rattle.rules.specs.Read.{mark_of}
use Rattle.rules.specs.Moves.{mark_position}
use Rattle.walks.proofs.KeptPlace.{conditions_of, points-long, points_on}
use Rattle.walks.specs.Kept.{is_kept, kept_points}
use Rattle.walk_places.specs.Placing.{CanPlace, CanSee}
use Rattle.walk_places.specs.Walks.{table_on}
use Rattle.walk_places.specs.declared.Walk.{Walk as WalkStruct}

module _ {g : GridStruct} {w : WalkStruct} {labels : List ℕ} {n : ℕ} (C : CanSee g w labels n) (held : Held) where
  abbrev p : Problem
  p = table_on g w labels

  abbrev y : Point
  y = take g.indices held.first

  abbrev o : List ℕ
  o = take n held.order

  abbrev s : Simplex
  s = kept_points (shape g) y o

  pub ok : Accepted p
  ok = accepted_of p C.asked

  pub can-place : CanPlace g w n
  can-place = record { made = C.made; start = ok.has_start.start; few = C.few }

  long-o : length o ≡ n
  long-o = length-take n held.order ∙ omega (arith, held.order_long, C.few)

  pub kept-on-grid : is_kept p y o ≡ true → (j : ℕ) → j ≤ n → is_grid_point (shape g) (get_or s j []) ≡ true
  kept-on-grid h j l = let k = conditions_of p y o h in
      all_in on_points (is_grid_point (shape g)) s (points_on ok.has_start y o k) (get_or s j [])
      (at_in on_points [] s j (omega (arith, points-long ok.has_start y o k, long-o)))

  pub kept-position : is_kept p y o ≡ true → (j : ℕ) → j ≤ n → position (shape g) (get_or s j []) < num_points (shape g)
  kept-position h j l = position_in_lem (points (shape g)) (get_or s j [])
      (in_points (shape g) (get_or s j []) ok.has_start.same_number (kept-on-grid h j l))

  module _ {t u : ℕ} (S : Seen p (bare_mark (shape g)) y o held t u) where
    mark-is : (j : ℕ) → j ≤ n → at held.marks j ≡ bare_mark (shape g) (get_or s j [])
    mark-is j l = S.marked j (omega (arith, long-o))

    position-is : (j : ℕ) → j ≤ n → mark_position (at held.marks j) ≡ position (shape g) (get_or s j [])
    position-is j l = ap mark_position (mark-is j l) ∙ position-of-mark (position (shape g) (get_or s j [])) 0
        (omega arith)

    pub can-read : CanReadLabels labels held.marks n
    can-read = record {
      few = C.few;
      long = S.marks_long;
      within = λ j l. omega (arith, position-is j l, kept-position S.kept j l, ok.table_length);
      room = λ j l. omega (arith, mark-is j l, kept-position S.kept j l, (made-accepted g C.made).few_points);
    }

    -- the labels are read
    pub seen-labels : {new : Held} → new.coefficients ≡ held.coefficients → LabelsPut labels n held.marks new.marks
        → Seen p (mark_of p) y o new t u
    unfolding label
    seen-labels same P = record {
      kept = S.kept;
      in_t = S.in_t;
      in_u = S.in_u;
      list_long = rw same S.list_long;
      list_at = λ k l. rw same (S.list_at k l);
      marks_long = P.long;
      marked = λ j l. let jl : j ≤ n = omega (arith, long-o) in
          P.each j jl ∙ ap (λ (i : ℕ). at held.marks j + get_or labels i 0) (position-is j jl)
          ∙ omega (arith, mark-is j jl);
    }
