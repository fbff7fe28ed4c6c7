-- What is shown of a walk that a call moves, by its two places. Assumes nothing.
use mathlib.Core.List.{List, [], ◌∷◌, map}
use mathlib.Core.Path.{◌≡◌, sym, ◌∙◌, subst}
use Prim.Native.Nat.{ℕ, suc, ◌≤◌}
use lib.ListN.{take}
use Rattle.grid_points.specs.Grid.{num_indices}
use Rattle.grid.specs.Made.{shape}
use Rattle.grid.specs.declared.Grid.{Grid as GridStruct}
use Rattle.place.specs.Places.{Simplex}
use Rattle.place.specs.Problem.{Problem}
use Rattle.walk_recogniser.specs.Pieces.{bare_mark}
use Rattle.rules.proofs.Masks.{mask_t, mask_u}
use Rattle.trail.specs.Change.{ByRule, change}
use Rattle.walks.proofs.Moved.{calls_hold}
use Rattle.walks.specs.Next.{move_answer, move_walk, moved, rule_of}
use Rattle.walks.specs.Preview.{preview}
use Rattle.walks.specs.Walk.{Walk}
use Rattle.walk_places.proofs.BothPlaced.{ok, on-here, on-there}
use Rattle.walk_places.specs.Placing.{BothMarked}
use Rattle.walk_places.specs.declared.Both.{Both}
use Rattle.walk_preview.proofs.Changed.{changed, only-other}
use Rattle.walk_preview.specs.Changes.{change_for, changed_of, index_from, other_in}
use Rattle.walk_preview.specs.Previews.{CanShow, change_on}
use Rattle.walk_places.specs.Walks.{place_of, table_on, walk_on}
use Rattle.walk_places.specs.declared.Place.{Place}
use Rattle.walk_places.specs.declared.Walk.{Walk as WalkStruct}

module _ {g : GridStruct} {w : WalkStruct} {labels : List ℕ} {next : Place} {rule : ℕ}
    (C : CanShow g w labels next rule) where
  abbrev W : Walk
  W = walk_on (shape g) w

  abbrev p : Problem
  p = table_on g w labels

  abbrev here : Simplex
  here = place_of (shape g) w.present

  abbrev there : Simplex
  there = C.moves.goes.to

  -- the rule is that of the change
  answers : move_answer W labels ≡ moved (rule_of p here there)
  unfolding move_answer
  answers = rw C.moves.goes.moves

  stands : (move_walk W labels).present ≡ there
  unfolding move_walk
  stands = rw C.moves.goes.moves

  by_rule_lem : ByRule (change p here there) rule
  by_rule_lem =
      subst (λ (q : ℕ). ByRule (change p here there) q) (sym C.moves.by_rule)
      (subst (λ (s : Simplex). ByRule (change p here s) (rule_of p here there)) stands
      ((calls_hold W labels).rule (rule_of p here there) answers))

  change-is : change_on g w labels ≡ changed_of (change p here there)
  unfolding preview
  change-is = rw C.moves.goes.moves

  few : num_indices (shape g) ≤ 16
  few = (ok C.made C.moves.goes).has_start.sixteen_indices

  come : (x : ℕ) → (change p here there).points_in ≡ x ∷ [] → other_in (map (bare_mark (shape g)) there)
      (map (bare_mark (shape g)) here) ≡ x
  unfolding change
  come x e = only-other (ok C.made C.moves.goes) here there (on-here C.made C.moves.goes)
      (on-there C.made C.moves.goes) x e

  gone : (x : ℕ) → (change p here there).points_out ≡ x ∷ [] → other_in (map (bare_mark (shape g)) here)
      (map (bare_mark (shape g)) there) ≡ x
  unfolding change
  gone x e = only-other (ok C.made C.moves.goes) there here (on-there C.made C.moves.goes)
      (on-here C.made C.moves.goes) x e

  pub shown : (b : Both) → BothMarked p here there b
      → change_for rule (other_in (take (suc b.k) b.onto) (take (suc b.n) b.from))
      (other_in (take (suc b.n) b.from) (take (suc b.k) b.onto))
      (suc (index_from b.t b.u b.t2 b.u2))
      ≡ change_on g w labels
  shown b M =
      rw (M.from, M.onto)
      (changed p here there (mask_t p few here b.t M.in_t) (mask_t p few there b.t2 M.next_t)
      (mask_u p few here b.u M.in_u) (mask_u p few there b.u2 M.next_u)
      come gone by_rule_lem ∙ sym change-is)
