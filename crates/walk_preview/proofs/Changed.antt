-- What changes from a place to the next, by their marks and masks. Assumes nothing.
use mathlib.Core.Bool.{true, false}
use mathlib.Core.List.{List, [], ◌∷◌, map}
use mathlib.Core.Logic.{⊎_elim}
use mathlib.Core.Path.{◌≡◌, refl, sym, ap, ◌∙◌}
use Prim.Native.Nat.{ℕ, suc}
use lib.Dec.{eqb}
use Rattle.combinatorics.proofs.Basics.{absurd_bool, both, true_or_false}
use Rattle.combinatorics.proofs.Lists.{all_in, in_here, in_later, in_map, map_in, on_numbers}
use Rattle.combinatorics.specs.Lists.{all, first_or, is_in}
use Rattle.grid_points.proofs.Points.{on_points}
use Rattle.grid_points.specs.Grid.{Point, is_grid_point, position, same_point}
use Rattle.place.specs.Places.{Simplex, set_t, set_u}
use Rattle.place.specs.Problem.{Problem}
use Rattle.path_laws.specs.Demand.{Accepted}
use Rattle.walk_recogniser.specs.Pieces.{bare_mark}
use Rattle.trail_records.proofs.Told.{gained, kept, lost}
use Rattle.rules.proofs.Masks.{IsMask}
use Rattle.rules.specs.Moves.{mark_position}
use Rattle.trail.specs.Change.{ByRule, Change, change, outside, rule1, rule2, rule3, rule4, rule5, rule6}
use Rattle.trail.specs.Change.{rule7}
use Rattle.trail.proofs.Rules.{change_sets}
use Rattle.walk_places.proofs.BothPlaced.{bare-position, bare-tells}
use Rattle.walk_preview.specs.Changes.{change_for, changed_of, index_from, other_in}

-- numbers that tell elements apart carry what is outside
outside-map : (f : Point → ℕ) (a b : List Point) → ((x y : Point) → is_in same_point x a ≡ true → is_in same_point y b
    ≡ true → f x ≡ f y → x ≡ y)
    → outside eqb (map f b) (map f a) ≡ map f (outside same_point b a)
outside-map f [] b tells = refl
outside-map f (x ∷ a) b tells =
    let rest = outside-map f a b (λ y z m n. tells y z (in_later on_points y x a m) n) in
    let e : is_in eqb (f x) (map f b) ≡ is_in same_point x b =
    both (is_in eqb (f x) (map f b)) (is_in same_point x b)
    (λ m. let w = map_in on_points on_numbers f (f x) b m in rw (tells x w.0 (in_here on_points x a) w.1 w.2) w.1)
    (λ m. in_map on_points on_numbers f x b m) in
    ⊎_elim (λ t. let g : is_in eqb (f x) (map f b) ≡ true = e ∙ t in rw (g, t) rest)
    (λ n. let g : is_in eqb (f x) (map f b) ≡ false = e ∙ n in rw (g, n) (ap (λ (l : List ℕ). f x ∷ l) rest))
    (true_or_false (is_in same_point x b))

module _ {p : Problem} (ok : Accepted p) where
  -- the only point of one place that is not in the other
  pub only-other : (a b : Simplex) → all (is_grid_point p.grid) a ≡ true → all (is_grid_point p.grid) b ≡ true → (x : ℕ)
      → map (position p.grid) (outside same_point a b) ≡ x ∷ [] → other_in (map (bare_mark p.grid) b)
      (map (bare_mark p.grid) a) ≡ x
  only-other a b on-a on-b x e =
      ap (λ (l : List ℕ). mark_position (first_or 0 l)) (outside-map (bare_mark p.grid) b a (λ y z m n.
      bare-tells ok y z (all_in on_points (is_grid_point p.grid) b on-b y m)
      (all_in on_points (is_grid_point p.grid) a on-a z n)))
      ∙ go (outside same_point a b) e
    where
      go : (o : List Point) → map (position p.grid) o ≡ x ∷ [] → mark_position (first_or 0 (map (bare_mark p.grid) o)) ≡ x
      go [] q = absurd_bool (cc)
      go (y ∷ o) q = bare-position p.grid y ∙ ap (first_or 0) q

-- the fields of the rule are those of the change
module _ (p : Problem) (a b : Simplex) {T U T' U' y z : ℕ} (t : IsMask T (set_t p a)) (t' : IsMask T' (set_t p b))
    (u : IsMask U (set_u p.grid a)) (u' : IsMask U' (set_u p.grid b))
    (come : (x : ℕ) → (change p a b).points_in ≡ x ∷ [] → y ≡ x)
    (gone : (x : ℕ) → (change p a b).points_out ≡ x ∷ [] → z ≡ x) where
  pub changed : {r : ℕ} → ByRule (change p a b) r → change_for r y z (suc (index_from T U T' U')) ≡ changed_of
      (change p a b)
  changed (rule1 x w e) = rw (come x (ap (λ (c : Change). c.points_in) e), gone w (ap (λ (c : Change). c.points_out) e))
      (sym (ap changed_of e))
  changed (rule2 x w h e) =
      let i = change_sets p a b e in let f = gained u u' i.2 i.3 in
      rw (
        kept t t' i.0 i.1,
        f.1,
        come x (ap (λ (c : Change). c.points_in) e),
        gone w
            (ap (λ (c : Change). c.points_out) e),
      ) (sym (ap changed_of e))
  changed (rule3 x w h e) =
      let i = change_sets p a b e in let f = lost u u' i.2 i.3 in
      rw (
        kept t t' i.0 i.1,
        f.1,
        come x (ap (λ (c : Change). c.points_in) e),
        gone w
            (ap (λ (c : Change). c.points_out) e),
      ) (sym (ap changed_of e))
  changed (rule4 x h e) =
      let i = change_sets p a b e in let d = gained t t' i.0 i.1 in
      rw (d.1, d.0, come x (ap (λ (c : Change). c.points_in) e)) (sym (ap changed_of e))
  changed (rule5 x h e) =
      let i = change_sets p a b e in let d = gained t t' i.0 i.1 in
      rw (d.1, d.0, come x (ap (λ (c : Change). c.points_in) e)) (sym (ap changed_of e))
  changed (rule6 w h e) =
      let i = change_sets p a b e in let d = lost t t' i.0 i.1 in
      rw (d.1, d.0, gone w (ap (λ (c : Change). c.points_out) e)) (sym (ap changed_of e))
  changed (rule7 w h e) =
      let i = change_sets p a b e in let d = lost t t' i.0 i.1 in
      rw (d.1, d.0, gone w (ap (λ (c : Change). c.points_out) e)) (sym (ap changed_of e))
