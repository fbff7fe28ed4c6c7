-- The list of ways holds each link and each end once. So a place with exactly two ways has a list of length two.
-- Assumes nothing.
use mathlib.Core.Bool.{Bool, true, false, ◌&&◌}
use mathlib.Core.List.{List, [], ◌∷◌, map}
use mathlib.Core.Logic.{◌⊎◌, ⊎_elim}
use mathlib.Core.Path.{◌≡◌, refl, sym, ap, ◌∙◌}
use Prim.Native.Nat.{ℕ, ◌<◌}
use borrow.Author.Tests.{eqb-true}
use lib.Dec.{eqb, ltb}
use lib.ListN.{length}
use native.Mathlib.Omega.{arith}
use Rattle.combinatorics.proofs.Basics.{absurd_bool, and_both, and_left, and_right, false_of, true_or_false}
use Rattle.combinatorics.proofs.Lists.{in_here, in_later, in_cases, in_filter, filter_in, in_map, map_in, in_concat_map}
use Rattle.combinatorics.proofs.Lists.{concat_map_in, in_append_left, in_append_right, append_in, distinct-map}
use Rattle.combinatorics.proofs.Lists.{distinct_filter, distinct_append, distinct-concat_map, distinct-out}
use Rattle.combinatorics.proofs.Lists.{distinct_tail, same_sound, same_self, pigeon, eqb_self, on_numbers, Equality}
use Rattle.combinatorics.proofs.Ranges.{in_up_from, up_from_in, distinct-up_from}
use Rattle.combinatorics.specs.Lists.{filter, is_in, distinct, same, one_less}
use Rattle.end_kinds.specs.declared.Kind.{Kind}
use Rattle.end_kinds.specs.declared.Kind.TheVariants.{Facet as facet_end, Place as place_end}
use Rattle.grid_points.proofs.Points.{on_points}
use Rattle.grid_points.specs.Grid.{same_point, num_blocks, blocks}
use Rattle.place.specs.Ends.{End, Way, stop, link, is_complete, complete_for, place_ends}
use Rattle.place.specs.Ends.{facet_ends, facets, ends, ways}
use Rattle.place.specs.Links.{linked, links}
use Rattle.place.specs.Path.{same_simplex}
use Rattle.place.specs.Places.{Simplex, is_place, places, set_t, label_set}
use Rattle.place.specs.Problem.{Problem}
use Rattle.path_laws.proofs.LinkSymmetry.{place-distinct}
use Rattle.path_laws.proofs.Simplices.{simplex_sound, simplex_self, on_simplices}
use Rattle.path_laws.proofs.ListOfPlaces.{places-all, places-distinct}
use Rattle.path_laws.proofs.PathSteps.{places-are}

abbrev same_kind : Kind → Kind → Bool
same_kind place_end place_end = true
same_kind place_end facet_end = false
same_kind facet_end place_end = false
same_kind facet_end facet_end = true

kind_sound : (a b : Kind) → same_kind a b ≡ true → a ≡ b
kind_sound place_end place_end e = refl
kind_sound place_end facet_end e = absurd_bool (sym e)
kind_sound facet_end place_end e = absurd_bool (sym e)
kind_sound facet_end facet_end e = refl

kind_self : (a : Kind) → same_kind a a ≡ true
kind_self place_end = refl
kind_self facet_end = refl

-- "ends are told apart by kind, block and set of points"
abbrev same_end : End → End → Bool
same_end d e = same_kind d.kind e.kind && eqb d.block e.block && same_simplex d.simplex e.simplex

pub end_sound : (d e : End) → same_end d e ≡ true → d ≡ e
end_sound d e h =
    let a : Bool = same_kind d.kind e.kind in
    let b : Bool = eqb d.block e.block in
    let c : Bool = same_simplex d.simplex e.simplex in
    let k : d.kind ≡ e.kind = kind_sound d.kind e.kind (and_left a b (and_left (a && b) c h)) in
    let j : d.block ≡ e.block = eqb-true d.block e.block (and_right a b (and_left (a && b) c h)) in
    let s : d.simplex ≡ e.simplex = simplex_sound d.simplex e.simplex (and_right (a && b) c h) in
    λ i. record { kind = k i; block = j i; simplex = s i }

pub end_self : (e : End) → same_end e e ≡ true
end_self e = and_both _ _ (and_both _ _ (kind_self e.kind) (eqb_self e.block)) (simplex_self e.simplex)

abbrev pub same_way : Way → Way → Bool
same_way (stop d) (stop e) = same_end d e
same_way (stop d) (link t) = false
same_way (link s) (stop e) = false
same_way (link s) (link t) = same_simplex s t

pub way_sound : (a b : Way) → same_way a b ≡ true → a ≡ b
way_sound (stop d) (stop e) h = ap (λ (x : End). stop x) (end_sound d e h)
way_sound (stop d) (link t) h = absurd_bool (sym h)
way_sound (link s) (stop e) h = absurd_bool (sym h)
way_sound (link s) (link t) h = ap (λ (x : Simplex). link x) (simplex_sound s t h)

pub way_self : (a : Way) → same_way a a ≡ true
way_self (stop e) = end_self e
way_self (link s) = simplex_self s

abbrev pub on_ends : Equality End
on_ends = record { eq = same_end; sound = end_sound; self = end_self }

abbrev pub on_ways : Equality Way
on_ways = record { eq = same_way; sound = way_sound; self = way_self }

-- the ways out of a place, one by one as document 01 has them
pub data IsWay (p : Problem) (s : Simplex) : Way → Type 0 where
  by_place : (j : ℕ) → j < num_blocks p.grid → is_complete p s j ≡ true
      → IsWay p s (stop (record { kind = place_end; block = j; simplex = s }))
  by_facet : (f : Simplex) (j : ℕ) → is_in same_simplex f (facets s) ≡ true → label_set p f ≡ set_t p s
      → j < num_blocks p.grid → is_complete p f j ≡ true
      → IsWay p s (stop (record { kind = facet_end; block = j; simplex = f }))
  by_link : (t : Simplex) → is_place p t ≡ true → linked p s t ≡ true → IsWay p s (link t)

module _ (p : Problem) (s : Simplex) where
  abbrev at_place : ℕ → End
  at_place j = record { kind = place_end; block = j; simplex = s }

  abbrev at_facet : Simplex → ℕ → End
  at_facet f j = record { kind = facet_end; block = j; simplex = f }

  abbrev good_facets : List Simplex
  good_facets = filter (λ f. same eqb (label_set p f) (set_t p s)) (facets s)

  complete_in : (f : Simplex) (j : ℕ) → is_in eqb j (complete_for p f) ≡ true
      → (j < num_blocks p.grid) × (is_complete p f j ≡ true)
  unfolding complete_for
  complete_in f j m = let i = filter_in on_numbers (is_complete p f) j (blocks p.grid) m in
      (omega (arith, (up_from_in 0 (num_blocks p.grid) j i.0).1), i.1)

  in_complete : (f : Simplex) (j : ℕ) → j < num_blocks p.grid → is_complete p f j ≡ true
      → is_in eqb j (complete_for p f) ≡ true
  unfolding complete_for
  in_complete f j c h = in_filter on_numbers (is_complete p f) j (blocks p.grid)
      (in_up_from 0 (num_blocks p.grid) j (omega arith) (omega arith)) h

  complete-distinct : (f : Simplex) → distinct eqb (complete_for p f) ≡ true
  unfolding complete_for
  complete-distinct f =
      distinct_filter on_numbers (is_complete p f) (blocks p.grid) (distinct-up_from 0 (num_blocks p.grid))

  pub end_is : (e : End) → is_in same_end e (ends p s) ≡ true → IsWay p s (stop e)
  unfolding ends place_ends facet_ends
  end_is e m =
      ⊎_elim
      (λ n. let i = map_in on_numbers on_ends at_place e (complete_for p s) n in
      let c = complete_in s i.0 i.1 in
      rw i.2 (by_place i.0 c.0 c.1))
      (λ n. let i = concat_map_in on_simplices on_ends (λ f. map (at_facet f) (complete_for p f)) e good_facets n in
      let k = filter_in on_simplices (λ f. same eqb (label_set p f) (set_t p s)) i.0 (facets s) i.1 in
      let j = map_in on_numbers on_ends (at_facet i.0) e (complete_for p i.0) i.2 in
      let c = complete_in i.0 j.0 j.1 in
      rw j.2 (by_facet i.0 j.0 k.0 (same_sound eqb eqb-true (label_set p i.0) (set_t p s) k.1) c.0 c.1))
      (append_in on_ends e (place_ends p s) (facet_ends p s) m)

  -- every element of the list is a way
  pub way-is : (w : Way) → is_in same_way w (ways p s) ≡ true → IsWay p s w
  unfolding ways links
  way-is w m = ⊎_elim
      (λ n. let i = map_in on_ends on_ways stop w (ends p s) n in rw i.2 (end_is i.0 i.1))
      (λ n.
      let i = map_in on_simplices on_ways link w (links p s) n in
      let k = filter_in on_simplices (linked p s) i.0 (places p) i.1 in
      rw i.2 (by_link i.0 (places-are p i.0 k.0) k.1))
      (append_in on_ways w (map stop (ends p s)) (map link (links p s)) m)

  in_ends : (e : End) → is_in same_end e (ends p s) ≡ true → is_in same_way (stop e) (ways p s) ≡ true
  unfolding ways
  in_ends e m = in_append_left on_ways (stop e) (map stop (ends p s)) (map link (links p s))
      (in_map on_ends on_ways stop e (ends p s) m)

  -- every way is in the list
  pub in_ways : length p.grid.divisions ≡ num_blocks p.grid → {w : Way} → IsWay p s w → is_in same_way w (ways p s) ≡ true
  unfolding ways links ends place_ends facet_ends
  in_ways d (by_place j c h) = in_ends (at_place j)
      (in_append_left on_ends (at_place j) (place_ends p s) (facet_ends p s)
      (in_map on_numbers on_ends at_place j (complete_for p s) (in_complete s j c h)))
  in_ways d (by_facet f j m q c h) = in_ends (at_facet f j)
      (in_append_right on_ends (at_facet f j) (place_ends p s) (facet_ends p s)
      (in_concat_map on_simplices on_ends (λ f. map (at_facet f) (complete_for p f)) f (at_facet f j) good_facets
      (in_filter on_simplices
      (λ f. same eqb (label_set p f) (set_t p s))
      f (facets s) m (rw q (same_self eqb eqb_self (set_t p s))))
      (in_map on_numbers on_ends (at_facet f) j (complete_for p f) (in_complete f j c h))))
  in_ways d (by_link t h l) =
      in_append_right on_ways (link t) (map stop (ends p s)) (map link (links p s))
      (in_map on_simplices on_ways link t (links p s)
      (in_filter on_simplices (linked p s) t (places p) (places-all p d t h) l))

one_less-distinct : (s : Simplex) → distinct same_point s ≡ true → distinct same_simplex (one_less s) ≡ true
one_less-distinct [] d = refl
one_less-distinct (x ∷ s) d =
    let o : is_in same_simplex s (map (λ l. x ∷ l) (one_less s)) ≡ false = false_of _ (λ m.
    let i = map_in on_simplices on_simplices (λ l. x ∷ l) s (one_less s) m in
    absurd_bool (sym (rw i.2 (in_here on_points x i.0)) ∙ distinct-out same_point x s d)) in
    rw o (distinct-map on_simplices on_simplices
    (λ l. x ∷ l)
    (one_less s)
    (λ a b m n e. cc)
    (one_less-distinct s (distinct_tail same_point x s d)))

facets-distinct : (s : Simplex) → distinct same_point s ≡ true → distinct same_simplex (facets s) ≡ true
facets-distinct s d = ⊎_elim (λ t. rw t (one_less-distinct s d)) (λ f. rw f) (true_or_false (ltb 1 (length s)))

module _ (p : Problem) (s : Simplex) (h : is_place p s ≡ true) where
  ends-distinct : distinct same_end (ends p s) ≡ true
  unfolding ends place_ends facet_ends
  ends-distinct = distinct_append on_ends (place_ends p s) (facet_ends p s)
      (distinct-map on_numbers on_ends (at_place p s) (complete_for p s)
      (λ a b m n e. ap (λ (x : End). x.block) e)
      (complete-distinct p s s))
      (distinct-concat_map on_simplices on_ends
      (λ f. map (at_facet p s f) (complete_for p f))
      (good_facets p s)
      (distinct_filter on_simplices
      (λ f. same eqb (label_set p f) (set_t p s))
      (facets s) (facets-distinct s (place-distinct p s h)))
      (λ f m. distinct-map on_numbers on_ends (at_facet p s f) (complete_for p f)
      (λ a b m n e. ap (λ (x : End). x.block) e)
      (complete-distinct p s f))
      (λ f f' e a b m n.
      let i = map_in on_numbers on_ends (at_facet p s f) e (complete_for p f) m in
      let j = map_in on_numbers on_ends (at_facet p s f') e (complete_for p f') n in
      ap (λ (x : End). x.simplex) (sym i.2 ∙ j.2)))
      (λ e m n.
      let i = map_in on_numbers on_ends (at_place p s) e (complete_for p s) m in
      let k = concat_map_in on_simplices on_ends (λ f. map (at_facet p s f) (complete_for p f)) e (good_facets p s) n in
      let j = map_in on_numbers on_ends (at_facet p s k.0) e (complete_for p k.0) k.2 in
      let q : place_end ≡ facet_end = ap (λ (x : End). x.kind) (sym i.2 ∙ j.2) in
      absurd_bool (cc))

  -- no way stands in the list twice
  pub ways-distinct : distinct same_way (ways p s) ≡ true
  unfolding ways links
  ways-distinct =
      distinct_append on_ways (map stop (ends p s)) (map link (links p s))
      (distinct-map on_ends on_ways stop (ends p s) (λ a b m n e. cc) ends-distinct)
      (distinct-map on_simplices on_ways link (links p s) (λ a b m n e. cc)
      (distinct_filter on_simplices (linked p s) (places p) (places-distinct p)))
      (λ w m n.
      let i = map_in on_ends on_ways stop w (ends p s) m in
      let j = map_in on_simplices on_ways link w (links p s) n in
      let q : stop i.0 ≡ link j.0 = sym i.2 ∙ j.2 in
      absurd_bool (cc))

  module _ (d : length p.grid.divisions ≡ num_blocks p.grid) where
    length-is : (l : List Way) → distinct same_way l ≡ true → ((w : Way) → is_in same_way w l ≡ true → IsWay p s w)
        → ((w : Way) → IsWay p s w → is_in same_way w l ≡ true) → length (ways p s) ≡ length l
    length-is l e f g =
        omega (
          arith,
          pigeon on_ways (ways p s) l ways-distinct (λ w m. g w (way-is p s w m)),
          pigeon on_ways l (ways p s) e (λ w m. in_ways p s d (f w m)),
        )

    -- what the geometry has to show of a place: two ways that differ, and no third
    pub exactly_two : {a b : Way} → IsWay p s a → IsWay p s b → (a ≡ b → ⊥)
        → ((w : Way) → IsWay p s w → (w ≡ a) ⊎ (w ≡ b))
        → length (ways p s) ≡ 2
    exactly_two {a} {b} ha hb ne all =
        let q : same_way a b ≡ false = false_of _ (λ e. ne (way_sound a b e)) in
        let dl : distinct same_way (a ∷ b ∷ []) ≡ true = rw q in
        length-is (a ∷ b ∷ []) dl
        (λ w m. ⊎_elim
        (λ e. rw e ha)
        (λ n. ⊎_elim (λ e. rw e hb) (λ n. absurd_bool (sym n)) (in_cases on_ways w b [] n))
        (in_cases on_ways w a (b ∷ []) m))
        (λ w k. ⊎_elim
        (λ e. rw e (in_here on_ways a (b ∷ [])))
        (λ e. rw e (in_later on_ways b a (b ∷ []) (in_here on_ways b [])))
        (all w k))

    pub exactly_one : {a : Way} → IsWay p s a → ((w : Way) → IsWay p s w → w ≡ a) → length (ways p s) ≡ 1
    exactly_one {a} ha all =
        length-is (a ∷ []) refl (λ w m. ⊎_elim (λ e. rw e ha) (λ n. absurd_bool (sym n)) (in_cases on_ways w a [] m))
        (λ w k. rw (all w k) (in_here on_ways a []))
