-- Of two ways out of a place one leads back and the other on. Assumes nothing.
use mathlib.Core.Bool.{true, false, not, ◌&&◌}
use mathlib.Core.List.{List, [], ◌∷◌}
use mathlib.Core.Logic.{⊎_elim}
use mathlib.Core.Option.{Option, none, some}
use mathlib.Core.Path.{◌≡◌, refl, sym, ap, ◌∙◌}
use lib.ListN.{length}
use native.Mathlib.Omega.{arith}
use Rattle.combinatorics.proofs.Basics.{absurd_bool, and_both, and_left, and_right, false_of}
use Rattle.combinatorics.proofs.Lists.{in_cases, in_filter, pigeon}
use Rattle.combinatorics.specs.Lists.{distinct, is_in}
use Rattle.place.specs.Ends.{Way, link, stop, ways}
use Rattle.place.specs.Links.{linked}
use Rattle.place.specs.Path.{is_back, ways_on}
use Rattle.place.specs.Places.{Simplex, all_labelled, is_place}
use Rattle.place.specs.Problem.{Problem}
use Rattle.path_laws.proofs.Accepted.{accepted-table}
use Rattle.path_laws.proofs.FromTwoWays.{back, one_from, one-from-start}
use Rattle.path_laws.proofs.PathSteps.{Link}
use Rattle.path_laws.proofs.Simplices.{simplex_sound}
use Rattle.path_laws.proofs.Theorem.{two_ways}
use Rattle.path_laws.proofs.Ways.{IsWay, by_facet, by_link, by_place, in_ways, on_ways, same_way, way_sound}
use Rattle.path_laws.specs.Demand.{Accepted}

only_one : (l : List Way) (w : Way) → length l ≡ 1 → is_in same_way w l ≡ true → l ≡ w ∷ []
only_one [] w e m = absurd (omega arith)
only_one (x ∷ []) w e m = ⊎_elim (λ (q : w ≡ x). rw q) (λ n. absurd_bool (sym n)) (in_cases on_ways w x [] m)
only_one (x ∷ y ∷ l) w e m = absurd (omega arith)

module _ {p : Problem} (ok : Accepted p) (s : Simplex) (h : is_place p s ≡ true) (own : all_labelled p s ≡ true) where
  -- a way that is not back is a way on
  way_on : (l : Option Simplex) (w : Way) → IsWay p s w → is_back l w ≡ false → is_in same_way w (ways_on p l s) ≡ true
  unfolding ways_on
  way_on l w k b = in_filter on_ways (λ w. not (is_back l w)) w (ways p s) (in_ways p s ok.has_start.same_number k) (rw b)

  pub from_start : (w : Way) → s ≡ p.start ∷ [] → IsWay p s w → ways_on p none s ≡ w ∷ []
  from_start w e k =
      only_one (ways_on p none s) w
      (rw e (one-from-start (accepted-table ok) (two_ways ok.has_start) (rw e at own))) (way_on none w k refl)

  module _ (ne : s ≡ p.start ∷ [] → ⊥) where
    link_in : (b : Simplex) {w : Way} → IsWay p s w → w ≡ link b → Link p b s
    link_in b (by_place j l c) q = absurd_bool (cc)
    link_in b (by_facet f j m t l c) q = absurd_bool (cc)
    link_in b (by_link t k l) q = let z : t ≡ b = cc in back s b (rw (← z) (record { from = h; to = k; by = l }))

    not_back : (b : Simplex) (w : Way) → (w ≡ link b → ⊥) → is_back (some b) w ≡ false
    not_back b (stop e) n = refl
    not_back b (link t) n = false_of _ (λ q. n (ap link (sym (simplex_sound b t q))))

    -- where one way leads to the place before, the other leads on
    pub other-on : (b : Simplex) (v w : Way) → IsWay p s v → IsWay p s w → (v ≡ w → ⊥) → v ≡ link b
        → ways_on p (some b) s ≡ w ∷ []
    other-on b v w kv kw n e = only_one (ways_on p (some b) s) w
        (one_from (accepted-table ok) (two_ways ok.has_start) b s (link_in b kv e) own ne)
        (way_on (some b) w kw (not_back b w (λ q. n (e ∙ sym q))))

    pub came_by : (b : Simplex) (v : Way) → IsWay p s v → v ≡ link b → (is_place p b && linked p b s) ≡ true
    came_by b v kv e = let L = link_in b kv e in and_both _ _ L.from L.by

    -- and where neither does, the place before is not linked
    pub not_linked : (b : Simplex) (v w : Way) → IsWay p s v → IsWay p s w → (v ≡ w → ⊥) → (v ≡ link b → ⊥)
        → (w ≡ link b → ⊥)
        → (is_place p b && linked p b s) ≡ false
    not_linked b v w kv kw n nv nw = false_of _ (λ e.
        let L = back b s (record {
          from = and_left (is_place p b) (linked p b s) e;
          to = h;
          by = and_right (is_place p b) (linked p b s) e;
        }) in
        let k : IsWay p s (link b) = by_link b L.to L.by in
        let f : (x y : Way) → (x ≡ y → ⊥) → same_way x y ≡ false = λ x y q. false_of _ (λ z. q (way_sound x y z)) in
        let d : distinct same_way (v ∷ w ∷ link b ∷ []) ≡ true = rw (f v w n, f v (link b) nv, f w (link b) nw) in
        let d = pigeon on_ways (v ∷ w ∷ link b ∷ []) (ways p s) d
        (λ x m. in_ways p s ok.has_start.same_number {w = x} (⊎_elim
        (λ q. rw q kv)
        (λ m. ⊎_elim
        (λ q. rw q kw)
        (λ m. ⊎_elim (λ q. rw q k) (λ m. absurd_bool (sym m)) (in_cases on_ways x (link b) [] m))
        (in_cases on_ways x w (link b ∷ []) m))
        (in_cases on_ways x v (w ∷ link b ∷ []) m))) in
        omega (arith, d, (two_ways ok.has_start).other s h own ne))
