-- From an unlabelled place at most one move takes a given point out, and at most one brings a given index into T and
-- takes no point out. In order: over a table, one place through a facet and one above, and none at an end; moves are
-- links over a table; what tells the next place. Assumes nothing.
use mathlib.Core.Bool.{Bool, true}
use mathlib.Core.List.{List, [], ◌∷◌, map}
use mathlib.Core.Logic.{⊎_elim}
use mathlib.Core.Path.{◌≡◌, refl, sym, ap, ◌∙◌}
use Prim.Native.Nat.{ℕ, zero, suc, ◌+◌, ◌≤◌, ◌<◌}
use lib.Dec.{eqb}
use lib.ListN.{length, length-map}
use native.Mathlib.Omega.{arith}
use Rattle.combinatorics.proofs.Basics.{absurd_bool, same_or, before_or_not}
use Rattle.combinatorics.proofs.Lists.{in_here, in_cases, on_numbers}
use Rattle.combinatorics.specs.Edits.{remove_at}
use Rattle.combinatorics.specs.Lists.{is_in}
use Rattle.geometry.proofs.Definitions.{Blocks, Chain, Fills}
use Rattle.geometry.proofs.Graph.{Through, Above, drops_of, through_one, larger, above-one, exit, start_exit, from-same}
use Rattle.geometry.proofs.Exits.{kinds, inside_not_complete, larger_is, up_not_complete, complete-fills}
use Rattle.geometry.proofs.Labels.{from_omit, to_omit}
use Rattle.geometry.proofs.LabelledChains.{LabelledChain, LinkTo, list_at}
use Rattle.geometry.proofs.Points.{nth, list_at-map}
use Rattle.geometry.proofs.Sorted.{rising-chain}
use Rattle.geometry.proofs.Unique.{not_next_fills, not_drops_fills}
use Rattle.geometry.proofs.Ways.{omit_is}
use Rattle.grid_points.proofs.Points.{on_points}
use Rattle.grid_points.specs.Grid.{Point, at, num_blocks, first_index, same_point}
use Rattle.place.specs.Ends.{is_complete}
use Rattle.place.specs.Links.{linked}
use Rattle.place.specs.Places.{Simplex, set_t, label_set, order, is_unlabelled_place, is_place, all_labelled}
use Rattle.place.specs.Problem.{Problem, with_labels}
use Rattle.path_laws.proofs.BlocksOfGrid.{blocks_of, point_of, coefficient_of}
use Rattle.path_laws.proofs.ChainEnds.{complete-to, facet-end}
use Rattle.path_laws.proofs.ChainLinks.{link_of}
use Rattle.path_laws.proofs.LinkSymmetry.{parts, unlabelled-parts}
use Rattle.path_laws.proofs.Positions.{at_in, in_at, same_at}
use Rattle.path_laws.proofs.Meaning.{T_means}
use Rattle.path_laws.proofs.ToChain.{in_t, coefficients_of, label_of, place-long, labelled_chain_of}
use Rattle.path_laws.proofs.ToChain.{points_of_coefficients_of}
use Rattle.path_laws.specs.Demand.{HasStart}
use Rattle.trail.proofs.Outside.{in_outside, outside_in, outside-count}
use Rattle.trail.proofs.Shapes.{Shape, exchange, joins, leaves, shape_of, not_empty, points-distinct}
use Rattle.trail.proofs.SomeLinks.{LinkOver, stays_in, exchange_links, leave-links, join_links, number_of}
use Rattle.trail.proofs.Tables.{Labelled, some-table, some-index, has-start_with}
use Rattle.trail.proofs.Tells.{moves_of}
use Rattle.trail.specs.Change.{outside}
use Rattle.trail.specs.Trail.{is_move}

-- what goes through facet i of a chain has not its point i
pub not_there : {R : Blocks} {T : ℕ → Bool} {s : ℕ} (a : List (ℕ → ℕ)) {o : ℕ → ℕ} → Chain R T (suc s) (list_at a) o
    → {i : ℕ} → i ≤ suc s → (x : List (ℕ → ℕ)) → Through R T s a i x → (f : ℕ) → f < length x → list_at x f ≡ list_at a i
    → ⊥
not_there {s} a K {i} l x W f fl e =
    ⊎_elim
    (λ B. let b = B.1.2 in
    ⊎_elim (λ (q : f ≡ B.1.1). b.new (rw q at e))
    (λ n. let j = to_omit f b.omits_there b.bound (omega (arith, B.0)) n in
    let w = from_omit j.0 b.omits_here j.1 in
    twice w.0 w.2 w.3 (sym w.1 ∙ j.2 ∙ e))
    (same_or f B.1.1))
    (λ D. let w = from_omit f D.1.3 (omega (arith, D.0)) in twice w.0 w.2 w.3 (sym w.1 ∙ e))
    W
  where
    twice : (w : ℕ) → w < suc (suc s) → (w ≡ i → ⊥) → list_at a w ≡ list_at a i → ⊥
    twice w m n e =
        let r = rising-chain K in
        ⊎_elim
        (λ (z : w < i). r.new w i z (omega arith) e)
        (λ (z : i ≤ w). r.new i w (omega (arith, n)) m (sym e))
        (before_or_not w i)

-- over a table
module _ {q : Problem} (ok : HasStart q) (a : Simplex) (ha : is_place q a ≡ true) (own : all_labelled q a ≡ true) where
  long : (b : Simplex) → length (coefficients_of q b) ≡ length b
  long b = length-map b (coefficient_of q)

  same_points : (b c : Simplex) → is_place q b ≡ true → is_place q c ≡ true → coefficients_of q b ≡ coefficients_of q c
      → b ≡ c
  same_points b c hb hc e =
      sym (points_of_coefficients_of ok b (parts q b hb).grid_points) ∙ ap (map (point_of q)) e
      ∙ points_of_coefficients_of ok c (parts q c hc).grid_points

  onto : (b : Simplex) → is_place q b ≡ true → linked q a b ≡ true
      → LinkTo (blocks_of q) (label_of q) (in_t q a) (length (order q.grid a)) (coefficients_of q a) (coefficients_of q b)
  onto b hb e = from-same (blocks_of q) (label_of q) (labelled_chain_of ok a ha) (link_of ok a ha own b hb e)

  -- a larger place is above
  above : (b : Simplex) → is_place q b ≡ true → linked q a b ≡ true → length b ≡ suc (length a)
      → Above (blocks_of q) (label_of q) (in_t q a) (length (order q.grid a)) (coefficients_of q a) (coefficients_of q b)
  above b hb e l = go (onto b hb e)
    where
      go : LinkTo (blocks_of q) (label_of q) (in_t q a) (length (order q.grid a)) (coefficients_of q a) (coefficients_of q b)
          → Above (blocks_of q) (label_of q) (in_t q a) (length (order q.grid a)) (coefficients_of q a) (coefficients_of q b)
      go F = ⊎_elim
          (λ W. absurd (omega (arith, W.sizes, F.3.size, long b, l, place-long ok a ha)))
          (λ w. ⊎_elim
          (λ E. (F.0, F.1, F.2, F.3, E))
          (λ E. absurd (omega (arith, E.sizes, F.3.size, long b, l, place-long ok a ha)))
          w)
          F.4

  -- there is one only
  one-above : (b c : Simplex) → is_place q b ≡ true → is_place q c ≡ true → linked q a b ≡ true → linked q a c ≡ true
      → length b ≡ suc (length a) → length c ≡ suc (length a) → b ≡ c
  one-above b c hb hc eb ec lb lc =
      same_points b c hb hc (above-one (labelled_chain_of ok a ha) (above b hb eb lb) (above c hc ec lc))

  -- a place that is not larger lies through the facet whose point it has not
  module _ {s : ℕ}
      (A : LabelledChain (blocks_of q) (label_of q) (in_t q a) (suc s) (at (order q.grid a)) (coefficients_of q a)) (i : ℕ)
      (il : i < length a) where
    through : (b : Simplex) → is_place q b ≡ true → length b ≤ length a
        → ((j : ℕ) → j < length a → (j ≡ i → ⊥) → is_in same_point (nth a j) b ≡ true)
        → LinkTo (blocks_of q) (label_of q) (in_t q a) (suc s) (coefficients_of q a) (coefficients_of q b)
        → Through (blocks_of q) (in_t q a) s (coefficients_of q a) i (coefficients_of q b)
    through b hb l others F = ⊎_elim
        (λ W. ⊎_elim
        (λ (e : W.0 ≡ i). rw e at W.3)
        (λ n.
        let wl : W.0 < length a = omega (arith, W.1, A.size, long a) in
        let f = in_at on_points [] (nth a W.0) b (others W.0 wl n) in
        absurd (not_there (coefficients_of q a) A.chain W.1 (coefficients_of q b) W.3 f.0 (omega (arith, f.1, long b))
        (list_at-map (coefficient_of q) b f.0 f.1
        ∙ ap (coefficient_of q) f.2
        ∙ sym (list_at-map (coefficient_of q) a W.0 wl))))
        (same_or W.0 i))
        (λ X. absurd (omega (arith, X.4.sizes, X.3.size, A.size, long a, long b, l)))
        (exit A F)

  one_through : (i : ℕ) → i < length a → (b c : Simplex) → is_place q b ≡ true → is_place q c ≡ true → linked q a b ≡ true
      → linked q a c ≡ true → length b ≤ length a → length c ≤ length a
      → ((j : ℕ) → j < length a → (j ≡ i → ⊥) → is_in same_point (nth a j) b ≡ true)
      → ((j : ℕ) → j < length a → (j ≡ i → ⊥) → is_in same_point (nth a j) c ≡ true) → b ≡ c
  one_through i il b c hb hc eb ec lb lc ob oc =
      go (length (order q.grid a)) (place-long ok a ha) (labelled_chain_of ok a ha) (onto b hb eb) (onto c hc ec)
    where
      go : (t : ℕ) → length a ≡ suc t
          → LabelledChain (blocks_of q) (label_of q) (in_t q a) t (at (order q.grid a)) (coefficients_of q a)
          → LinkTo (blocks_of q) (label_of q) (in_t q a) t (coefficients_of q a) (coefficients_of q b)
          → LinkTo (blocks_of q) (label_of q) (in_t q a) t (coefficients_of q a) (coefficients_of q c) → b ≡ c
      go zero e A B C = let X = start_exit A B in absurd (omega (arith, X.4.sizes, X.3.size, long b, lb, e))
      go (suc s) e A B C =
          same_points b c hb hc
          (through_one (coefficients_of q a) A.chain (omega arith) (coefficients_of q b) (coefficients_of q c)
          (through A i il b hb lb ob B) (through A i il c hc lc oc C))

  -- at a facet end nothing lies through the facet,
  none_through : (i : ℕ) → i < length a → (j : ℕ) → j < num_blocks q.grid → label_set q (remove_at i a) ≡ set_t q a
      → is_complete q (remove_at i a) j ≡ true → (b : Simplex) → is_place q b ≡ true → linked q a b ≡ true
      → length b ≤ length a → ((j : ℕ) → j < length a → (j ≡ i → ⊥) → is_in same_point (nth a j) b ≡ true) → ⊥
  none_through i il j lj labels c b hb eb lb ob =
      go (length (order q.grid a)) (place-long ok a ha) (labelled_chain_of ok a ha) (onto b hb eb)
    where
      go : (t : ℕ) → length a ≡ suc t
          → LabelledChain (blocks_of q) (label_of q) (in_t q a) t (at (order q.grid a)) (coefficients_of q a)
          → LinkTo (blocks_of q) (label_of q) (in_t q a) t (coefficients_of q a) (coefficients_of q b) → ⊥
      go zero e A B = let X = start_exit A B in omega (arith, X.4.sizes, X.3.size, long b, lb, e)
      go (suc s) e A B =
          let E = facet-end ok a ha s e i (omega arith) own j lj labels c in
          let h = first_index q.grid j + 0 in
          let F : Fills (blocks_of q) (in_t q a) s (list_at (coefficients_of q a)) i = (
            h,
            complete-fills (blocks_of q) (label_of q) (in_t q a) (omega arith)
                (omit_is (suc s) i (list_at (coefficients_of q a))) E.inside h E.complete,
          ) in
          ⊎_elim
          (λ N. not_next_fills A.chain i (omega arith) (list_at (coefficients_of q b), N.1.0, N.1.1, N.1.2) F)
          (λ D. not_drops_fills A.chain (omega arith)
          (drops_of (coefficients_of q a) A.chain (coefficients_of q b) D.1.2 D.1.3) F)
          (through A i il b hb lb ob B)

  -- and at a place end nothing above
  none_above : (j : ℕ) → j < num_blocks q.grid → is_complete q a j ≡ true → (b : Simplex) → is_place q b ≡ true
      → linked q a b ≡ true → length b ≡ suc (length a) → ⊥
  none_above j lj c b hb eb lb =
      let A = labelled_chain_of ok a ha in
      let X = above b hb eb lb in
      let w = larger A X.3 X.4 in
      let h = first_index q.grid j + 0 in
      let C = complete-to ok a (parts q a ha).grid_points (length (order q.grid a)) (place-long ok a ha) j lj c in
      ⊎_elim (λ W. inside_not_complete (label_of q) A.chain A.covers W.2.all h C)
      (λ W. let e = larger_is (label_of q) A.chain A.covers W.1 w.1.1 X.4.covers in
      up_not_complete (label_of q) A.chain A.covers W.1 (rw e at w.1.1) w.1.2.1 h C)
      (kinds (label_of q) A.chain A.covers)

module _ {p : Problem} (ok : HasStart p) (a : Simplex) (ha : is_unlabelled_place p a ≡ true) where
  counted : (b : Simplex) → is_move p a b ≡ true
      → length (outside same_point a b) + length a ≡ length (outside same_point b a) + length b
  counted b m = outside-count on_points a b (points-distinct p a ha) (points-distinct p b (moves_of p a b m).place)

  -- over a table where the points but one carry T
  module _ {i x : ℕ} (il : i < length a) {labels : List ℕ} (L : Labelled p a i x labels) where
    all_known : all_labelled (with_labels p labels) a ≡ true
    all_known = L.known a (unlabelled-parts p a ha).grid_points

    others : (b : Simplex) → outside same_point b a ≡ nth a i ∷ [] → (j : ℕ) → j < length a → (j ≡ i → ⊥)
        → is_in same_point (nth a j) b ≡ true
    others b e j l n = stays_in a b e (nth a j) (at_in on_points [] a j l)
        (λ q. n (same_at on_points [] a (points-distinct p a ha) j i l il q))

    -- each move that takes that one out is a link,
    pub over-out : (b : Simplex) → is_move p a b ≡ true → outside same_point b a ≡ nth a i ∷ []
        → LinkOver p a b labels × (length b ≤ length a)
    over-out b m e = pick (shape_of ok a b ha (moves_of p a b m))
      where
        hb : is_unlabelled_place p b ≡ true
        hb = (moves_of p a b m).place

        pick : Shape p a b → LinkOver p a b labels × (length b ≤ length a)
        pick (exchange y w come out q) = (
          exchange_links a b ha hb il L e refl come q,
          omega (arith, counted b m, ap length come, ap length e),
        )
        pick (joins y g come out T) = absurd (omega (arith, ap length out, ap length e))
        pick (leaves w g come out T) = (
          leave-links a b ha hb il L e refl come T,
          omega (arith, counted b m, ap length come, ap length e),
        )

    -- and each by which its label comes into T
    pub over_into : (b : Simplex) → is_move p a b ≡ true → outside same_point b a ≡ []
        → outside eqb (set_t p a) (set_t p b) ≡ x ∷ []
        → LinkOver p a b labels × (length b ≡ suc (length a))
    over_into b m e t = pick (shape_of ok a b ha (moves_of p a b m))
      where
        pick : Shape p a b → LinkOver p a b labels × (length b ≡ suc (length a))
        pick (exchange y w come out q) = absurd (omega (arith, ap length out, ap length e))
        pick (joins y h come out T) =
            let n : h ≡ x = ⊎_elim
            (λ z. z)
            (λ z. absurd_bool (sym z))
            (in_cases on_numbers h x [] (rw t at (in_outside on_numbers h (set_t p b) (set_t p a) T.has T.out))) in (
              join_links a b ha (moves_of p a b m).place il L come out (rw n at T),
              omega (arith, counted b m, ap length come, ap length e),
            )
        pick (leaves w h come out T) = absurd (omega (arith, ap length out, ap length e))

    -- at a facet end there is no such move, nor at a place end
    pub out_none : (j : ℕ) → j < num_blocks p.grid
        → label_set (with_labels p labels) (remove_at i a) ≡ set_t (with_labels p labels) a
        → is_complete (with_labels p labels) (remove_at i a) j ≡ true → (b : Simplex) → is_move p a b ≡ true
        → outside same_point b a ≡ nth a i ∷ [] → ⊥
    out_none j lj s c b m e =
        let B = over-out b m e in
        none_through (has-start_with ok labels) a L.place all_known i il j lj s c b B.0.to B.0.by B.1 (others b e)

    pub into_none : (j : ℕ) → j < num_blocks p.grid → is_complete (with_labels p labels) a j ≡ true → (b : Simplex)
        → is_move p a b ≡ true → outside same_point b a ≡ [] → outside eqb (set_t p a) (set_t p b) ≡ x ∷ [] → ⊥
    into_none j lj c b m e t =
        let B = over_into b m e t in
        none_above (has-start_with ok labels) a L.place all_known j lj c b B.0.to B.0.by B.1

  -- the point that goes out tells the next place,
  pub out-tells : (b c : Simplex) → is_move p a b ≡ true → is_move p a c ≡ true → {z : Point}
      → outside same_point b a ≡ z ∷ [] → outside same_point c a ≡ z ∷ [] → b ≡ c
  out-tells b c mb mc {z} eb ec =
      let n = number_of ok a b eb in
      let t = some-table ok a ha n.0 0 n.1 (some-index ok) in
      let L = t.1 in
      let fb : outside same_point b a ≡ nth a n.0 ∷ [] = rw n.2 eb in
      let fc : outside same_point c a ≡ nth a n.0 ∷ [] = rw n.2 ec in
      let B = over-out n.1 L b mb fb in
      let C = over-out n.1 L c mc fc in
      one_through (has-start_with ok t.0) a L.place (all_known n.1 L) n.0 n.1 b c B.0.to C.0.to B.0.by C.0.by B.1 C.1
      (others n.1 L b fb) (others n.1 L c fc)

  -- and where none goes out, the index that comes into T
  pub into_tells : (b c : Simplex) → is_move p a b ≡ true → is_move p a c ≡ true → {g : ℕ} → outside same_point b a ≡ []
      → outside same_point c a ≡ [] → outside eqb (set_t p a) (set_t p b) ≡ g ∷ []
      → outside eqb (set_t p a) (set_t p c) ≡ g ∷ [] → b ≡ c
  into_tells b c mb mc {g} ob oc tb tc =
      let below =
      ((T_means p b g).0 (outside_in on_numbers g (set_t p b) (set_t p a) (rw tb (in_here on_numbers g []))).0).0 in
      let l = not_empty ok a ha in
      let t = some-table ok a ha 0 g l below in
      let L = t.1 in
      let B = over_into l L b mb ob tb in
      let C = over_into l L c mc oc tc in
      one-above (has-start_with ok t.0) a L.place (all_known l L) b c B.0.to C.0.to B.0.by C.0.by B.1 C.1
