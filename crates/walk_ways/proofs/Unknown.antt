-- A point without a label is the one whose label the others do not need. Assumes nothing.
use mathlib.Core.Bool.{true, false}
use mathlib.Core.List.{List}
use mathlib.Core.Logic.{◌⊎◌, inl, inr, ⊎_elim}
use mathlib.Core.Path.{◌≡◌, refl, sym, ap, ◌∙◌, subst}
use Prim.Native.Nat.{ℕ, zero, suc, ◌≤◌, ◌<◌}
use borrow.Author.Tests.{le-leb}
use lib.Dec.{eqb}
use lib.ListN.{length}
use native.Mathlib.Omega.{arith}
use Rattle.combinatorics.proofs.Basics.{absurd_bool, before_or_not, false_of, same_or}
use Rattle.combinatorics.specs.Lists.{is_in}
use Rattle.geometry.proofs.Definitions.{Twice}
use Rattle.geometry.proofs.Exits.{kinds}
use Rattle.geometry.proofs.LabelledChains.{LabelledChain, list_at}
use Rattle.geometry.proofs.Points.{list_at-map, nth}
use Rattle.grid_points.specs.Grid.{Point, at, num_indices}
use Rattle.place.specs.Coefficients.{coefficients}
use Rattle.place.specs.Places.{Simplex, is_place, set_t}
use Rattle.place.specs.Problem.{Problem, label}
use Rattle.path_laws.proofs.BlocksOfGrid.{blocks_of, coefficient_of, point_coefficient_of}
use Rattle.path_laws.proofs.LinkSymmetry.{parts}
use Rattle.path_laws.proofs.Meaning.{T_means}
use Rattle.path_laws.proofs.ToChain.{coefficients_of, grid-at, in_t, index-suc, index_of, label_of, labelled_chain_of}
use Rattle.path_laws.specs.Demand.{Accepted}
use Rattle.walks.specs.Kept.{kept_points}
use Rattle.walk_ways.proofs.Carried.{covering, points-long}
use Rattle.walk_ways.proofs.Gap.{gap-only}
use Rattle.walk_ways.proofs.Kept.{T-same, order_same}
use Rattle.walk_ways.specs.Spare.{Spare, again, outside, unknown}

module _ {p : Problem} (ok : Accepted p) (y : Point) (o : List ℕ)
    (place : is_place p (kept_points p.grid y o) ≡ true) where
  abbrev s : Simplex
  s = kept_points p.grid y o

  T-own : (k : ℕ) → in_t p s k ≡ is_in eqb k o
  unfolding set_t coefficients
  T-own k = T-same ok y o place k

  label-own : (j : ℕ) → j ≤ length o
      → label_of p (list_at (coefficients_of p s) j) ≡ index_of (num_indices p.grid) (label p (nth s j))
  label-own j l =
      let jl : j < length s = omega (arith, points-long ok y o place) in
      ap (label_of p) (list_at-map (coefficient_of p) s j jl)
      ∙ ap
      (λ (z : Point). index_of (num_indices p.grid) (label p z))
      (point_coefficient_of ok.has_start (nth s j) (grid-at ok.has_start s (parts p s place).grid_points j jl))

  index-own : (j k : ℕ) → j ≤ length o → k < num_indices p.grid → label p (nth s j) ≡ suc k
      → label_of p (list_at (coefficients_of p s) j) ≡ k
  index-own j k l low e = label-own j l
      ∙ ap (index_of (num_indices p.grid)) e
      ∙ rw (le-leb 1 (suc k) (omega arith), le-leb (suc k) (num_indices p.grid) (omega arith))

  pub unknown-only : (n : ℕ) → length o ≡ suc n → (i j : ℕ) → i ≤ suc n → j ≤ suc n → Spare p s o i
      → label p (nth s j) ≡ 0 → j ≡ i
  unknown-only n e i j il jl S z = sym
      (gap-only ok.has_start s place n (ap length (order_same ok y o place) ∙ e) j jl z i il (λ k t.
      let m = sym (T-own k) ∙ t in
      let low = ((T_means p s k).0 t).0 in
      let w = covering ok y o place k m in
      ⊎_elim
      (λ (q : w.0 ≡ i). other k m low (rw q at w.2) S)
      (λ q. (w.0, omega (arith, w.1), q, index-own w.0 k w.1 low w.2))
      (same_or w.0 i)))
    where
      other : (k : ℕ) → is_in eqb k o ≡ true → k < num_indices p.grid → label p (nth s i) ≡ suc k → Spare p s o i
          → (j : ℕ) × (j ≤ suc n) × (j ≡ i → ⊥) × (label_of p (list_at (coefficients_of p s) j) ≡ k)
      other k m low q (unknown u) = absurd (omega (arith, q, u))
      other k m low q (outside h u f) = let r : h ≡ k = omega (arith, q, u) in absurd_bool (sym (rw (← r) at m) ∙ f)
      other k m low q (again a l ne u) = (a, omega (arith, l), ne, index-own a k l low (u ∙ q))

  -- one of the points has no label, or one outside T, or that of a point before it
  abbrev pub SpareAt : ℕ → Type 0
  SpareAt j = (label p (nth s j) ≡ 0)
      ⊎ (((h : ℕ) × (label p (nth s j) ≡ suc h) × (is_in eqb h o ≡ false))
      ⊎ ((i : ℕ) × (i < j) × (label p (nth s i) ≡ label p (nth s j))))

  own-chain : LabelledChain (blocks_of p) (label_of p) (in_t p s) (length o) (at o) (coefficients_of p s)
  own-chain = subst
      (λ (r : List ℕ). LabelledChain (blocks_of p) (label_of p) (in_t p s) (length r) (at r) (coefficients_of p s))
      (order_same ok y o place) (labelled_chain_of ok.has_start s place)

  pub some-spare : (j : ℕ) × (j ≤ length o) × SpareAt j
  some-spare = ⊎_elim
      (λ w. twice w.0 w.1 w.2)
      (λ w. (w.0, w.1.first, beyond w.0 w.1.first w.1.out))
      (kinds (label_of p) own-chain.chain own-chain.covers)
    where
      beyond : (j : ℕ) → j ≤ length o → in_t p s (label_of p (list_at (coefficients_of p s) j)) ≡ false
          → (label p (nth s j) ≡ 0)
          ⊎ (((h : ℕ) × (label p (nth s j) ≡ suc h) × (is_in eqb h o ≡ false))
          ⊎ ((i : ℕ) × (i < j) × (label p (nth s i) ≡ label p (nth s j))))
      beyond j l f = go (label p (nth s j)) refl
        where
          go : (n : ℕ) → label p (nth s j) ≡ n
              → (label p (nth s j) ≡ 0)
              ⊎ (((h : ℕ) × (label p (nth s j) ≡ suc h) × (is_in eqb h o ≡ false))
              ⊎ ((i : ℕ) × (i < j) × (label p (nth s i) ≡ label p (nth s j))))
          go zero e = inl e
          go (suc h) e = inr (inl (
            h,
            e,
            false_of _ (λ m.
                let t : in_t p s h ≡ true = T-own h ∙ m in
                absurd_bool (sym t ∙ ap (in_t p s) (sym (index-own j h l ((T_means p s h).0 t).0 e)) ∙ f)),
          ))

      label_in_lem : (j : ℕ) → j ≤ length o → in_t p s (label_of p (list_at (coefficients_of p s) j)) ≡ true
          → suc (label_of p (list_at (coefficients_of p s) j)) ≡ label p (nth s j)
      label_in_lem j l t = ap suc (label-own j l)
          ∙ index-suc (num_indices p.grid) (label p (nth s j)) (omega (arith, label-own j l, ((T_means p s _).0 t).0))

      twice : (a b : ℕ) → Twice (in_t p s) (length o) (λ j. label_of p (list_at (coefficients_of p s) j)) a b
          → (j : ℕ) × (j ≤ length o)
          × ((label p (nth s j) ≡ 0)
          ⊎ (((h : ℕ) × (label p (nth s j) ≡ suc h) × (is_in eqb h o ≡ false))
          ⊎ ((i : ℕ) × (i < j) × (label p (nth s i) ≡ label p (nth s j)))))
      twice a b W =
          let e : label p (nth s a) ≡ label p (nth s b) =
          sym (label_in_lem a W.first (W.all a W.first)) ∙ ap suc W.same ∙ label_in_lem b W.second (W.all b W.second) in
          ⊎_elim
          (λ (l : a < b). (b, W.second, inr (inr (a, l, e))))
          (λ (l : b ≤ a). (a, W.first, inr (inr (b, omega (arith, W.apart), sym e))))
          (before_or_not a b)
