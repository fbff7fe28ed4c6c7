-- The points of the path's end: what its answer buffer has to hold. Assumes nothing.
use mathlib.Core.Bool.{Bool, true}
use mathlib.Core.List.{List, [], ◌∷◌, map}
use mathlib.Core.Logic.{⊎_elim}
use mathlib.Core.Path.{◌≡◌, sym}
use Prim.Native.Nat.{ℕ, zero, suc, pred, ◌≤◌}
use borrow.Author.Tests.{ltb-true}
use lib.Dec.{ltb}
use lib.ListN.{length}
use native.Mathlib.Omega.{arith}
use Rattle.combinatorics.proofs.Basics.{absurd_bool, true_or_false, and_both, and_left, and_right}
use Rattle.combinatorics.proofs.EditsRemove.{length-remove_at}
use Rattle.combinatorics.proofs.Lists.{in_here}
use Rattle.combinatorics.proofs.Rising.{rising_less}
use Rattle.combinatorics.specs.Edits.{remove_at}
use Rattle.combinatorics.specs.Lists.{all, is_in, rising}
use Rattle.grid_points.specs.Grid.{dimension, is_grid_point}
use Rattle.place.specs.Coefficients.{coefficient_sum}
use Rattle.place.specs.Ends.{End, stop, facets}
use Rattle.place.specs.Path.{same_simplex}
use Rattle.place.specs.Places.{Simplex, is_place}
use Rattle.place.specs.Problem.{Problem}
use Rattle.path_laws.proofs.Bound.{order-short}
use Rattle.path_laws.proofs.Facets.{one_less-at}
use Rattle.path_laws.proofs.LinkSymmetry.{parts}
use Rattle.path_laws.proofs.ToChain.{place-long}
use Rattle.path_laws.proofs.Ways.{IsWay, by_place, by_facet, end_is, on_ends}
use Rattle.path_laws.specs.Demand.{HasStart, IsPath, place_at}

-- a simplex of the grid: 1 to n + 1 grid points, in rising order of coefficient sum
pub record IsSimplex (p : Problem) (s : Simplex) : Type 0 where
  pub some : 1 ≤ length s
  pub few : length s ≤ suc (dimension p.grid)
  pub on_grid : all (is_grid_point p.grid) s ≡ true
  pub in_order : rising (map (coefficient_sum p) s) ≡ true

all-remove_at : {A : Type 0} (q : A → Bool) (i : ℕ) (xs : List A) → all q xs ≡ true → all q (remove_at i xs) ≡ true
all-remove_at q i [] a = a
all-remove_at q zero (x ∷ xs) a = and_right (q x) (all q xs) a
all-remove_at q (suc i) (x ∷ xs) a =
    and_both _ _ (and_left (q x) (all q xs) a) (all-remove_at q i xs (and_right (q x) (all q xs) a))

module _ (p : Problem) (ok : HasStart p) where
  place-simplex : (s : Simplex) → is_place p s ≡ true → IsSimplex p s
  place-simplex s h =
      let l = place-long ok s h in
      record {
        some = omega (arith, l);
        few = omega (arith, l, order-short p s h);
        on_grid = (parts p s h).grid_points;
        in_order = (parts p s h).in_order;
      }

  -- "a place of two or more points, less one"
  facet-simplex : (s f : Simplex) → is_place p s ≡ true → is_in same_simplex f (facets s) ≡ true → IsSimplex p f
  facet-simplex s f h m =
      ⊎_elim
      (λ t. let i = one_less-at s f (rw t at m) in
      let w = place-simplex s h in
      let l = length-remove_at i.0 s i.1 in
      let two = ltb-true 1 (length s) t in
      rw i.2 (record {
        some = omega (arith, l, two);
        few = omega (arith, l, w.few);
        on_grid = all-remove_at (is_grid_point p.grid) i.0 s w.on_grid;
        in_order = rising_less (coefficient_sum p) i.0 s w.in_order;
      }))
      (λ n. absurd_bool (sym (rw n at m)))
      (true_or_false (ltb 1 (length s)))

  stop-simplex : (s : Simplex) (e : End) → is_place p s ≡ true → IsWay p s (stop e) → IsSimplex p e.simplex
  stop-simplex s e h (by_place j l c) = place-simplex s h
  stop-simplex s e h (by_facet f j m q l c) = facet-simplex s f h m

  -- the end of a path
  pub end-simplex : {s : List Simplex} {e : End} → IsPath p s e → IsSimplex p e.simplex
  end-simplex {s} {e} k =
      let n = pred (length s) in
      let w = k.finishes in
      stop-simplex (place_at s n) e (k.follows.places n (omega (arith, k.follows.nonempty)))
      (end_is p (place_at s n) e (rw w.1 (in_here on_ends e w.0)))
