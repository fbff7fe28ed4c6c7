-- The points that a state's first point and order give are those of the place it describes, and each can be computed.
-- Assumes nothing.
use mathlib.Core.Bool.{Bool}
use mathlib.Core.List.{List, [], ◌∷◌, map}
use mathlib.Core.Path.{◌≡◌, refl, sym, ◌∙◌}
use Prim.Native.Nat.{ℕ, zero, suc, ◌+◌, ◌-◌, ◌≤◌, ◌<◌}
use lib.ListN.{length, length-take}
use lib.Seq.{ext_get_or, get_or-take}
use native.Mathlib.Omega.{arith}
use Rattle.combinatorics.proofs.EditsRemove.{length-remove_at, remove_at-behind}
use Rattle.combinatorics.specs.Edits.{remove_at}
use Rattle.combinatorics.specs.Lists.{up_from}
use Rattle.geometry.proofs.Bridge.{changes_of}
use Rattle.geometry.proofs.Definitions.{back, coord, Moved}
use Rattle.geometry.proofs.LabelledChains.{list_at}
use Rattle.geometry.proofs.Moves.{next-moved}
use Rattle.geometry.proofs.Points.{nth}
use Rattle.grid_points.specs.Grid.{Point, at, num_indices, MovedBy}
use Rattle.grid_points.proofs.Points.{point-long}
use Rattle.place.specs.Places.{Simplex}
use Rattle.place.specs.Problem.{Problem}
use Rattle.path_laws.proofs.BlocksOfGrid.{blocks_of, back_below}
use Rattle.path_laws.proofs.FromChain.{coord_as, long}
use Rattle.path_laws.proofs.ToChain.{points_of}
use Rattle.path_laws.proofs.Filled.{FullyLabelled}
use Rattle.rules.proofs.Describes.{Describes}
use Rattle.rules.proofs.Range.{index_below, few, point-on, coord_below}
use Rattle.rules.proofs.Shifted.{length-shifted, shifted_at, shifted-moved}
use Rattle.rules.proofs.WaysRound.{source-from}
use Rattle.rules.specs.Read.{point_after, array_of, point_in, points_from, source_at, CanCompute}
use Rattle.rules.specs.Moves.{State}

map-up_from : (f : ℕ → Point) (l : Simplex) (b n : ℕ) → length l ≡ n → ((j : ℕ) → j < n → f (b + j) ≡ nth l j)
    → map f (up_from b n) ≡ l
map-up_from f [] b zero e h = refl
map-up_from f [] b (suc n) e h = absurd (omega arith)
map-up_from f (y ∷ l) b zero e h = absurd (omega arith)
map-up_from f (y ∷ l) b (suc n) e h =
    let z : b + 0 ≡ b = omega arith in
    let first : f b ≡ y = rw z at (h 0 (omega arith)) in
    let rest : map f (up_from (suc b) n) ≡ l = map-up_from f l (suc b) n (omega arith)
    (λ j m. let w : suc b + j ≡ b + suc j = omega arith in rw w (h (suc j) (omega arith))) in
    rw (first, rest)

module _ {p : Problem} (ok : FullyLabelled p) {T : ℕ → Bool} {t : ℕ} {o : ℕ → ℕ} {x : List (ℕ → ℕ)} {s : State}
    (D : Describes p T t o x s) where
  abbrev after : ℕ → List ℕ
  after i = array_of s i

  abbrev lower : ℕ → ℕ
  lower j = source_at s j

  pub order_below : (j : ℕ) → j < t → o j < num_indices p.grid
  order_below j l = index_below ok D.chain (o j) (D.chain.chain.order.within j l)

  -- step j of the chain is by the index of the order, and takes from the one found
  moves : (j : ℕ) → j < t
      → Moved (blocks_of p) (at s.order j) (lower j) (list_at x j) (list_at x (suc j)) × (lower j < num_indices p.grid)
  moves j l =
      let w = source-from ok D (o j) (order_below j l) in
      let e = D.order_at j l in
      let b : lower j ≡ back (blocks_of p).previous w.0 (o j) = rw e w.3 in
      (rw (b, e) (next-moved D.chain.chain j l w.2), rw b (back_below p w.0 (o j) (order_below j l)))

  pub after_is : (i : ℕ) → i ≤ t
      → (length (after i) ≡ 16) × ((k : ℕ) → k < num_indices p.grid → at (after i) k ≡ coord (blocks_of p) (list_at x i) k)
  unfolding point_after
  after_is zero l = (D.first_length, D.first_at)
  after_is (suc i) l =
      let y = after i in
      let h = at s.order i in
      let b = lower i in
      let r = after_is i (omega arith) in
      let m = moves i l in (
        length-shifted y h b ∙ r.0,
        λ k kl. omega (
          arith,
          shifted_at y h b (omega (arith, r.1 b m.1, m.0.gives)) k
              (omega (arith, r.0, ok.has_start.sixteen_indices)),
          changes_of m.0 k,
          r.1 k kl,
        ),
      )

  pub ready-point : (i : ℕ) → i ≤ t → CanCompute s i
  ready-point i l = record {
    low = omega (arith, D.order_length);
    few = omega (arith, D.order_length, few ok D.chain, ok.has_start.sixteen_indices);
    indices = λ j m.
        let jl : j < t = omega (arith, D.order_length) in
        omega (arith, D.order_at j jl, order_below j jl, ok.has_start.sixteen_indices);
    positive = λ j m.
        let jl : j < t = omega arith in
        let w = moves j jl in
        omega (arith, (after_is j (omega arith)).1 (lower j) w.1, w.0.gives);
    fits = λ j m.
        let jl : j < t = omega arith in
        let w = moves j jl in
        let hl : at s.order j < num_indices p.grid = omega (arith, D.order_at j jl, order_below j jl) in
        omega (
          arith,
          (after_is j (omega arith)).1 (at s.order j) hl,
          w.0.gains,
          coord_below ok D.chain (suc j) jl (at s.order j) hl,
        );
  }

  pub point-is : (i : ℕ) → i ≤ t → point_in p s i ≡ nth (points_of p x) i
  point-is i l =
      let m = num_indices p.grid in
      let r = after_is i l in
      let e : length (point_in p s i) ≡ m =
      length-take m (after i) ∙ omega (arith, r.0, ok.has_start.sixteen_indices) in
      ext_get_or 0 (point_in p s i) (nth (points_of p x) i) (e ∙ sym (point-long p.grid _ (point-on ok D.chain i l)))
      (λ k kl.
      let w : k < m = omega arith in
      get_or-take m (after i) k 0 w ∙ r.1 k w ∙ coord_as ok.has_start D.chain i l k w)

  -- each step of the order moves a point by its index
  pub moved_on : (i : ℕ) → i < t → MovedBy p.grid (point_in p s i) (point_in p s (suc i)) (at s.order i) (lower i)
  unfolding point_after
  moved_on i l =
      let r = after_is i (omega arith) in
      let w = moves i l in
      shifted-moved (after i) (at s.order i) (lower i) (num_indices p.grid)
      (omega (arith, r.1 (lower i) w.1, w.0.gives)) (omega (arith, r.0, ok.has_start.sixteen_indices))

  pub all-points : points_from p s 0 ≡ points_of p x
  all-points = map-up_from (point_in p s) (points_of p x) 0 (suc (length s.order) - 0)
      (long ok.has_start D.chain ∙ omega (arith, D.order_length))
      (λ j l. let w : 0 + j ≡ j = omega arith in rw w (point-is j (omega (arith, D.order_length))))

  pub later-points : points_from p s 1 ≡ remove_at 0 (points_of p x)
  later-points = map-up_from (point_in p s) (remove_at 0 (points_of p x)) 1 (suc (length s.order) - 1)
      (omega (
        arith,
        D.order_length,
        long ok.has_start D.chain,
        length-remove_at 0 (points_of p x) (omega (arith, long ok.has_start D.chain)),
      ))
      (λ j l.
      let w : 1 + j ≡ suc j = omega arith in
      rw w
      (point-is (suc j) (omega (arith, D.order_length)) ∙ sym (remove_at-behind [] 0 (points_of p x) j (omega arith))))
