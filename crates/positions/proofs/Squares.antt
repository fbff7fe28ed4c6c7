-- The positions of four grid points that make a square add up: those of two opposite corners have the sum of those of
-- the other two. Assumes nothing.
use mathlib.Core.Bool.{true}
use mathlib.Core.Logic.{◌⊎◌, inl, inr, ⊎_elim}
use mathlib.Core.Path.{◌≡◌, refl, sym, ap, ◌∙◌}
use Prim.Native.Nat.{ℕ, zero, suc, ◌+◌, ◌-◌, ◌*◌, ◌≤◌, ◌<◌}
use native.Mathlib.Nat.{add-mul, add_comm}
use native.Mathlib.Omega.{arith}
use Rattle.combinatorics.proofs.Basics.{same_or, before_or_not}
use Rattle.combinatorics.specs.Counting.{choose}
use Rattle.grid_points.proofs.Accepted.{Accepted, size-two}
use Rattle.grid_points.proofs.Round.{block_at, block-fits, block_spans}
use Rattle.grid_points.specs.Grid.{Grid, Point, position, num_blocks, num_indices, first_index, size, block_of, is_grid_point}
use Rattle.grid_points.specs.Grid.{MovedBy, block_count}
use Rattle.positions.specs.Squares.{Apart}
use Rattle.positions.proofs.ByTails.{tail, hits, hits_out, hits_in, tail-moved, rank, rank_one, rank_next}
use Rattle.positions.proofs.ByTails.{before, position-is}

-- one step makes a of y; another makes b of y, and d of a
pub record Square (g : Grid) (y a b d : Point) (h c k e : ℕ) : Type 0 where
  pub point_y : is_grid_point g y ≡ true
  pub point_a : is_grid_point g a ≡ true
  pub point_b : is_grid_point g b ≡ true
  pub point_d : is_grid_point g d ≡ true
  pub moved_a : MovedBy g y a h c
  pub moved_b : MovedBy g y b k e
  pub moved_d : MovedBy g a d k e
  pub low_h : h < num_indices g
  pub low_k : k < num_indices g
  pub block_c : block_of g c ≡ block_of g h
  pub block_e : block_of g e ≡ block_of g k
  pub apart : Apart g h c k e

-- of two steps in a block that are apart, one at least has both its indices in a tail or none
hits_apart : (c h e k i n : ℕ) → c < h → h ≤ e → e < k → k < i + n
    → (hits c i n ≡ hits h i n) ⊎ (hits e i n ≡ hits k i n)
hits_apart c h e k i n u v w l =
    ⊎_elim (λ (m : e < i). inl (hits_out c i n (inl (omega arith)) ∙ sym (hits_out h i n (inl (omega arith)))))
    (λ (m : i ≤ e). inr (hits_in e i n m (omega arith) ∙ sym (hits_in k i n (omega arith) l)))
    (before_or_not e i)

-- two numbers are two others, in some order
abbrev Paired : ℕ → ℕ → ℕ → ℕ → Type 0
Paired p q r s = ((p ≡ r) × (q ≡ s)) ⊎ ((p ≡ s) × (q ≡ r))

paired_adds : (f : ℕ → ℕ) (p q r s : ℕ) → Paired p q r s → f p + f q ≡ f r + f s
paired_adds f p q r s = ⊎_elim (λ e. rw (e.0, e.1)) (λ e. rw (e.0, e.1) (add_comm (f s) (f r)))

-- where the tails pair up at each index, the positions in the block add up
rank_adds : (y a b d : Point) (n i : ℕ) → 1 ≤ n
    → ((p q : ℕ) → i ≤ p → p + q ≡ i + n → Paired (tail a p q) (tail b p q) (tail y p q) (tail d p q))
    → rank a i n + rank b i n ≡ rank y i n + rank d i n
rank_adds y a b d zero i l paired = absurd (omega arith)
rank_adds y a b d (suc zero) i l paired = omega (arith, rank_one y i, rank_one a i, rank_one b i, rank_one d i)
rank_adds y a b d (suc (suc n)) i l paired =
    let counts : ℕ → ℕ = λ t. choose (t + suc n) (suc n) in
    omega (
      arith,
      rank_next y i n,
      rank_next a i n,
      rank_next b i n,
      rank_next d i n,
      paired_adds counts _ _ _ _ (paired i (suc (suc n)) (omega arith) refl),
      paired_adds counts _ _ _ _ (paired (suc i) (suc n) (omega arith) (omega arith)),
      rank_adds y a b d (suc n) (suc i) (omega arith) (λ p q m t. paired p q (omega arith) (omega arith)),
    )

-- an index of another block is in no tail of block j
outside : (g : Grid) (j i n x : ℕ) → first_index g j ≤ i → i + n ≡ first_index g j + size g j → (block_of g x ≡ j → ⊥)
    → hits x i n ≡ 0
outside g j i n x l m o = ⊎_elim
    (λ (p : x < i). hits_out x i n (inl p))
    (λ (p : i ≤ x). ⊎_elim
    (λ (q : x < i + n). absurd (o (here p q)))
    (λ (q : i + n ≤ x). hits_out x i n (inr q))
    (before_or_not x (i + n)))
    (before_or_not x i)
  where
    here : i ≤ x → x < i + n → block_of g x ≡ j
    here p q =
        let z : first_index g j + (x - first_index g j) ≡ x = omega arith in
        rw z at (block_at g.sizes j (x - first_index g j) (omega arith))

module _ (g : Grid) (y a b d : Point) (h c k e : ℕ) (x : Accepted g) (s : Square g y a b d h c k e) where
  -- in each tail of a block one of the two steps changes nothing
  hits_same : (j i n : ℕ) → first_index g j ≤ i → i + n ≡ first_index g j + size g j
      → (hits c i n ≡ hits h i n) ⊎ (hits e i n ≡ hits k i n)
  hits_same j i n l m = ⊎_elim
      (λ p. ⊎_elim (inside p) (λ q. inr (none e k s.block_e q)) (same_or (block_of g k) j))
      (λ p. inl (none c h s.block_c p))
      (same_or (block_of g h) j)
    where
      none : (u v : ℕ) → block_of g u ≡ block_of g v → (block_of g v ≡ j → ⊥) → hits u i n ≡ hits v i n
      none u v t o = outside g j i n u l m (λ q. o (sym t ∙ q)) ∙ sym (outside g j i n v l m o)

      inside : block_of g h ≡ j → block_of g k ≡ j → (hits c i n ≡ hits h i n) ⊎ (hits e i n ≡ hits k i n)
      inside p q =
          let below_h : h < first_index g j + size g j = rw p at (block_spans g.sizes h s.low_h).2 in
          let below_k : k < first_index g j + size g j = rw q at (block_spans g.sizes k s.low_k).2 in
          ⊎_elim
          (λ o. absurd (o (p ∙ sym q)))
          (λ o. ⊎_elim
          (λ v. hits_apart c h e k i n o.0 v o.1 (omega arith))
          (λ v. ⊎_elim inr inl (hits_apart e k c h i n o.1 v o.0 (omega arith)))
          o.2)
          s.apart

  tails_paired : (j i n : ℕ) → first_index g j ≤ i → i + n ≡ first_index g j + size g j
      → Paired (tail a i n) (tail b i n) (tail y i n) (tail d i n)
  tails_paired j i n l m =
      let f : i + n ≤ num_indices g = omega (arith, block-fits g.sizes j) in
      let of_a = tail-moved g y a h c s.moved_a i n f in
      let of_b = tail-moved g y b k e s.moved_b i n f in
      let of_d = tail-moved g a d k e s.moved_d i n f in
      ⊎_elim (λ q. inl (omega arith, omega arith)) (λ q. inr (omega arith, omega arith)) (hits_same j i n l m)

  before_adds : (j : ℕ) → j ≤ num_blocks g → before g a j + before g b j ≡ before g y j + before g d j
  before_adds zero l = refl
  before_adds (suc j) l =
      let n : ℕ = block_count g j in
      let p : before g a j * n + before g b j * n ≡ before g y j * n + before g d j * n =
      sym (add-mul (before g a j) (before g b j) n)
      ∙ ap (λ t. t * n) (before_adds j (omega arith))
      ∙ add-mul (before g y j) (before g d j) n in
      omega (arith, rank_adds y a b d (size g j) (first_index g j) (omega (arith, (size-two g x j l).0)) (tails_paired j))

  pub square_adds : position g a + position g b ≡ position g y + position g d
  square_adds = omega (
    arith,
    before_adds (num_blocks g) (omega arith),
    position-is g y x s.point_y,
    position-is g a x s.point_a,
    position-is g b x s.point_b,
    position-is g d x s.point_d,
  )
