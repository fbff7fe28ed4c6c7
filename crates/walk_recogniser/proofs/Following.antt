-- The coefficients of a block, each from the one before. In order: from 65,535 on; from the first on; what a
-- coefficient list gives. Assumes nothing.
use mathlib.Core.Bool.{true, cond}
use mathlib.Core.List.{List, [], ◌∷◌}
use mathlib.Core.Logic.{⊎_elim}
use mathlib.Core.Path.{◌≡◌, refl, ap, ◌∙◌}
use Prim.Native.Nat.{ℕ, ◌+◌, ◌-◌, ◌≤◌, ◌<◌}
use borrow.Author.Tests.{eqb-true, ne_eqb}
use lib.Dec.{eqb}
use Rattle.std.proofs.Common.{min}
use lib.ListN.{length, set, take, length-set}
use lib.Seq.{get_or-set_same, get_or-set_other, get_or-take}
use native.Mathlib.Numerals.{add-one}
use native.Mathlib.Omega.{arith}
use Rattle.combinatorics.proofs.Basics.{and_left, before_or_not, same_or}
use Rattle.combinatorics.specs.Lists.{sum}
use Rattle.grid_points.proofs.CoordinatesBelow.{division-low, low-divisions}
use Rattle.grid.proofs.Fields.{made-accepted, made-blocks, made-indices}
use Rattle.grid_points.proofs.Round.{block_at, block-fits}
use Rattle.grid_points.specs.Grid.{at, block_of, first_index, is_grid_point, next, num_indices, size}
use Rattle.grid.specs.Made.{IsMade, shape}
use Rattle.grid.specs.declared.Grid.{Grid as GridStruct}
use Rattle.place.specs.Coefficients.{IsCoefficients, coefficients}
use Rattle.place.specs.Problem.{Problem}
use Rattle.path_laws.proofs.BlocksOfGrid.{coefficient_of_is}
use Rattle.path_laws.proofs.Coefficients.{coefficients-at-most}
use Rattle.path_laws.specs.Demand.{HasStart}
use Rattle.walk_recogniser.proofs.Blocks.{next-sum}
use Rattle.walk_recogniser.specs.Pieces.{InBlock, PutIn, next_in_block, started_on}

-- h, or the first index where h is past the end
abbrev pub wrap : ℕ → ℕ → ℕ → ℕ
wrap first end h = cond (eqb h end) first h

wrap_inside : (first end h : ℕ) → h < end → wrap first end h ≡ h
wrap_inside first end h l = rw (ne_eqb h end (λ e. omega arith))

wrap_next : (first end h : ℕ) → wrap first end (h + 1) ≡ next_in_block first end h
wrap_next first end h = rw (add-one h)

-- x follows the coefficients of c from 65,535 on, and `least` is the least so far
pub record Follows (c : List ℕ) (first end h x least : ℕ) : Type 0 where
  pub here : x + at c first ≡ 65535 + at c (wrap first end h)
  pub low : 65535 ≤ least + at c first
  pub each : (k : ℕ) → first ≤ k → k < h → least + at c first ≤ 65535 + at c k

module _ (c v y : List ℕ) (first end : ℕ) (B : InBlock c v y first end) where
  module _ (h x least : ℕ) (a : first ≤ h) (l : h < end) (F : Follows c first end h x least) where
    pub follow-fits : at y h ≤ x + at v h
    follow-fits = omega (
      arith,
      F.here,
      wrap_inside first end h l,
      ap (at c) (wrap_inside first end h l),
      B.rule h a l,
      B.small first,
    )

    pub follow-small : x ≤ 131070
    follow-small = omega (arith, F.here, ap (at c) (wrap_inside first end h l), B.small h)

    on : x + at v h - at y h + at c first ≡ 65535 + at c (wrap first end (h + 1))
    on = omega (
      arith,
      F.here,
      ap (at c) (wrap_inside first end h l),
      B.rule h a l,
      B.small first,
      ap (at c) (wrap_next first end h),
    )

    pub follow_more : Follows c first end (h + 1) (x + at v h - at y h) (min least x)
    follow_more = record {
      here = on;
      low = omega (arith, F.here, F.low);
      each = λ k d e. ⊎_elim (λ (q : k ≡ h). rw q (omega (arith, F.here, ap (at c) (wrap_inside first end h l))))
          (λ (q : k ≡ h → ⊥). omega (arith, F.each k d (omega (arith, q)))) (same_or k h);
    }

  -- the same, stored from the first on
  module _ (h x : ℕ) (a : first ≤ h) (l : h < end) (F : x ≡ at c (wrap first end h)) where
    pub put_on : x + at v h - at y h ≡ at c (wrap first end (h + 1))
    put_on = omega (arith, ap (at c) (wrap_inside first end h l), B.rule h a l, ap (at c) (wrap_next first end h))

    pub put_more : (old new : List ℕ) → PutIn c first h old new → PutIn c first (h + 1) old (set new h x)
    put_more old new P = record {
      long = length-set new h x ∙ P.long;
      inside = λ k d e. ⊎_elim
          (λ (q : k ≡ h).
          rw q (get_or-set_same new h x 0 (omega (arith, P.long, B.few)) ∙ F ∙ ap (at c) (wrap_inside first end h l)))
          (λ (q : k ≡ h → ⊥). get_or-set_other new h k x 0 q ∙ P.inside k d (omega (arith, q)))
          (same_or k h);
      outside = λ k d. get_or-set_other new h k x 0 (λ q. omega arith) ∙ P.outside k d;
      behind = λ k d. get_or-set_other new h k x 0 (λ q. omega arith) ∙ P.behind k (omega arith);
    }

-- a grid that was made, with a start
pub has-start-on : (g : GridStruct) → IsMade g → (p : Problem) → p.grid ≡ shape g
    → is_grid_point p.grid p.start ≡ true → HasStart p
has-start-on g made p e s =
    let A = made-accepted g made in
    record {
      some_block = rw e A.some_block;
      six_blocks = rw e A.few_blocks;
      sizes = rw e A.sizes_two;
      sixteen_indices = rw e A.few_indices;
      same_number = rw e A.same_number;
      divisions = rw e A.divisions_one;
      low = rw e (low-divisions (shape g) A);
      start = s;
    }

module _ (g : GridStruct) (made : IsMade g) (v y : List ℕ) (start : is_grid_point (shape g) v ≡ true)
    (on : is_grid_point (shape g) (take g.indices y) ≡ true) where
  abbrev p : Problem
  p = started_on g v

  abbrev list : List ℕ
  list = coefficients p (take g.indices y)

  has_start : HasStart p
  has_start = has-start-on g made p refl start

  is : IsCoefficients p (take g.indices y) list
  is = coefficient_of_is has_start (take g.indices y) on

  start-long : length v ≡ num_indices (shape g)
  unfolding is_grid_point
  start-long = eqb-true (length v) (num_indices (shape g)) (and_left _ _ start)

  next-is : (j h : ℕ) → first_index (shape g) j ≤ h → h < first_index (shape g) j + size (shape g) j
      → next (shape g) h ≡ next_in_block (first_index (shape g) j) (first_index (shape g) j + size (shape g) j) h
  unfolding next
  next-is j h a b =
      let i = h - first_index (shape g) j in
      let z : h ≡ first_index (shape g) j + i = omega arith in
      let e : block_of (shape g) h ≡ j = ap (block_of (shape g)) z ∙ block_at (shape g).sizes j i (omega arith) in
      rw e

  rw_rule : (j h : ℕ) → first_index (shape g) j ≤ h → h < first_index (shape g) j + size (shape g) j
      → h < num_indices (shape g)
      → at y h + at list (next_in_block (first_index (shape g) j) (first_index (shape g) j + size (shape g) j) h)
      ≡ at v h + at list h
  rw_rule j h a b m =
      let r = is.rule h m in
      let t : at (take g.indices y) h ≡ at y h = get_or-take g.indices y h 0 (omega (arith, made-indices g made)) in
      omega (arith, r, t, ap (at list) (next-is j h a b))

  pub block_of_lem : (j : ℕ) → j < g.blocks
      → InBlock list v y (first_index (shape g) j) (first_index (shape g) j + size (shape g) j)
  block_of_lem j l =
      let G = shape g in
      let fits = block-fits G.sizes j in
      let few : num_indices G ≤ 16 = (made-accepted g made).few_indices in
      let w = is.zero j (omega (arith, made-blocks g made)) in
      record {
        some = omega (arith, w.1, w.2);
        few = omega arith;
        long = omega (arith, start-long);
        rule = λ h a b. rw_rule j h a b (omega arith);
        zero = (w.0, w.1, w.2, w.3);
        small = λ h. let b = coefficients-at-most p (take g.indices y) has_start.same_number start on h in
            omega (arith, b.1, division-low 60000 G.divisions has_start.low b.0);
      }

  -- the coefficients of the first j blocks
  abbrev pub Stored : List ℕ → ℕ → Type 0
  Stored l j = (k : ℕ) → k < first_index (shape g) j → at l k ≡ at list k

  pub stored_more : (j : ℕ) (old new : List ℕ)
      → PutIn list (first_index (shape g) j) (first_index (shape g) j + size (shape g) j) old new → Stored old j
      → Stored new (j + 1)
  stored_more j old new P S k l = ⊎_elim
      (λ (a : k < first_index (shape g) j). P.outside k a ∙ S k a)
      (λ (a : first_index (shape g) j ≤ k). P.inside k a (omega (arith, next-sum (shape g).sizes j)))
      (before_or_not k (first_index (shape g) j))

  pub stored-all : (l : List ℕ) (j : ℕ) → j ≡ g.blocks → Stored l j → (k : ℕ) → k < g.indices → at l k ≡ at list k
  stored-all l j e S k m = S k (omega (
    arith,
    ap (first_index (shape g)) (e ∙ made-blocks g made),
    take_all (shape g).sizes,
    made-indices g made,
  ))
    where
      take_all : (ss : List ℕ) → sum (take (length ss) ss) ≡ sum ss
      take_all [] = refl
      take_all (s ∷ ss) = ap (λ (x : ℕ). s + x) (take_all ss)
