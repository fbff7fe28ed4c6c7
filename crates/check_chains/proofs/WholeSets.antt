-- The set of a whole coefficient list, block by block. In order: where blocks begin; the blocks so far; the whole list;
-- a block without a set. Assumes nothing.
use mathlib.Core.Bool.{Bool, true, false, cond}
use mathlib.Core.List.{List, [], ◌∷◌}
use mathlib.Core.Logic.{⊎_elim}
use mathlib.Core.Path.{◌≡◌, sym, ap, ◌∙◌}
use Prim.Native.Nat.{ℕ, zero, suc, ◌+◌, ◌-◌, ◌≤◌, ◌<◌}
use borrow.Author.Tests.{leb-true, lt-ltb, le-ltb}
use lib.Dec.{leb}
use lib.ListN.{length, get_or, take}
use lib.Seq.{take-length}
use native.Mathlib.Numerals.{add-one}
use native.Mathlib.Omega.{arith}
use Rattle.combinatorics.proofs.Basics.{before_or_not, false_of}
use Rattle.combinatorics.specs.Lists.{sum}
use Rattle.combinatorics.proofs.Lists.{sums_rise}
use Rattle.geometry.proofs.LabelledChains.{tabulate}
use Rattle.geometry.proofs.Onward.{length_tabulate, get_d_tabulate}
use Rattle.grid_points.proofs.Accepted.{Accepted, size-two}
use Rattle.grid_points.proofs.CoordinatesBelow.{in_limits}
use Rattle.grid.proofs.Fields.{made-accepted, made-first, made-size, size-range as fields-size}
use Rattle.grid_points.proofs.Round.{Seat, seat, next-at, next-round, block-fits}
use Rattle.grid_points.specs.Grid.{Grid, Point, at, num_blocks, num_indices, first_index, size, next, is_grid_point}
use Rattle.grid.specs.Made.{shape, IsMade}
use Rattle.grid.specs.declared.Grid.{Grid as GridStruct}
use Rattle.rules.proofs.Masks.{bit-none}
use Rattle.place.specs.Coefficients.{IsCoefficients}
use Rattle.path_laws.proofs.BlocksOfGrid.{coefficient_of_is}
use Rattle.check_simplices.proofs.Tests.{at-index, coefficients_by, has-start}
use Rattle.check_simplices.specs.Chains.{starting_at, coefficients_from, zero_or_one}
use Rattle.check_chains.specs.Follow.{GoesRound, HasZero, closed, Added}
use Rattle.check_chains.specs.Sets.{bit_number, ClearFrom, IsSet}

-- each block begins where the one before ends
pub first_next : (ss : List ℕ) (j : ℕ) → sum (take (suc j) ss) ≡ sum (take j ss) + get_or ss j 0
first_next [] zero = omega arith
first_next [] (suc j) = omega arith
first_next (s ∷ ss) zero = omega arith
first_next (s ∷ ss) (suc j) = omega (arith, first_next ss j)

-- where the block j begins and ends, for these sizes
abbrev first_of : List ℕ → ℕ → ℕ
first_of ss j = sum (take j ss)

abbrev pub end_of : List ℕ → ℕ → ℕ
end_of ss j = first_of ss j + get_or ss j 0

goes_same : {p z : Point} {first end : ℕ} {f e : ℕ → ℕ} → first ≤ end → ((k : ℕ) → first ≤ k → k ≤ end → f k ≡ e k)
    → GoesRound p z first end f
    → GoesRound p z first end e
goes_same {first = first} {end} l same G = record {
  small = λ k m n. rw (← same k m n) (G.small k m n);
  rule = λ k m n. rw (← same k m (omega arith), ← same (suc k) (omega arith) (omega arith)) (G.rule k m n);
  round = sym (same end l (omega arith)) ∙ G.round ∙ same first (omega arith) l;
}

-- the blocks before j have their sets
pub record AllAdded (ss : List ℕ) (p z : Point) (j set : ℕ) : Type 0 where
  pub clear : ClearFrom (first_of ss j) set
  pub below : set < 65536
  pub goes : (i : ℕ) → i < j
      → GoesRound p z (first_of ss i) (end_of ss i) (closed (first_of ss i) (end_of ss i) (bit_number set))
  pub zeros : (i : ℕ) → i < j → HasZero (first_of ss i) (end_of ss i) (bit_number set)

module _ {ss : List ℕ} {p z : Point} where
  pub none_added : AllAdded ss p z 0 0
  none_added = record {
    clear = λ k l m. bit-none k m;
    below = omega arith;
    goes = λ i l. absurd (omega arith);
    zeros = λ i l. absurd (omega arith);
  }

  pub one_added : {j old set : ℕ} → AllAdded ss p z j old → 0 < get_or ss j 0
      → Added p z (first_of ss j) (end_of ss j) old set → HasZero (first_of ss j) (end_of ss j) (bit_number set)
      → AllAdded ss p z (j + 1) set
  one_added {j} {old} {set} A positive B zero-here = record {
    clear = rw (add-one j, first_next ss j) B.clear;
    below = B.below;
    goes = λ i l. ⊎_elim (λ (x : i < j). goes_same (omega arith) (λ k m n. agree-closed i x k) (A.goes i x))
        (λ (x : j ≤ i). let e : i ≡ j = omega arith in rw e B.goes) (before_or_not i j);
    zeros = λ i l. ⊎_elim
        (λ (x : i < j). let w = A.zeros i x in
        (w.0, w.1, w.2, sym (agree w.0 (omega (arith, w.2, sums_rise ss i j x))) ∙ w.3))
        (λ (x : j ≤ i). let e : i ≡ j = omega arith in rw e zero-here) (before_or_not i j);
  }
    where
      agree : (k : ℕ) → k < first_of ss j → bit_number old k ≡ bit_number set k
      agree k l = ap (λ (b : Bool). cond b 1 0) (sym (B.kept k l))

      agree-closed : (i : ℕ) → i < j → (k : ℕ)
          → closed (first_of ss i) (end_of ss i) (bit_number old) k ≡ closed (first_of ss i) (end_of ss i) (bit_number set) k
      agree-closed i x k =
          let l = sums_rise ss i j x in
          ⊎_elim (λ (y : k < end_of ss i). rw (lt-ltb k (end_of ss i) y) (agree k (omega arith)))
          (λ (y : end_of ss i ≤ k). rw (le-ltb k (end_of ss i) y) (agree (first_of ss i) (omega (arith, some_size i x))))
          (before_or_not k (end_of ss i))
        where
          some_size : (i : ℕ) → i < j → first_of ss i < end_of ss i
          some_size i x = let w = A.zeros i x in omega (arith, w.1, w.2)

-- a block of a grid that is made
pub record IsBlock (s : GridStruct) (j : ℕ) : Type 0 where
  pub first_is : get_or s.firsts j 0 ≡ first_index (shape s) j
  pub size_is : get_or s.sizes j 0 ≡ size (shape s) j
  pub two : 2 ≤ size (shape s) j
  pub inside : end_of (shape s).sizes j ≤ num_indices (shape s)
  pub few : num_indices (shape s) ≤ 16

pub is_block : (s : GridStruct) → IsMade s → (j : ℕ) → j < s.blocks → IsBlock s j
is_block s m j l = record {
  first_is = made-first s m j l;
  size_is = made-size s m j l;
  two = (fields-size s m j l).0;
  inside = block-fits (shape s).sizes j;
  few = (made-accepted s m).few_indices;
}

module _ {g : Grid} (A : Accepted g) (p z : Point) (hp : is_grid_point g p ≡ true) (hz : is_grid_point g z ≡ true) where
  -- all blocks have their sets
  pub whole_set : (set : ℕ) → AllAdded g.sizes p z (num_blocks g) set → IsSet (num_indices g) (coefficients_from g p z) set
  whole_set set all-added =
      let list : coefficients_from g p z ≡ tabulate (num_indices g) (bit_number set) =
      coefficients_by (in_limits g A) p z hp hz (bit_number set) all-added.zeros rule in
      record {
        long = ap length list ∙ length_tabulate (num_indices g) (bit_number set);
        is = λ k l. ap (λ (c : List ℕ). at c k) list ∙ get_d_tabulate 0 (num_indices g) (bit_number set) k l;
        clear = rw all-indices at all-added.clear;
        below = all-added.below;
      }
    where
      all-indices : first_index g (num_blocks g) ≡ num_indices g
      all-indices = ap sum (take-length g.sizes)

      rule : (k : ℕ) → k < num_indices g → at z k + bit_number set (next g k) ≡ at p k + bit_number set k
      rule k l = go (seat g k l)
        where
          go : Seat g k → at z k + bit_number set (next g k) ≡ at p k + bit_number set k
          go s =
              let j = s.j in
              let i = s.i in
              let first = first_index g j in
              let r = (all-added.goes j s.block).rule k (omega (arith, s.is)) (omega (arith, s.is, s.inside)) in
              let here : closed first (end_of g.sizes j) (bit_number set) k ≡ bit_number set k =
              rw (lt-ltb k (end_of g.sizes j) (omega (arith, s.is, s.inside))) in
              ⊎_elim
              (λ (x : suc i < size g j).
              let n : next g k ≡ suc k = rw s.is (next-at g j i x ∙ omega arith) in
              let there : closed first (end_of g.sizes j) (bit_number set) (suc k) ≡ bit_number set (suc k) =
              rw (lt-ltb (suc k) (end_of g.sizes j) (omega (arith, s.is))) in
              rw n (omega arith))
              (λ (x : size g j ≤ suc i).
              let n : next g k ≡ first = rw s.is (next-round g j i (omega (arith, s.inside))) in
              let there : closed first (end_of g.sizes j) (bit_number set) (suc k) ≡ bit_number set first =
              rw (le-ltb (suc k) (end_of g.sizes j) (omega (arith, s.is))) in
              rw n (omega arith))
              (before_or_not (suc i) (size g j))

  -- a block without a set
  pub no-set : (j : ℕ) → j < num_blocks g → ((f : ℕ → ℕ) → GoesRound p z (first_index g j) (end_of g.sizes j) f → ⊥)
      → zero_or_one g (coefficients_from g p z) ≡ false
  no-set j lj none = false_of _
      (λ h. none (closed (first_index g j) (end_of g.sizes j) (at c)) (record {
        small = λ k m n. ⊎_elim
            (λ (x : k < end_of g.sizes j).
            rw (lt-ltb k (end_of g.sizes j) x) (small h k (omega (arith, block-fits g.sizes j))))
            (λ (x : end_of g.sizes j ≤ k). rw (le-ltb k (end_of g.sizes j) x)
            (small h (first_index g j) (omega (arith, positive, block-fits g.sizes j))))
            (before_or_not k (end_of g.sizes j));
        rule = λ k m n.
            let r = C.rule k (omega (arith, block-fits g.sizes j)) in
            let here : closed (first_index g j) (end_of g.sizes j) (at c) k ≡ at c k =
            rw (lt-ltb k (end_of g.sizes j) n) in
            let e : first_index g j + (k - first_index g j) ≡ k = omega arith in
            ⊎_elim
            (λ (x : suc k < end_of g.sizes j).
            let q : next g k ≡ suc k = rw e at (next-at g j (k - first_index g j) (omega arith)) ∙ omega arith in
            let there : closed (first_index g j) (end_of g.sizes j) (at c) (suc k) ≡ at c (suc k) =
            rw (lt-ltb (suc k) (end_of g.sizes j) x) in
            rw (here, there) (rw q at r))
            (λ (x : end_of g.sizes j ≤ suc k).
            let q : next g k ≡ first_index g j = rw e at (next-round g j (k - first_index g j) (omega arith)) in
            let there : closed (first_index g j) (end_of g.sizes j) (at c) (suc k) ≡ at c (first_index g j) =
            rw (le-ltb (suc k) (end_of g.sizes j) x) in
            rw (here, there) (rw q at r))
            (before_or_not (suc k) (end_of g.sizes j));
        round = rw (
          le-ltb (end_of g.sizes j) (end_of g.sizes j) (omega arith),
          lt-ltb (first_index g j) (end_of g.sizes j) (omega (arith, positive)),
        );
      }))
    where
      c : List ℕ
      c = coefficients_from g p z

      C : IsCoefficients (starting_at g p) z (coefficients_from g p z)
      C = coefficient_of_is (has-start g (in_limits g A) p hp) z hz

      positive : 2 ≤ size g j
      positive = (size-two g A j lj).0

      small : zero_or_one g (coefficients_from g p z) ≡ true → (k : ℕ) → k < num_indices g
          → at (coefficients_from g p z) k ≤ 1
      small h k l = leb-true _ _ (at-index g (λ h. leb (at (coefficients_from g p z) h) 1) h k l)
