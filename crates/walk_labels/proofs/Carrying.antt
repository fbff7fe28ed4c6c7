-- Labels carried one after the other. In order: labels in marks; a mark that is searched; one label more. Assumes
-- nothing.
use mathlib.Core.Bool.{Bool, true, false, not, ◌&&◌, cond, and-false}
use mathlib.Core.List.{List, [], ◌∷◌, ◌++◌, map}
use mathlib.Core.Logic.{⊎_elim}
use mathlib.Core.Path.{◌≡◌, refl, sym, ap, ◌∙◌}
use Prim.Native.Nat.{ℕ, suc, ◌+◌, ◌≤◌, ◌<◌}
use borrow.Author.Tests.{le-leb, lt-leb}
use lib.Dec.{eqb, leb}
use lib.ListN.{length, replicate, set, take, length-map, length-replicate, get_or-replicate}
use lib.Seq.{get_or-take, length-take-le, take-suc}
use native.Mathlib.Numerals.{add-one}
use native.Mathlib.Omega.{arith}
use Rattle.combinatorics.proofs.Basics.{before_or_not, false_of}
use Rattle.combinatorics.proofs.Fronts.{front_at, front-behind, front_length, front-none, front_put}
use Rattle.combinatorics.proofs.Lists.{on_numbers}
use Rattle.combinatorics.specs.Front.{front}
use Rattle.combinatorics.specs.Lists.{all, is_in}
use Rattle.grid_points.specs.Grid.{at}
use Rattle.path_laws.proofs.Positions.{at_in, in_at}
use Rattle.rules.proofs.Marks.{labels_in}
use Rattle.rules.specs.Moves.{mark_label, mark_position}
use Rattle.walk_labels.specs.Carrying.{CanCarry, CarriesOver, FoundIn, label_at_mark, labels_in_marks}

-- labels in marks
module _ (marks : List ℕ) (n : ℕ) (few : n ≤ 15) (long : length marks ≡ 16) where
  first-long : length (take (suc n) marks) ≡ suc n
  first-long = length-take-le (suc n) marks (omega arith)

  labels-long : length (map mark_label (take (suc n) marks)) ≡ suc n
  labels-long = length-map (take (suc n) marks) mark_label ∙ first-long

  pub front_long : length (labels_in_marks marks n) ≡ 16
  front_long = let z = length-replicate {A = ℕ} 16 0 in
      front_length (map mark_label (take (suc n) marks)) (replicate 16 0) (omega (arith, labels-long, z)) ∙ z

  pub label-front : (k : ℕ) → k ≤ n → mark_label (at marks k) ≡ at (labels_in_marks marks n) k
  label-front k l = sym (front_at (map mark_label (take (suc n) marks)) (replicate 16 0) k (omega (arith, labels-long))
      ∙ labels_in (take (suc n) marks) k (omega (arith, first-long)) ∙ ap mark_label
      (get_or-take (suc n) marks k 0 (omega arith)))

  pub label-behind : (k : ℕ) → n < k → k ≤ 15 → ◌≡◌ {A = ℕ} 0 (at (labels_in_marks marks n) k)
  label-behind k l m = sym (front-behind (map mark_label (take (suc n) marks)) (replicate 16 0) k
      (omega (arith, labels-long)) ∙ get_or-replicate {A = ℕ} 16 k 0 0 (omega arith))

-- a mark that is searched
module _ (marks : List ℕ) (n mark : ℕ) (few : n ≤ 15) (long : length marks ≡ 16) where
  pub found_at : (i : ℕ) → i ≤ n → at marks i ≡ mark → FoundIn marks n mark i
  found_at i l e = record {
    few = omega arith;
    there = λ _. e;
    among = rw (le-leb i n l) (rw (get_or-take (suc n) marks i 0 (omega arith) ∙ e) at
        (at_in on_numbers 0 (take (suc n) marks) i (omega (arith, length-take-le (suc n) marks (omega arith)))));
  }

  pub found_none : (i : ℕ) → i ≡ suc n → ((j : ℕ) → j < i → at marks j ≡ mark → ⊥) → FoundIn marks n mark i
  found_none i e none = record {
    few = omega arith;
    there = λ l. absurd (omega arith);
    among = rw (lt-leb i n (omega arith)) (false_of _ (λ m.
        let w = in_at on_numbers 0 mark (take (suc n) marks) m in
        let l : w.0 < suc n = omega (arith, w.1, length-take-le (suc n) marks (omega arith)) in
        none w.0 (omega (arith, l)) (sym (get_or-take (suc n) marks w.0 0 l) ∙ w.2)));
  }

-- one label more
all_more : (f : ℕ → Bool) (xs : List ℕ) (x : ℕ) → all f (xs ++ (x ∷ [])) ≡ (all f xs && f x)
all_more f [] x = and_true (f x)
  where
    and_true : (a : Bool) → (a && true) ≡ a
    and_true true = refl
    and_true false = refl
all_more f (y ∷ xs) x = rw (all_more f xs x) (together (f y) (all f xs) (f x))
  where
    together : (a b c : Bool) → (a && (b && c)) ≡ (a && b && c)
    together true b c = refl
    together false b c = refl

map_more : (f : ℕ → ℕ) (xs : List ℕ) (x : ℕ) → map f (xs ++ (x ∷ [])) ≡ map f xs ++ (f x ∷ [])
map_more f [] x = refl
map_more f (y ∷ xs) x = ap (λ (l : List ℕ). f y ∷ l) (map_more f xs x)

-- the labels of the first j points, and whether one of these came in
pub record CarriedBelow (marks : List ℕ) (n : ℕ) (next table labels : List ℕ) (came : Bool) (j : ℕ) : Type 0 where
  pub put : labels ≡ front (map (label_at_mark table) (take j next)) (replicate 16 0)
  pub came_in : came ≡ not (all (λ m. is_in eqb m (take (suc n) marks)) (take j next))

module _ (marks : List ℕ) (n : ℕ) (carried next : List ℕ) (k : ℕ) (table : List ℕ)
    (C : CanCarry marks n next k table) where
  pub none-carried : (full : List ℕ) → CarriedBelow marks n next full (replicate 16 0) false 0
  none-carried full = record { put = sym (front-none (replicate 16 0)); came_in = refl }

  pub position_here : (j r : ℕ) → j ≤ k → r ≡ mark_position (at (take (suc k) next) j) → r ≡ mark_position (at next j)
  position_here j r l e = e ∙ ap mark_position (get_or-take (suc k) next j 0 (omega arith))

  module _ (full : List ℕ) (O : CarriesOver marks n carried next k table full) (labels : List ℕ) (came : Bool) (j : ℕ)
      (B : CarriedBelow marks n next full labels came j) (l : j ≤ k) (i : ℕ) (F : FoundIn marks n (at next j) i) where
    next_more : take (j + 1) next ≡ take j next ++ (at next j ∷ [])
    next_more = rw (add-one j) (take-suc next j 0 (omega (arith, C.next_long, C.few_next)))

    -- the label is the table's, whether carried or read
    label_is : cond (leb i n) (at carried i) (label_at_mark table (at next j)) ≡ label_at_mark full (at next j)
    label_is = ⊎_elim (λ (m : n < i). rw (lt-leb i n m) (O.comes_in j l (F.among ∙ lt-leb i n m)))
        (λ (m : i ≤ n). rw (le-leb i n m) (O.carries i m ∙ ap (label_at_mark full) (F.there m))) (before_or_not n i)

    stored : (x : ℕ) → x ≡ cond (leb i n) (at carried i) (label_at_mark table (at next j))
        → set labels j x ≡ front (map (label_at_mark full) (take (j + 1) next)) (replicate 16 0)
    stored x e =
        let z : x ≡ label_at_mark full (at next j) = e ∙ label_is in
        let few : j < 16 = omega (arith, C.few_next) in
        let long : length (map (label_at_mark full) (take j next)) ≡ j = length-map (take j next) (label_at_mark full) ∙
        length-take-le j next (omega (arith, C.next_long, C.few_next)) in
        rw (z, B.put)
        (front_put (map (label_at_mark full) (take j next)) (replicate 16 0) j (label_at_mark full (at next j))
        (sym long) few
        ∙ ap (λ (r : List ℕ). front r (replicate 16 0))
        (sym (ap (map (label_at_mark full)) next_more ∙ map_more (label_at_mark full) (take j next) (at next j))))

    pub carried_in : n < i → (x : ℕ) → x ≡ cond (leb i n) (at carried i) (label_at_mark table (at next j)) →
        CarriedBelow marks n next full (set labels j x) true (j + 1)
    carried_in m x e = record {
      put = stored x e;
      came_in = rw (
        next_more,
        all_more (λ m. is_in eqb m (take (suc n) marks)) (take j next) (at next j),
        F.among,
        lt-leb i n m,
      )
          (sym (ap not (and-false (all (λ m. is_in eqb m (take (suc n) marks)) (take j next)))));
    }

    pub carried-over : i ≤ n → (x : ℕ) → x ≡ cond (leb i n) (at carried i) (label_at_mark table (at next j)) →
        CarriedBelow marks n next full (set labels j x) came (j + 1)
    carried-over m x e = record {
      put = stored x e;
      came_in = B.came_in ∙ rw (
        next_more,
        all_more (λ m. is_in eqb m (take (suc n) marks)) (take j next) (at next j),
        F.among,
        le-leb i n m,
      )
          (sym (ap not (and_true (all (λ m. is_in eqb m (take (suc n) marks)) (take j next)))));
    }
      where
        and_true : (a : Bool) → (a && true) ≡ a
        and_true true = refl
        and_true false = refl
