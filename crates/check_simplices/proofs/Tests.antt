-- What the test by coefficient lists says, by position: with p as the start the coefficients are 0s and 1s, any two
-- lists of them nested, and the points are distinct. Assumes nothing.
use mathlib.Core.Bool.{Bool, true, false, not, ◌||◌}
use mathlib.Core.List.{List, [], ◌∷◌}
use mathlib.Core.Logic.{◌⊎◌, inl, inr, ⊎_elim}
use mathlib.Core.Path.{◌≡◌, refl, sym, ap, ◌∙◌}
use Prim.Native.Nat.{ℕ, zero, suc, ◌+◌, ◌≤◌, ◌<◌}
use borrow.Author.Tests.{leb-true, le-leb, not-true}
use lib.Dec.{eqb, leb}
use lib.ListN.{length, get_or, get_or-eq_default}
use native.Mathlib.Omega.{arith}
use Rattle.combinatorics.proofs.Basics.{absurd_bool, before_or_not, and_both, and_left, and_right, or_cases, or_left}
use Rattle.combinatorics.proofs.Basics.{or_right}
use Rattle.combinatorics.proofs.Basics.{false_of}
use Rattle.combinatorics.proofs.Lists.{Equality, all_in, in_all, on_numbers}
use Rattle.combinatorics.specs.Lists.{all, same, distinct}
use Rattle.geometry.proofs.LabelledChains.{tabulate}
use Rattle.geometry.proofs.Onward.{length_tabulate, get_d_tabulate}
use Rattle.geometry.proofs.Points.{nth}
use Rattle.grid_points.proofs.Accepted.{InLimits}
use Rattle.grid_points.proofs.Points.{on_points}
use Rattle.grid_points.proofs.Round.{next_low, block-fits}
use Rattle.grid_points.specs.Grid.{Grid, Point, at, num_blocks, num_indices, first_index, size, indices, next, is_grid_point}
use Rattle.grid_points.specs.Grid.{same_point}
use Rattle.place.specs.Coefficients.{IsCoefficients}
use Rattle.path_laws.proofs.BlocksOfGrid.{coefficient_of, point_of, coefficient_of_is, point_coefficient_of, beyond}
use Rattle.path_laws.proofs.Coefficients.{coefficients-only}
use Rattle.path_laws.proofs.Meaning.{index_means}
use Rattle.path_laws.proofs.Positions.{at_in, in_at, same_at, at-distinct}
use Rattle.path_laws.specs.Demand.{HasStart}
use Rattle.check_simplices.specs.Chains.{starting_at, coefficients_from, zero_or_one, inside, nested, pairwise}
use Rattle.check_simplices.specs.Chains.{chain_from}

-- nowhere above
abbrev pub Below : (ℕ → ℕ) → (ℕ → ℕ) → Type 0
Below c d = (k : ℕ) → c k ≤ d k

-- any two elements, by position
module _ {A : Type 0} (E : Equality A) (d : A) (r : A → A → Bool) where
  open E use {eq}

  pub pair-at : (xs : List A) → pairwise r xs ≡ true → (i j : ℕ) → i < j → j < length xs
      → r (get_or xs i d) (get_or xs j d) ≡ true
  pair-at [] h i j l m = absurd (omega arith)
  pair-at (x ∷ xs) h i zero l m = absurd (omega arith)
  pair-at (x ∷ xs) h zero (suc j) l m =
      all_in E (r x) xs (and_left (all (r x) xs) _ h) (get_or xs j d) (at_in E d xs j (omega arith))
  pair-at (x ∷ xs) h (suc i) (suc j) l m = pair-at xs (and_right (all (r x) xs) _ h) i j (omega arith) (omega arith)

  pub at_pair : (xs : List A) → ((i j : ℕ) → i < j → j < length xs → r (get_or xs i d) (get_or xs j d) ≡ true)
      → pairwise r xs ≡ true
  at_pair [] h = refl
  at_pair (x ∷ xs) h = and_both _ _
      (in_all E (r x) xs
      (λ z m. let i = in_at E d z xs m in rw i.2 at (h 0 (suc i.0) (omega arith) (omega (arith, i.1)))))
      (at_pair xs (λ i j l m. h (suc i) (suc j) (omega arith) (omega arith)))

module _ (g : Grid) where
  -- a test of all indices
  pub at-index : (q : ℕ → Bool) → all q (indices g) ≡ true → (k : ℕ) → k < num_indices g → q k ≡ true
  at-index q h k l = all_in on_numbers q (indices g) h k ((index_means g k).1 l)

  pub index_at : (q : ℕ → Bool) → ((k : ℕ) → k < num_indices g → q k ≡ true) → all q (indices g) ≡ true
  index_at q h = in_all on_numbers q (indices g) (λ k m. h k ((index_means g k).0 m))

  -- a grid with a start, and labels
  pub has-start_with : InLimits g → (p : Point) → is_grid_point g p ≡ true → (labels : List ℕ)
      → HasStart (record { grid = g; start = p; labels = labels })
  has-start_with A p h labels = record {
    some_block = A.some_block;
    six_blocks = A.few_blocks;
    sizes = A.sizes_two;
    sixteen_indices = A.few_indices;
    same_number = A.same_number;
    divisions = A.divisions_one;
    low = A.low;
    start = h;
  }

  pub has-start : InLimits g → (p : Point) → is_grid_point g p ≡ true → HasStart (starting_at g p)
  has-start A p h = has-start_with A p h []

-- the coefficients of the i-th point with p as the start, as a function
abbrev pub set_at : Grid → List Point → Point → ℕ → ℕ → ℕ
set_at g zs p i = coefficient_of (starting_at g p) (nth zs i)

-- with p as the start the coefficients are 0s and 1s, any two lists of them nested
pub record Nested (g : Grid) (zs : List Point) (p : Point) : Type 0 where
  pub ones : (i : ℕ) → i < length zs → Below (set_at g zs p i) (λ k. 1)
  pub pairs : (i j : ℕ) → i < length zs → j < length zs
      → Below (set_at g zs p i) (set_at g zs p j) ⊎ Below (set_at g zs p j) (set_at g zs p i)

-- a function is the coefficient list of z if it has a zero in each block and follows the rule
pub coefficients_by : {g : Grid} → InLimits g → (p z : Point) → is_grid_point g p ≡ true → is_grid_point g z ≡ true
    → (f : ℕ → ℕ)
    → ((j : ℕ) → j < num_blocks g → (h : ℕ) × (first_index g j ≤ h) × (h < first_index g j + size g j) × (f h ≡ 0))
    → ((k : ℕ) → k < num_indices g → at z k + f (next g k) ≡ at p k + f k)
    → coefficients_from g p z ≡ tabulate (num_indices g) f
coefficients_by {g} A p z hp hz f none rule =
    let m = num_indices g in
    let is : (k : ℕ) → k < m → at (tabulate m f) k ≡ f k = get_d_tabulate 0 m f in
    coefficients-only {p = starting_at g p} (coefficient_of_is (has-start g A p hp) z hz) (record {
      numbers = length_tabulate m f;
      zero = λ j l. let h = none j l in (h.0, h.1, h.2, is h.0 (omega (arith, h.2, block-fits g.sizes j)) ∙ h.3);
      rule = λ k l. omega (arith, is k l, is (next g k) (next_low g k l), rule k l);
    })

-- what holds of functions holds of their lists, which are 0 beyond
tabulate_below : (m : ℕ) {f d : ℕ → ℕ} (e : ℕ → ℕ) → ((k : ℕ) → k < m → e k ≡ d k) → Below f d
    → Below (at (tabulate m f)) e
tabulate_below m {f} e is b k =
    ⊎_elim (λ (x : k < m). omega (arith, get_d_tabulate 0 m f k x, b k, is k x))
    (λ (x : m ≤ k). let l : length (tabulate m f) ≤ k = omega (arith, length_tabulate m f) in omega
    (arith, get_or-eq_default (tabulate m f) 0 l))
    (before_or_not k m)

pub nested_by : {g : Grid} (zs : List Point) (p : Point) (f : (i : ℕ) → i < length zs → ℕ → ℕ)
    → ((i : ℕ) (l : i < length zs) → coefficients_from g p (nth zs i) ≡ tabulate (num_indices g) (f i l))
    → ((i : ℕ) (l : i < length zs) → Below (f i l) (λ k. 1))
    → ((i j : ℕ) (l : i < length zs) (m : j < length zs) → Below (f i l) (f j m) ⊎ Below (f j m) (f i l))
    → Nested g zs p
nested_by {g} zs p f is ones pairs = record {
  ones = λ i l. rw (is i l) (tabulate_below n (λ k. 1) (λ k x. refl) (ones i l));
  pairs = λ i j l m. rw (is i l, is j m) (⊎_elim
      (λ b. inl (tabulate_below n (at (tabulate n (f j m))) (λ k x. get_d_tabulate 0 n (f j m) k x) b))
      (λ b. inr (tabulate_below n (at (tabulate n (f i l))) (λ k x. get_d_tabulate 0 n (f i l) k x) b)) (pairs i j l m));
}
  where
    n : ℕ
    n = num_indices g

module _ {g : Grid} (A : InLimits g) (zs : List Point) (on : all (is_grid_point g) zs ≡ true) (p : Point)
    (hp : is_grid_point g p ≡ true) where
  pub on-at : (i : ℕ) → i < length zs → is_grid_point g (nth zs i) ≡ true
  on-at i l = all_in on_points (is_grid_point g) zs on (nth zs i) (at_in on_points [] zs i l)

  pub is-list : (i : ℕ) → i < length zs → IsCoefficients (starting_at g p) (nth zs i) (coefficients_from g p (nth zs i))
  is-list i l = coefficient_of_is (has-start g A p hp) (nth zs i) (on-at i l)

  -- from the indices to all numbers
  everywhere : (i : ℕ) → i < length zs → (d : ℕ → ℕ) → ((k : ℕ) → k < num_indices g → set_at g zs p i k ≤ d k)
      → Below (set_at g zs p i) d
  everywhere i l d h k = ⊎_elim
      (λ (x : k < num_indices g). h k x)
      (λ (x : num_indices g ≤ k). omega (arith, beyond (starting_at g p) (is-list i l) k x))
      (before_or_not k (num_indices g))

  inside-below : (i j : ℕ) → i < length zs
      → inside g (coefficients_from g p (nth zs i)) (coefficients_from g p (nth zs j)) ≡ true
      → Below (set_at g zs p i) (set_at g zs p j)
  inside-below i j l h =
      everywhere i l _ (λ k x. leb-true _ _ (at-index g (λ h. leb (set_at g zs p i h) (set_at g zs p j h)) h k x))

  below-inside : (i j : ℕ) → Below (set_at g zs p i) (set_at g zs p j) → inside g (coefficients_from g p (nth zs i))
      (coefficients_from g p (nth zs j)) ≡ true
  below-inside i j h = index_at g (λ h. leb (set_at g zs p i h) (set_at g zs p j h)) (λ k x. le-leb _ _ (h k))

  -- the test says so,
  module _ (h : chain_from g zs p ≡ true) where
    nested-at : (i j : ℕ) → i < j → j < length zs
        → nested g (coefficients_from g p (nth zs i)) (coefficients_from g p (nth zs j)) ≡ true
    nested-at = pair-at on_points [] (λ y z. nested g (coefficients_from g p y) (coefficients_from g p z)) zs
        (and_right (all (λ z. zero_or_one g (coefficients_from g p z)) zs) _ h)

    ordered : (i j : ℕ) → i < j → j < length zs
        → Below (set_at g zs p i) (set_at g zs p j) ⊎ Below (set_at g zs p j) (set_at g zs p i)
    ordered i j l m =
        let a = coefficients_from g p (nth zs i) in
        let b = coefficients_from g p (nth zs j) in
        ⊎_elim
        (λ x. inl (inside-below i j (omega arith) x))
        (λ x. inr (inside-below j i m x))
        (or_cases (inside g a b) (inside g b a)
        (and_left (inside g a b || inside g b a) (not (same eqb a b)) (nested-at i j l m)))

    pub nested_of : Nested g zs p
    nested_of = record {
      ones = λ i l. everywhere i l
          (λ k. 1)
          (λ k x. leb-true _ _ (at-index g (λ h. leb (set_at g zs p i h) 1)
          (all_in on_points
          (λ z. zero_or_one g (coefficients_from g p z))
          zs (and_left (all (λ z. zero_or_one g (coefficients_from g p z)) zs) _ h) (nth zs i) (at_in on_points [] zs i l))
          k x));
      pairs = λ i j l m. ⊎_elim
          (λ (x : i < j). ordered i j x m)
          (λ (x : j ≤ i). ⊎_elim
          (λ (y : j < i). ⊎_elim (λ a. inr a) (λ a. inl a) (ordered j i y l))
          (λ (y : i ≤ j). let e : i ≡ j = omega arith in inl (λ k. rw e (omega arith)))
          (before_or_not j i))
          (before_or_not i j);
    }

    differ : (i j : ℕ) → i < j → j < length zs → nth zs i ≡ nth zs j → ⊥
    differ i j l m e =
        let a = coefficients_from g p (nth zs i) in
        let b = coefficients_from g p (nth zs j) in
        let n : same eqb a b ≡ false =
        not-true _ (and_right (inside g a b || inside g b a) (not (same eqb a b)) (nested-at i j l m)) in
        absurd_bool (sym (on_points.self b) ∙ (rw e at n))

    pub distinct_of : distinct same_point zs ≡ true
    distinct_of = at-distinct on_points [] zs
        (λ i j l m e. ⊎_elim
        (λ (x : i < j). absurd (differ i j x m e))
        (λ (x : j ≤ i).
        ⊎_elim (λ (y : j < i). absurd (differ j i y l (sym e))) (λ (y : i ≤ j). omega arith) (before_or_not j i))
        (before_or_not i j))

  -- and nothing more
  pub chain_of : Nested g zs p → distinct same_point zs ≡ true → chain_from g zs p ≡ true
  chain_of N d = and_both _ _
      (in_all on_points
      (λ z. zero_or_one g (coefficients_from g p z))
      zs
      (λ z m.
      let i = in_at on_points [] z zs m in
      rw i.2 at (index_at g (λ h. leb (set_at g zs p i.0 h) 1) (λ k x. le-leb _ _ (N.ones i.0 i.1 k)))))
      (at_pair on_points []
      (λ y z. nested g (coefficients_from g p y) (coefficients_from g p z))
      zs
      (λ i j l m.
      let a = coefficients_from g p (nth zs i) in
      let b = coefficients_from g p (nth zs j) in
      let li : i < length zs = omega arith in
      let n : same eqb a b ≡ false = false_of _ (λ q.
      let w : nth zs i ≡ nth zs j = sym (point_coefficient_of (has-start g A p hp) (nth zs i) (on-at i li))
      ∙ ap (λ (c : List ℕ). point_of (starting_at g p) (at c)) (on_points.sound a b q)
      ∙ point_coefficient_of (has-start g A p hp) (nth zs j) (on-at j m) in
      absurd (omega (arith, same_at on_points [] zs d i j li m w))) in
      and_both _ _
      (⊎_elim
      (λ x. or_left _ _ (below-inside i j x))
      (λ x. or_right (inside g a b) _ (below-inside j i x))
      (N.pairs i j li m))
      (rw n)))
