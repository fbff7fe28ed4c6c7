-- The limits of question 24: they grow with the level, so the last level decides it; and a grid that passes it and 1 to
-- 3 is within the limits of the path's laws. Assumes nothing.
use mathlib.Core.Bool.{true, false}
use mathlib.Core.List.{List, [], ◌∷◌, ◌++◌, map}
use mathlib.Core.Logic.{◌⊎◌, inl, inr, ⊎_elim}
use mathlib.Core.Path.{◌≡◌, refl, sym, ap, ◌∙◌}
use Prim.Native.Nat.{ℕ, zero, suc, ◌+◌, ◌*◌, ◌^◌, ◌≤◌, ◌<◌}
use borrow.Author.Tests.{eqb-true, le-leb, leb-true}
use lib.Dec.{eqb, leb}
use lib.ListN.{length, length-map}
use native.Mathlib.Nat.{mul-le-mul, pow-le-pow_right, pow-zero}
use native.Mathlib.Numerals.{add-one}
use native.Mathlib.Omega.{arith}
use Rattle.combinatorics.proofs.Basics.{absurd_bool, and_both, and_left, and_right, before_or_not, true_or_false}
use Rattle.combinatorics.proofs.Turns.{map-append, up_from-next}
use Rattle.combinatorics.specs.Lists.{all, up_from}
use Rattle.game_losses.specs.Game.{product}
use Rattle.grid_points.proofs.Accepted.{InLimits}
use Rattle.grid_points.specs.Grid.{Grid, num_blocks, num_indices}
use Rattle.grid_points.specs.Questions.{question1, question2, question3}
use Rattle.questions.proofs.Answers.{asked-next, both_yes, first-yes, numbered}
use Rattle.questions.specs.Questions.{Question, first_no}
use Rattle.refinement_levels.specs.Levels.{grid_at, times}
use Rattle.solve_levels.specs.Claims.{LastDecides}
use Rattle.solve_levels.specs.Questions.{limit_questions, question24, shape_questions}

-- smaller factors give smaller divisions and products
low-times : (n a b : ℕ) (ds : List ℕ) → a ≤ b → all (λ d. leb d n) (times b ds) ≡ true
    → all (λ d. leb d n) (times a ds) ≡ true
low-times n a b [] h e = refl
low-times n a b (d ∷ ds) h e =
    let m : a * d ≤ b * d = mul-le-mul h (omega arith) in
    let l = leb-true (b * d) n (and_left (leb (b * d) n) (all (λ d. leb d n) (times b ds)) e) in
    and_both _ _ (le-leb (a * d) n (omega arith))
    (low-times n a b ds h (and_right (leb (b * d) n) (all (λ d. leb d n) (times b ds)) e))

product-times : (a b : ℕ) (ds : List ℕ) → a ≤ b → product (times a ds) ≤ product (times b ds)
product-times a b [] h = omega arith
product-times a b (d ∷ ds) h = mul-le-mul (mul-le-mul h (omega arith)) (product-times a b ds h)

none-asked : first_no [] ≡ 0
unfolding first_no
none-asked = refl

one-yes : (q : Question) → q.answered_yes ≡ true → first_no (q ∷ []) ≡ 0
unfolding first_no
one-yes q e = rw e

module _ (g : Grid) (k : ℕ) (some : 1 ≤ k) where
  limit_before : (i j : ℕ) → i ≤ j → (question24 (grid_at g k j)).answered_yes ≡ true
      → (question24 (grid_at g k i)).answered_yes ≡ true
  limit_before i j h e =
      let p : k ^ i ≤ k ^ j = pow-le-pow_right {n = k} (omega arith) h in
      let low = and_left (all (λ d. leb d 60000) (times (k ^ j) g.divisions)) _ e in
      let few = leb-true (product (times (k ^ j) g.divisions)) 9000000000000000
      (and_right (all (λ d. leb d 60000) (times (k ^ j) g.divisions)) _ e) in
      and_both _ _ (low-times 60000 (k ^ i) (k ^ j) g.divisions p low)
      (le-leb (product (times (k ^ i) g.divisions)) 9000000000000000
      (omega (arith, few, product-times (k ^ i) (k ^ j) g.divisions p)))

  limits_next : (n : ℕ) → limit_questions g k (suc n) ≡ limit_questions g k n ++ (question24 (grid_at g k n) ∷ [])
  limits_next n =
      ap (λ (l : List ℕ). map (λ i. question24 (grid_at g k i)) l) (rw (add-one n) at (up_from-next 0 n))
      ∙ map-append (λ i. question24 (grid_at g k i)) (up_from 0 n) ((0 + n) ∷ [])
      ∙ (let z : 0 + n ≡ n = omega arith in rw z)

  pub numbered_limits : (n : ℕ) → numbered (limit_questions g k n) ≡ true
  numbered_limits n = go (up_from 0 n)
    where
      go : (is : List ℕ) → numbered (map (λ i. question24 (grid_at g k i)) is) ≡ true
      go [] = refl
      go (i ∷ is) = go is

  -- where the last passes, all do
  limits_yes : (n : ℕ) → ((i : ℕ) → i < n → (question24 (grid_at g k i)).answered_yes ≡ true)
      → first_no (limit_questions g k n) ≡ 0
  limits_yes zero e = none-asked
  limits_yes (suc n) e =
      ap first_no (limits_next n)
      ∙ asked-next (limit_questions g k n) (question24 (grid_at g k n) ∷ []) (numbered_limits n)
      (limits_yes n (λ i h. e i (omega arith)))
      ∙ one-yes (question24 (grid_at g k n)) (e n (omega arith))

  -- where the first no is none, each level passes
  pub limits_each : (n : ℕ) → first_no (limit_questions g k n) ≡ 0 → (i : ℕ) → i < n
      → (question24 (grid_at g k i)).answered_yes ≡ true
  limits_each zero e i h = absurd (omega arith)
  limits_each (suc n) e i h =
      let w = both_yes (limit_questions g k n) (question24 (grid_at g k n) ∷ []) (numbered_limits n)
      (rw (limits_next n) at e) in
      ⊎_elim (λ (l : i < n). limits_each n w.0 i l)
      (λ (l : n ≤ i). let z : i ≡ n = omega arith in
      rw z (first-yes (question24 (grid_at g k n)) [] (omega arith) w.1).0)
      (before_or_not i n)

  -- and no question is another than 24
  only_24 : (is : List ℕ) → (first_no (map (λ i. question24 (grid_at g k i)) is) ≡ 0)
      ⊎ (first_no (map (λ i. question24 (grid_at g k i)) is) ≡ 24)
  unfolding first_no
  only_24 [] = inl refl
  only_24 (i ∷ is) =
      ⊎_elim (λ t. rw t (only_24 is)) (λ t. rw t (inr refl)) (true_or_false (question24 (grid_at g k i)).answered_yes)

  last_of : (n : ℕ) → first_no (limit_questions g k (suc n)) ≡ first_no (question24 (grid_at g k n) ∷ [])
  unfolding first_no
  last_of n = ⊎_elim
      (λ (t : (question24 (grid_at g k n)).answered_yes ≡ true). rw t
      (limits_yes (suc n) (λ i h. limit_before i n (omega arith) t)))
      (λ (f : (question24 (grid_at g k n)).answered_yes ≡ false). rw f
      (⊎_elim
      (λ z. absurd_bool (sym (limits_each (suc n) z n (omega arith)) ∙ f))
      (λ z. z)
      (only_24 (up_from 0 (suc n)))))
      (true_or_false (question24 (grid_at g k n)).answered_yes)

pub last_decides : LastDecides
last_decides g k zero some h = absurd (omega arith)
last_decides g k (suc n) some h = last_of g k some n

positive-times : (c : ℕ) (ds : List ℕ) → 1 ≤ c → all (λ d. leb 1 d) ds ≡ true → all (λ d. leb 1 d) (times c ds) ≡ true
positive-times c [] h e = refl
positive-times c (d ∷ ds) h e =
    let m : 1 * 1 ≤ c * d = mul-le-mul h (leb-true 1 d (and_left (leb 1 d) (all (λ d. leb 1 d) ds) e)) in
    and_both _ _ (le-leb 1 (c * d) (omega arith))
    (positive-times c ds h (and_right (leb 1 d) (all (λ d. leb 1 d) ds) e))

pub level_limits : (g : Grid) (k i : ℕ) → 1 ≤ k → first_no (shape_questions g) ≡ 0
    → (question24 (grid_at g k i)).answered_yes ≡ true → InLimits (grid_at g k i)
level_limits g k i some e passes =
    let a = first-yes (question1 g) (question2 g ∷ question3 g ∷ []) (omega arith) e in
    let b = first-yes (question2 g) (question3 g ∷ []) (omega arith) a.1 in
    let c = first-yes (question3 g) [] (omega arith) b.1 in
    let positive : 1 ≤ k ^ i =
    rw (pow-zero k) at (pow-le-pow_right {n = k} (omega arith) {i = 0} {j = i} (omega arith)) in
    record {
      some_block = leb-true 1 (num_blocks g) (and_left (leb 1 (num_blocks g)) (leb (num_blocks g) 6) a.0);
      few_blocks = leb-true (num_blocks g) 6 (and_right (leb 1 (num_blocks g)) (leb (num_blocks g) 6) a.0);
      sizes_two = and_left (all (λ s. leb 2 s) g.sizes) (leb (num_indices g) 16) b.0;
      few_indices =
          leb-true (num_indices g) 16 (and_right (all (λ s. leb 2 s) g.sizes) (leb (num_indices g) 16) b.0);
      same_number = length-map g.divisions (λ d. k ^ i * d)
          ∙ eqb-true (length g.divisions) (num_blocks g)
          (and_left (eqb (length g.divisions) (num_blocks g)) (all (λ d. leb 1 d) g.divisions) c.0);
      divisions_one = positive-times (k ^ i) g.divisions positive
          (and_right (eqb (length g.divisions) (num_blocks g)) (all (λ d. leb 1 d) g.divisions) c.0);
      low = and_left (all (λ d. leb d 60000) (times (k ^ i) g.divisions)) _ passes;
    }
