-- The grids of the levels: the first, the next from the one before, and what questions 1 to 4 say of all of them.
-- Assumes nothing.
use mathlib.Core.Bool.{Bool, true, false, cond}
use mathlib.Core.List.{List, [], ◌∷◌, ◌++◌, append_assoc}
use mathlib.Core.Logic.{⊎_elim}
use mathlib.Core.Path.{◌≡◌, refl, sym, ap, ◌∙◌}
use Prim.Native.Nat.{ℕ, zero, suc, pred, ◌+◌, ◌*◌, ◌^◌, ◌≤◌, ◌<◌}
use borrow.Author.Tests.{eq-eqb, le-leb, lt-leb}
use lib.Dec.{leb}
use lib.ListN.{length, get_or, length-map}
use native.Mathlib.Nat.{mul_assoc, mul-le-mul, pow-le-pow_right, pow-succ', pow-zero}
use native.Mathlib.Numerals.{add-one}
use native.Mathlib.Omega.{arith}
use Rattle.combinatorics.proofs.Basics.{and_left, before_or_not, same_or}
use Rattle.combinatorics.proofs.Binomials.{choose-grows}
use Rattle.combinatorics.proofs.Turns.{up_from-next}
use Rattle.combinatorics.specs.Lists.{all, concat_map, up_from}
use Rattle.grid_points.proofs.Accepted.{Accepted, accepted}
use Rattle.grid_points.proofs.CoordinatesBelow.{division-below}
use Rattle.grid_points.proofs.Listing.{num_points-is}
use Rattle.grid_points.specs.Grid.{Grid, division, num_blocks, num_indices, num_points}
use Rattle.combinatorics.specs.Counting.{binomial_product}
use Rattle.grid_points.specs.Questions.{grid_questions, question1, question2, question3, question4}
use Rattle.questions.proofs.Answers.{asked-next, asked-no, both_yes, numbered}
use Rattle.questions.specs.Questions.{Question, first_no}
use Rattle.refinement_levels.specs.Claims.{AskedOfAll}
use Rattle.refinement_levels.specs.Levels.{finer, grid_at, times}
use Rattle.refinement_levels.specs.Questions.{level_questions}

-- numbers times k
times-one : (xs : List ℕ) → times 1 xs ≡ xs
times-one [] = refl
times-one (x ∷ xs) = let e : 1 * x ≡ x = omega arith in rw (e, times-one xs)

times-twice : (k l : ℕ) (xs : List ℕ) → times k (times l xs) ≡ times (k * l) xs
times-twice k l [] = refl
times-twice k l (x ∷ xs) = rw (times-twice k l xs, mul_assoc k l x)

pub times-at : (k : ℕ) (xs : List ℕ) (j : ℕ) → get_or (times k xs) j 0 ≡ k * get_or xs j 0
times-at k [] j = omega arith
times-at k (x ∷ xs) zero = refl
times-at k (x ∷ xs) (suc j) = times-at k xs j

-- the first grid is the one lent, and each next one is finer than the one before by k
pub level_first : (g : Grid) (k : ℕ) → grid_at g k 0 ≡ g
level_first g k =
    ap (λ (ds : List ℕ). let h : Grid = record { sizes = g.sizes; divisions = ds } in h)
    (ap (λ (c : ℕ). times c g.divisions) (pow-zero k) ∙ times-one g.divisions)

pub level_next : (g : Grid) (k i : ℕ) → grid_at g k (suc i) ≡ finer k (grid_at g k i)
level_next g k i =
    ap (λ (ds : List ℕ). let h : Grid = record { sizes = g.sizes; divisions = ds } in h)
    (ap (λ (c : ℕ). times c g.divisions) (pow-succ' k i) ∙ sym (times-twice k (k ^ i) g.divisions))

times-positive : (c : ℕ) (ds : List ℕ) → 1 ≤ c → all (λ d. leb 1 d) (times c ds) ≡ all (λ d. leb 1 d) ds
times-positive c [] h = refl
times-positive c (d ∷ ds) h =
    ⊎_elim
    (λ (l : d < 1). let e : d ≡ 0 = omega arith in let z : c * 0 ≡ 0 = omega arith in rw (e, z))
    (λ (l : 1 ≤ d). let p : 1 * 1 ≤ c * d = mul-le-mul h l in
    rw (le-leb 1 d l, le-leb 1 (c * d) (omega arith), times-positive c ds h))
    (before_or_not d 1)

-- P grows with the level
product-grows : (ss ds : List ℕ) (a b : ℕ) → a ≤ b → binomial_product ss (times a ds) ≤ binomial_product ss (times b ds)
product-grows [] ds a b h = omega arith
product-grows (s ∷ ss) [] a b h = omega arith
product-grows (s ∷ ss) (d ∷ ds) a b h =
    mul-le-mul (choose-grows (a * d) (b * d) (pred s) (pred s) (mul-le-mul h (omega arith)) (omega arith))
    (product-grows ss ds a b h)

module _ (g : Grid) (k : ℕ) (some : 1 ≤ k) where
  power_some : (i : ℕ) → 1 ≤ k ^ i
  power_some i = rw (pow-zero k) at (pow-le-pow_right {n = k} (omega arith) {i = 0} {j = i} (omega arith))

  pub points-grow : (i j : ℕ) → i ≤ j → all (λ s. leb 2 s) g.sizes ≡ true
      → num_points (grid_at g k i) ≤ num_points (grid_at g k j)
  points-grow i j h two =
      rw (num_points-is (grid_at g k i) two, num_points-is (grid_at g k j) two)
      (product-grows g.sizes g.divisions (k ^ i) (k ^ j) (pow-le-pow_right {n = k} (omega arith) h))

-- question 3 has the same answer on a finer grid; 1 and 2 are about the sizes
third : (g : Grid) (c : ℕ) → 1 ≤ c → question3 (finer c g) ≡ question3 g
third g c some = rw (length-map g.divisions (λ d. c * d), times-positive c g.divisions some)

-- the questions of one level more
concat_append : {A B : Type 0} (f : A → List B) (xs ys : List A)
    → concat_map f (xs ++ ys) ≡ concat_map f xs ++ concat_map f ys
concat_append f [] ys = refl
concat_append f (x ∷ xs) ys = rw (concat_append f xs ys, append_assoc)

module _ (g : Grid) (k : ℕ) where
  questions-next : (n : ℕ) → level_questions g k (suc n) ≡ level_questions g k n ++ grid_questions (grid_at g k n)
  questions-next n =
      ap (λ (l : List ℕ). concat_map (λ i. grid_questions (grid_at g k i)) l) (rw (add-one n) at (up_from-next 0 n))
      ∙ concat_append (λ i. grid_questions (grid_at g k i)) (up_from 0 n) ((0 + n) ∷ [])
      ∙ (let z : 0 + n ≡ n = omega arith in rw z)

  pub numbered_levels : (n : ℕ) → numbered (level_questions g k n) ≡ true
  numbered_levels n = go (up_from 0 n)
    where
      go : (is : List ℕ) → numbered (concat_map (λ i. grid_questions (grid_at g k i)) is) ≡ true
      go [] = refl
      go (i ∷ is) = go is

  -- where all levels are answered yes, each is
  pub levels_yes : (n : ℕ) → first_no (level_questions g k n) ≡ 0 → (i : ℕ) → i < n
      → first_no (grid_questions (grid_at g k i)) ≡ 0
  levels_yes zero e i h = absurd (omega arith)
  levels_yes (suc n) e i h =
      let parts =
      both_yes (level_questions g k n) (grid_questions (grid_at g k n)) (numbered_levels n)
      (rw (questions-next n) at e)
      in
      ⊎_elim (λ (l : i < n). levels_yes n parts.0 i l)
      (λ (l : n ≤ i). let z : i ≡ n = omega arith in rw z parts.1) (before_or_not i n)

  -- a level more that is answered yes,
  pub levels_more : (n : ℕ) → first_no (level_questions g k n) ≡ 0 → first_no (grid_questions (grid_at g k n)) ≡ 0
      → first_no (level_questions g k (suc n)) ≡ 0
  levels_more n e f =
      rw (questions-next n) (asked-next (level_questions g k n) (grid_questions (grid_at g k n)) (numbered_levels n) e ∙ f)

  -- and the first that is not
  pub levels_no : (n i c : ℕ) → i < n → first_no (level_questions g k i) ≡ 0 → (c ≡ 0 → ⊥)
      → first_no (grid_questions (grid_at g k i)) ≡ c
      → first_no (level_questions g k n) ≡ c
  levels_no zero i c h e z f = absurd (omega arith)
  levels_no (suc n) i c h e z f =
      rw (questions-next n)
      (⊎_elim
      (λ (l : i < n). asked-no (level_questions g k n) (grid_questions (grid_at g k n)) c z (levels_no n i c l e z f))
      (λ (l : n ≤ i). let q : i ≡ n = omega arith in
      asked-next (level_questions g k n) (grid_questions (grid_at g k n)) (numbered_levels n) (rw q at e) ∙ (rw q at f))
      (before_or_not i n))

-- questions 1 to 4 with the last about another grid of the same sizes
abbrev mixed : Grid → Grid → List Question
mixed g h = question1 g ∷ question2 g ∷ question3 g ∷ question4 h ∷ []

-- the number where question 4 is reached, and where 1 to 4 are asked
abbrev fourth : Grid → ℕ
fourth h = cond (question4 h).answered_yes 0 4

abbrev first : Bool → Bool → Bool → ℕ → ℕ
first a b c n = cond a (cond b (cond c n 3) 2) 1

-- where 4 can only go from yes to no, a refusal stays
mixed_stays : (g h k : Grid) → (all (λ s. leb 2 s) g.sizes ≡ true → num_points h ≤ num_points k)
    → (first_no (mixed g h) ≡ 0 → ⊥)
    → first_no (mixed g k) ≡ first_no (mixed g h)
unfolding first_no
mixed_stays g h k grows n = go (question1 g).answered_yes (question2 g).answered_yes (question3 g).answered_yes refl n
  where
    two : (question2 g).answered_yes ≡ true → all (λ s. leb 2 s) g.sizes ≡ true
    two e = and_left (all (λ s. leb 2 s) g.sizes) (leb (num_indices g) 16) e

    last : (question2 g).answered_yes ≡ true → (fourth h ≡ 0 → ⊥) → fourth k ≡ fourth h
    last e n =
        ⊎_elim
        (λ (l : 60000 < num_points h). rw (
          lt-leb (num_points h) 60000 l,
          lt-leb (num_points k) 60000
              (omega (arith, grows (two e))),
        ))
        (λ (l : num_points h ≤ 60000). absurd (n (rw (le-leb (num_points h) 60000 l))))
        (before_or_not 60000 (num_points h))

    go : (a b c : Bool) → (question2 g).answered_yes ≡ b → (first a b c (fourth h) ≡ 0 → ⊥)
        → first a b c (fourth k) ≡ first a b c (fourth h)
    go true true true e n = last e n
    go true true false e n = refl
    go true false c e n = refl
    go false b c e n = refl

-- 4 is the first answered no where 1 to 3 are answered yes
refused : (g h : Grid) → Accepted g → 60000 < num_points h → first_no (mixed g h) ≡ 4
unfolding first_no
refused g h a l =
    rw (
      le-leb 1 (num_blocks g) a.some_block,
      le-leb (num_blocks g) 6 a.few_blocks,
      a.sizes_two,
      le-leb (num_indices g) 16 a.few_indices,
      eq-eqb (length g.divisions) (num_blocks g) a.same_number,
      a.divisions_one,
      lt-leb (num_points h) 60000 l,
    )

module _ (g : Grid) (k : ℕ) (some : 1 ≤ k) where
  as_mixed : (i : ℕ) → first_no (grid_questions (grid_at g k i)) ≡ first_no (mixed g (grid_at g k i))
  as_mixed i =
      ap (λ (q : Question). first_no (question1 g ∷ question2 g ∷ q ∷ question4 (grid_at g k i) ∷ []))
      (third g (k ^ i) (power_some g k some i))

  asked : (n : ℕ) → first_no (level_questions g k (suc n)) ≡ first_no (mixed g (grid_at g k n))
  asked zero = as_mixed 0
  asked (suc n) =
      let l = level_questions g k (suc n) in
      let h = grid_at g k in
      ⊎_elim
      (λ (z : first_no l ≡ 0). rw (questions-next g k (suc n))
      (asked-next l (grid_questions (h (suc n))) (numbered_levels g k (suc n)) z ∙ as_mixed (suc n)))
      (λ (z : first_no l ≡ 0 → ⊥). rw (questions-next g k (suc n))
      (asked-no l (grid_questions (h (suc n))) (first_no l) z refl
      ∙ asked n
      ∙ sym (mixed_stays g (h n) (h (suc n)) (points-grow g k some n (suc n) (omega arith)) (λ e. z (asked n ∙ e)))))
      (same_or (first_no l) 0)

  -- A division that 16 bits do not hold is refused with 4, on a grid finer than one that is accepted.
  pub too_large : (j : ℕ) → first_no (grid_questions g) ≡ 0 → 60000 ≤ division (finer k g) j
      → first_no (grid_questions (finer k g)) ≡ 4
  too_large j e l =
      let a = accepted g e in
      let many : 60000 < num_points (finer k g) =
      omega (
        arith,
        l,
        division-below (finer k g) a.sizes_two (length-map g.divisions (λ d. k * d) ∙ a.same_number)
            j,
      )
      in
      ap (λ (q : Question). first_no (question1 g ∷ question2 g ∷ q ∷ question4 (finer k g) ∷ [])) (third g k some)
      ∙ refused g (finer k g) a many

-- questions 1 to 4 of all levels
pub asked_of-all : AskedOfAll
asked_of-all g k zero some h = absurd (omega arith)
asked_of-all g k (suc n) some h = asked g k some n
