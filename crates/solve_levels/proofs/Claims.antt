-- What holds of every game that the questions let pass: which level is called spent, when an end is answered, and that
-- budgets which reach it agree. Assumes nothing.
use mathlib.Core.Bool.{Bool, true, false}
use mathlib.Core.List.{List, [], ◌∷◌, ◌++◌, map}
use mathlib.Core.Logic.{◌↔◌, ⊎_elim}
use mathlib.Core.Path.{◌≡◌, refl, sym, ap, ◌∙◌}
use Prim.Native.Nat.{ℕ, zero, suc, pred, ◌+◌, ◌-◌, ◌≤◌, ◌<◌}
use lib.IntN.{ℤ}
use lib.ListN.{length-map, take}
use lib.Seq.{take_at}
use native.Mathlib.Omega.{arith}
use Rattle.combinatorics.proofs.Basics.{absurd_bool, before_or_not, true_or_false}
use Rattle.combinatorics.proofs.Ranges.{length-up_from, up_from_add}
use Rattle.combinatorics.proofs.Turns.{map-append}
use Rattle.combinatorics.specs.Lists.{filter, up_from}
use Rattle.place.specs.Path.{PathAnswer, path_length}
use Rattle.questions.specs.Questions.{first_no}
use Rattle.refinement_levels.specs.Levels.{Refinement, level_problem}
use Rattle.solve_levels.proofs.Levels.{levels_some, solved_level}
use Rattle.solve_levels.specs.Claims.{EverySolve, FewerLevels, SolvedLevel, Solves, Within}
use Rattle.solve_levels.specs.Questions.{solve_questions}
use Rattle.solve_levels.specs.Solving.{answer_by, is_spent, level_answer, level_answers, named_gain}
use Rattle.solve_levels.specs.Solving.{named_vertex, solve_answer, solved, spent_levels, stopped}

-- the numbers of a range that pass a test: none does, or the first of them is the first that does
data FirstOf (q : ℕ → Bool) (b n : ℕ) : List ℕ → Type 0 where
  none_of : ((j : ℕ) → b ≤ j → j < b + n → q j ≡ false) → FirstOf q b n []
  some_of : {is : List ℕ} (i : ℕ) → b ≤ i → i < b + n → q i ≡ true → ((j : ℕ) → b ≤ j → j < i → q j ≡ false)
      → FirstOf q b n (i ∷ is)

first_of : (q : ℕ → Bool) (b n : ℕ) → FirstOf q b n (filter q (up_from b n))
first_of q b zero = none_of (λ j l m. absurd (omega arith))
first_of q b (suc n) = ⊎_elim
    (λ (t : q b ≡ true). rw t (some_of b (omega arith) (omega arith) t (λ j l m. absurd (omega arith))))
    (λ (f : q b ≡ false). rw f (later f (first_of q (suc b) n)))
    (true_or_false (q b))
  where
    here : q b ≡ false → (m : ℕ) → ((j : ℕ) → suc b ≤ j → j < m → q j ≡ false) → (j : ℕ) → b ≤ j → j < m → q j ≡ false
    here f m h j l k = ⊎_elim
        (λ (z : b < j). h j (omega arith) k)
        (λ (z : j ≤ b). let e : j ≡ b = omega arith in rw e f)
        (before_or_not b j)

    later : q b ≡ false → {is : List ℕ} → FirstOf q (suc b) n is → FirstOf q b (suc n) is
    later f (none_of h) = none_of (λ j l m. here f (suc b + n) h j l (omega arith))
    later f (some_of i l m t h) = some_of i (omega arith) (omega arith) t (here f i h)

module _ (r : Refinement) (levels room : ℕ) (e : first_no (solve_questions r levels room) ≡ 0) where
  each : (i : ℕ) → i < levels → SolvedLevel r i
  each = solved_level r levels room e

  -- a level is longer than the budget, or not
  longer : (budget i : ℕ) → i < levels → budget < path_length (level_problem r i)
      → is_spent (level_answer r budget i) ≡ true
  longer budget i h l = ap is_spent (((each i h).demand3.spends budget).1 l)

  shorter : (budget i : ℕ) → i < levels → path_length (level_problem r i) ≤ budget
      → is_spent (level_answer r budget i) ≡ false
  shorter budget i h l = ap is_spent ((each i h).ended.announces budget l)

  length_by : (budget i : ℕ) → i < levels → is_spent (level_answer r budget i) ≡ true
      → budget < path_length (level_problem r i)
  length_by budget i h t = ⊎_elim
      (λ (l : budget < path_length (level_problem r i)). l)
      (λ (l : path_length (level_problem r i) ≤ budget). absurd_bool (sym t ∙ shorter budget i h l))
      (before_or_not budget (path_length (level_problem r i)))

  within_by : (budget i : ℕ) → i < levels → is_spent (level_answer r budget i) ≡ false
      → path_length (level_problem r i) ≤ budget
  within_by budget i h f = ⊎_elim
      (λ (l : budget < path_length (level_problem r i)). absurd_bool (sym (longer budget i h l) ∙ f))
      (λ (l : path_length (level_problem r i) ≤ budget). l)
      (before_or_not budget (path_length (level_problem r i)))

  some_level : 1 ≤ levels
  some_level = levels_some r levels room e

  answered : (budget : ℕ) → solve_answer r levels budget room ≡ answer_by r levels budget (spent_levels r levels budget)
  unfolding solve_answer
  answered budget = rw e

  -- what is answered, by the first level that is longer
  module _ (budget : ℕ) where
    abbrev q : ℕ → Bool
    q i = is_spent (level_answer r budget i)

    stopped_then : {l : List ℕ} → FirstOf q 0 levels l → (i : ℕ) → answer_by r levels budget l ≡ stopped i budget
        → (i < levels) × Within r i budget × (budget < path_length (level_problem r i))
    stopped_then (none_of h) i s = absurd (let z : ◌≡◌ {A = ℕ} 0 1 = cc in omega arith)
    stopped_then (some_of j l m t h) i s =
        let z : i ≡ j = cc in
        let m : j < levels = omega arith in
        rw z (m, (λ k n. within_by budget k (omega arith) (h k (omega arith) n)), length_by budget j m t)

    then_stopped : {l : List ℕ} → FirstOf q 0 levels l → (i : ℕ) → i < levels → Within r i budget
        → budget < path_length (level_problem r i) → answer_by r levels budget l ≡ stopped i budget
    then_stopped (none_of h) i m w l = absurd_bool (sym (longer budget i m l) ∙ h i (omega arith) (omega arith))
    then_stopped (some_of j b n t h) i m w l = ⊎_elim
        (λ (k : j < i). absurd (omega (arith, w j k, length_by budget j (omega arith) t)))
        (λ (k : i ≤ j). ⊎_elim
        (λ (k : i < j). absurd_bool (sym (longer budget i m l) ∙ h i (omega arith) k))
        (λ (o : j ≤ i). let z : j ≡ i = omega arith in rw z)
        (before_or_not i j))
        (before_or_not j i)

    solved_then : {l : List ℕ} → FirstOf q 0 levels l
        → (vertex : ℕ) × (gain : ℤ) × (answer_by r levels budget l ≡ solved vertex gain) → Within r levels budget
    solved_then (none_of h) s i m = within_by budget i m (h i (omega arith) (omega arith))
    solved_then (some_of j b n t h) s i m =
        let e = s.2 in absurd (let z : ◌≡◌ {A = ℕ} 0 1 = cc in omega arith)

    then_solved : {l : List ℕ} → FirstOf q 0 levels l → Within r levels budget
        → (vertex : ℕ) × (gain : ℤ) × (answer_by r levels budget l ≡ solved vertex gain)
    then_solved (none_of h) w = (_, _, refl)
    then_solved (some_of j b n t h) w = absurd (omega (arith, w j (omega arith), length_by budget j (omega arith) t))

    first : FirstOf q 0 levels (spent_levels r levels budget)
    first = first_of q 0 levels

    stops : (i : ℕ) → (solve_answer r levels budget room ≡ stopped i budget)
        ↔ ((i < levels) × Within r i budget × (budget < path_length (level_problem r i)))
    stops i = (
      λ s. stopped_then first i (sym (answered budget) ∙ s),
      λ w. answered budget ∙ then_stopped first i w.0 w.1 w.2,
    )

    solves : Solves r levels budget room ↔ Within r levels budget
    solves = (
      λ s. solved_then first (s.0, s.1, sym (answered budget) ∙ s.2),
      λ w. let s = then_solved first w in (s.0, s.1, answered budget ∙ s.2),
    )

  same_level : (b c : ℕ) → Within r levels b → Within r levels c → (i : ℕ) → i < levels
      → level_answer r b i ≡ level_answer r c i
  same_level b c v w i h = (each i h).as_refined b (v i h) ∙ sym ((each i h).as_refined c (w i h))

  same_levels : (b c : ℕ) → Within r levels b → Within r levels c → (o n : ℕ) → o + n ≤ levels
      → map (level_answer r b) (up_from o n) ≡ map (level_answer r c) (up_from o n)
  same_levels b c v w o zero h = refl
  same_levels b c v w o (suc n) h =
      rw (same_level b c v w o (omega arith), same_levels b c v w (suc o) n (omega arith))

  -- budgets that reach the end answer alike: no level is longer, and the last has the same answer
  alike : (b c : ℕ) → Solves r levels b room → Solves r levels c room
      → (solve_answer r levels b room ≡ solve_answer r levels c room)
      × (level_answers r levels b ≡ level_answers r levels c)
  alike b c s t =
      (answered b ∙ go (first b) (first c) ∙ sym (answered c), same_levels b c v w 0 levels (omega arith))
    where
      v : Within r levels b
      v = (solves b).0 s

      w : Within r levels c
      w = (solves c).0 t

      last : level_answer r b (pred levels) ≡ level_answer r c (pred levels)
      last = same_level b c v w (pred levels) (omega (arith, some_level))

      go : {l m : List ℕ} → FirstOf (q b) 0 levels l → FirstOf (q c) 0 levels m
          → answer_by r levels b l ≡ answer_by r levels c m
      go (none_of h) (none_of k) = ap
          (λ (a : PathAnswer). solved (named_vertex r (pred levels) a) (named_gain r (pred levels) a)) last
      go (some_of j o n t h) k = absurd (omega (arith, v j (omega arith), length_by b j (omega arith) t))
      go (none_of h) (some_of j o n t k) = absurd (omega (arith, w j (omega arith), length_by c j (omega arith) t))

pub every_solve : EverySolve
every_solve r levels room e = record {
  each = each r levels room e;
  stops = stops r levels room e;
  solves = solves r levels room e;
  alike = alike r levels room e;
}

pub fewer_levels : FewerLevels
fewer_levels r n levels budget h =
    let z : n + (levels - n) ≡ levels = omega arith in
    let f = level_answer r budget in
    let split : map f (up_from 0 levels) ≡ map f (up_from 0 n) ++ map f (up_from (0 + n) (levels - n)) = (
    ap (map f) (ap (up_from 0) (sym z) ∙ up_from_add 0 n (levels - n))
    ∙ map-append f (up_from 0 n) (up_from (0 + n) (levels - n))) in
    let long = length-map (up_from 0 n) f ∙ length-up_from 0 n in
    ap (take n) split ∙ take_at (map f (up_from 0 n)) (map f (up_from (0 + n) (levels - n))) n long
