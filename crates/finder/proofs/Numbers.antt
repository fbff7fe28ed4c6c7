-- The numbers of a run tell its answer. Assumes nothing.
use mathlib.Core.Bool.{Bool, true, false, cond}
use mathlib.Core.List.{List, [], ◌∷◌}
use mathlib.Core.Path.{◌≡◌, refl, sym, ap, ◌∙◌}
use Prim.Native.Nat.{ℕ, ◌≤◌}
use borrow.Author.Tests.{leb-true, ne_eqb}
use lib.Dec.{eqb, leb}
use lib.ListN.{length, take}
use native.Mathlib.Omega.{arith}
use Rattle.combinatorics.proofs.Basics.{absurd_bool, and_left, and_right}
use Rattle.combinatorics.proofs.Fronts.{front_taken}
use Rattle.combinatorics.specs.Front.{front}
use Rattle.combinatorics.specs.Lists.{all}
use Rattle.end_kinds.specs.Numbers.{kind_number}
use Rattle.end_kinds.specs.declared.Kind.{Kind}
use Rattle.end_kinds.specs.declared.Kind.TheVariants.{Facet as facet_end, Place as place_end}
use Rattle.place.specs.Path.{PathAnswer, answer, ended, spent, unknown}
use Rattle.place.specs.Problem.{Problem}
use Rattle.place.specs.Questions.{run_questions}
use Rattle.questions.specs.Questions.{Question, first_no}
use Rattle.finder.specs.Numbers.{RunCallsTell, RunNumbersTell, run_facts, run_number}
use Rattle.finder.specs.Run.{case_of, run_answer, run_refusal}
use Rattle.finder.specs.declared.answers.RunAnswer.{RunAnswer}
use Rattle.finder.specs.declared.answers.RunAnswer.TheVariants.{End, Refused, Spent, Unknown}

pub kind-tells : (k l : Kind) → kind_number k ≡ kind_number l → k ≡ l
kind-tells place_end place_end e = refl
kind-tells place_end facet_end e = absurd (omega (arith, e))
kind-tells facet_end place_end e = absurd (omega (arith, e))
kind-tells facet_end facet_end e = refl

pub run-numbers_tell : RunNumbersTell
run-numbers_tell (Refused n) (Refused m) e f = cc
run-numbers_tell (Refused n) (Spent m) e f = absurd_bool (cc)
run-numbers_tell (Refused n) (Unknown m i) e f = absurd_bool (cc)
run-numbers_tell (Refused n) (End m l k b v) e f = absurd_bool (cc)
run-numbers_tell (Spent n) (Refused m) e f = absurd_bool (cc)
run-numbers_tell (Spent n) (Spent m) e f = cc
run-numbers_tell (Spent n) (Unknown m i) e f = absurd_bool (cc)
run-numbers_tell (Spent n) (End m l k b v) e f = absurd_bool (cc)
run-numbers_tell (Unknown n j) (Refused m) e f = absurd_bool (cc)
run-numbers_tell (Unknown n j) (Spent m) e f = absurd_bool (cc)
run-numbers_tell (Unknown n j) (Unknown m i) e f = cc
run-numbers_tell (Unknown n j) (End m l k b v) e f = absurd_bool (cc)
run-numbers_tell (End n r h c w) (Refused m) e f = absurd_bool (cc)
run-numbers_tell (End n r h c w) (Spent m) e f = absurd_bool (cc)
run-numbers_tell (End n r h c w) (Unknown m i) e f = absurd_bool (cc)
run-numbers_tell (End n r h c w) (End m l k b v) e f =
    let z : kind_number h ≡ kind_number k = cc in
    let y : h ≡ k = kind-tells h k z in
    cc

-- a refusal's number is one of the questions'
pub no_above : (n : ℕ) (qs : List Question) → all (λ q. leb q.number n) qs ≡ true → first_no qs ≤ n
unfolding first_no
no_above n [] a = omega arith
no_above n (q ∷ qs) a =
    go q.answered_yes (leb-true q.number n (and_left (leb q.number n) _ a))
    (no_above n qs (and_right (leb q.number n) _ a))
  where
    go : (b : Bool) → q.number ≤ n → first_no qs ≤ n → cond b (first_no qs) q.number ≤ n
    go true h i = i
    go false h i = h

-- a run refuses by a number from 1 to 8
abbrev InRange : RunAnswer → Type 0
InRange a = (n : ℕ) → a ≡ Refused n → (1 ≤ n) × (n ≤ 8)

case_range : (o : PathAnswer) → InRange (case_of o)
case_range (spent k) n e = absurd_bool (cc)
case_range (ended k l kind b v s) n e = absurd_bool (cc)
case_range (unknown k i) n e = absurd_bool (cc)

run-range : (p : Problem) (room budget : ℕ) → InRange (run_answer p room budget)
unfolding run_answer
run-range p room budget = go (eqb (run_refusal p room) 0) refl
  where
    go : (b : Bool) → eqb (run_refusal p room) 0 ≡ b
        → InRange (cond b (case_of (answer p budget)) (Refused (run_refusal p room)))
    go true q n e = case_range (answer p budget) n e
    go false q n e =
        let m : run_refusal p room ≡ n = cc in
        let z : n ≡ 0 → ⊥ = λ z. absurd_bool (sym (rw (m ∙ z)) ∙ q) in
        (omega arith, omega (arith, no_above 8 (run_questions p room) refl))

-- so the number says how many facts there are
abbrev num_facts : ℕ → ℕ
num_facts n = cond (eqb n 0) 5 (cond (eqb n 9) 1 (cond (eqb n 16) 2 0))

facts_many : (a : RunAnswer) → InRange a → length (run_facts a) ≡ num_facts (run_number a)
facts_many (Refused n) h =
    let w = h n refl in
    rw (
      ne_eqb n 0 (λ e. omega (arith, w.0)),
      ne_eqb n 9 (λ e. omega (arith, w.1)),
      ne_eqb n 16
          (λ e. omega (arith, w.1)),
    )
facts_many (Spent n) h = refl
facts_many (Unknown n i) h = refl
facts_many (End n r k b v) h = refl

pub run_calls_tell : RunCallsTell
run_calls_tell p q room other budget more facts e f =
    let a : RunAnswer = run_answer p room budget in
    let b : RunAnswer = run_answer q other more in
    let l : length (run_facts a) ≡ length (run_facts b) =
    facts_many a (run-range p room budget) ∙ ap num_facts e ∙ sym (facts_many b (run-range q other more)) in
    run-numbers_tell a b e
    (sym (front_taken (run_facts a) facts)
    ∙ ap (λ (n : ℕ). take n (front (run_facts a) facts)) l
    ∙ ap (take (length (run_facts b))) f
    ∙ front_taken (run_facts b) facts)
