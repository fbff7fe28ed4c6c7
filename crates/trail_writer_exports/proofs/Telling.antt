-- The numbers of a run that writes a trail tell its answer. Assumes nothing.
use mathlib.Core.Bool.{Bool, cond, false, true}
use mathlib.Core.List.{[], ◌∷◌}
use mathlib.Core.Path.{◌≡◌, ap, refl, sym, ◌∙◌}
use Prim.Native.Nat.{ℕ}
use lib.Dec.{eqb}
use lib.ListN.{length}
use Rattle.combinatorics.proofs.Basics.{absurd_bool}
use Rattle.finder.proofs.Numbers.{run-numbers_tell}
use Rattle.finder.specs.declared.answers.RunAnswer.{RunAnswer}
use Rattle.finder.specs.Run.{run_refusal}
use Rattle.finder.specs.declared.answers.RunAnswer.TheVariants.{End, Refused}
use Rattle.place.specs.Path.{PathAnswer, answer, ended, spent, unknown}
use Rattle.place.specs.Problem.{Problem}
use Rattle.questions.specs.Questions.{first_no}
use Rattle.trail_writer.specs.Writing.{announces, trail_answer, trail_case, whole_trail, write_question17}
use Rattle.trail_writer.specs.declared.answers.TrailAnswer.{TrailAnswer}
use Rattle.trail_writer_exports.specs.Written.{TrailNumbersTell}

same_answer : (x y : RunAnswer) (m n : ℕ) → x ≡ y → m ≡ n
    → ◌≡◌ {A = TrailAnswer} (record { run = x; bytes = m }) (record { run = y; bytes = n })
same_answer x y m n e f = cc

same_bytes : (announced : Bool) (m n old : ℕ) → (announced ≡ false → m ≡ 0) → (announced ≡ false → n ≡ 0)
    → cond announced m old ≡ cond announced n old → m ≡ n
same_bytes true m n old z w e = e
same_bytes false m n old z w e = z refl ∙ sym (w refl)

-- a run that announces no end has written no bytes
abbrev NoBytes : TrailAnswer → Type 0
NoBytes a = announces a.run ≡ false → a.bytes ≡ 0

case_bytes : (p : Problem) (room : ℕ) (o : PathAnswer) → NoBytes (trail_case p room o)
case_bytes p room (spent n) e = refl
case_bytes p room (unknown n position) e = refl
case_bytes p room (ended n read kind block vertices simplex) e = go (eqb (first_no (write_question17 p room ∷ [])) 0) e
  where
    go : (b : Bool) → NoBytes (cond b
        (record { run = End n read kind block vertices; bytes = length (whole_trail p) })
        (record { run = Refused (first_no (write_question17 p room ∷ [])); bytes = 0 }))
    go true h = absurd_bool h
    go false h = refl

no_bytes : (p : Problem) (room trail_room budget : ℕ) → NoBytes (trail_answer p room trail_room budget)
unfolding trail_answer
no_bytes p room trail_room budget = go (eqb (run_refusal p room) 0)
  where
    go : (b : Bool) → NoBytes (cond b (trail_case p trail_room (answer p budget))
        (record { run = Refused (run_refusal p room); bytes = 0 }))
    go true h = case_bytes p trail_room (answer p budget) h
    go false h = refl

pub trail_numbers_tell : TrailNumbersTell
trail_numbers_tell p q room other trail_room more budget further old e f g =
    let a : TrailAnswer = trail_answer p room trail_room budget in
    let b : TrailAnswer = trail_answer q other more further in
    let r : a.run ≡ b.run = run-numbers_tell a.run b.run e f in
    let s : announces b.run ≡ announces a.run = ap announces (sym r) in
    same_answer a.run b.run a.bytes b.bytes r
    (same_bytes (announces a.run) a.bytes b.bytes old (no_bytes p room trail_room budget)
    (λ h. no_bytes q other more further (s ∙ h))
    (g ∙ ap (λ (x : Bool). cond x b.bytes old) s))
