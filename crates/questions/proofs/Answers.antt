-- Which question of a list is the first answered no, by the parts of the list. Assumes nothing.
use mathlib.Core.Bool.{Bool, true, false, cond}
use mathlib.Core.List.{List, [], ◌∷◌, ◌++◌}
use mathlib.Core.Logic.{⊎_elim}
use mathlib.Core.Path.{◌≡◌, refl, sym, ◌∙◌}
use Prim.Native.Nat.{ℕ, ◌<◌}
use borrow.Author.Tests.{ltb-true, ne_eqb}
use lib.Dec.{eqb, ltb}
use native.Mathlib.Omega.{arith}
use Rattle.combinatorics.proofs.Basics.{and_left, and_right, same_or}
use Rattle.combinatorics.specs.Lists.{all}
use Rattle.questions.specs.Questions.{Question, first_no}

-- no question has the number 0, which says that all are answered yes
abbrev pub numbered : List Question → Bool
numbered qs = all (λ q. ltb 0 q.number) qs

-- where the list answers 0, its first question is answered yes
pub first-yes : (q : Question) (qs : List Question) → 0 < q.number → first_no (q ∷ qs) ≡ 0
    → (q.answered_yes ≡ true) × (first_no qs ≡ 0)
unfolding first_no
first-yes q qs h e = go q.answered_yes e
  where
    go : (b : Bool) → cond b (first_no qs) q.number ≡ 0 → (b ≡ true) × (first_no qs ≡ 0)
    go true e = (refl, e)
    go false e = absurd (omega arith)

-- questions answered yes, and what is asked after them
pub asked-next : (qs rs : List Question) → numbered qs ≡ true → first_no qs ≡ 0 → first_no (qs ++ rs) ≡ first_no rs
unfolding first_no
asked-next [] rs a e = refl
asked-next (q ∷ qs) rs a e =
    let f = first-yes q qs (ltb-true 0 q.number (and_left (ltb 0 q.number) (numbered qs) a)) e in
    rw f.0 (asked-next qs rs (and_right (ltb 0 q.number) (numbered qs) a) f.1)

-- a question answered no, whatever is asked after it
pub asked-no : (qs rs : List Question) (n : ℕ) → (n ≡ 0 → ⊥) → first_no qs ≡ n → first_no (qs ++ rs) ≡ n
unfolding first_no
asked-no [] rs n h e = absurd (h (sym e))
asked-no (q ∷ qs) rs n h e = go q.answered_yes e (asked-no qs rs n h)
  where
    go : (b : Bool) → cond b (first_no qs) q.number ≡ n → (first_no qs ≡ n → first_no (qs ++ rs) ≡ n)
        → cond b (first_no (qs ++ rs)) q.number ≡ n
    go true e i = i e
    go false e i = e

-- questions are asked until one is answered no
pub first-append : (qs rs : List Question) → numbered qs ≡ true
    → first_no (qs ++ rs) ≡ cond (eqb (first_no qs) 0) (first_no rs) (first_no qs)
first-append qs rs a =
    ⊎_elim
    (λ z. rw z (asked-next qs rs a z))
    (λ n. rw (ne_eqb (first_no qs) 0 n) (asked-no qs rs (first_no qs) n refl))
    (same_or (first_no qs) 0)

-- where the list answers 0, so does each part
pub both_yes : (qs rs : List Question) → numbered qs ≡ true → first_no (qs ++ rs) ≡ 0
    → (first_no qs ≡ 0) × (first_no rs ≡ 0)
both_yes qs rs a e =
    ⊎_elim
    (λ z. (z, sym (asked-next qs rs a z) ∙ e))
    (λ n. absurd (n (sym (asked-no qs rs (first_no qs) n refl) ∙ e)))
    (same_or (first_no qs) 0)
