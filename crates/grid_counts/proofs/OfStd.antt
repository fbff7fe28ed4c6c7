-- The words of the definitions beside those of the standard library's iterators. Assumes nothing.
use mathlib.Core.Bool.{Bool, true, false, ◌&&◌}
use mathlib.Core.List.{List, [], ◌∷◌}
use mathlib.Core.Path.{◌≡◌, refl, ap, sym, ◌∙◌}
use mathlib.Core.Logic.{◌↔◌}
use Prim.Native.Nat.{ℕ, ◌≤◌}
use borrow.Author.Tests.{leb-true, le-leb}
use lib.Dec.{leb}
use lib.ListN.{get_or}
use native.Mathlib.Omega.{arith}
use Rattle.combinatorics.specs.Lists.{all, sum}
use Rattle.std.specs.Prelude.{IsTrue}
use Rattle.std.specs.List.{All, list_all, sum as std_sum}
use Rattle.std.proofs.lemmas.List.Sums.{sum_by-cons, AllPass-from_list_all, list_all-from_AllPass}

all_is : (q : ℕ → Bool) (xs : List ℕ) → list_all q xs ≡ all q xs
all_is q [] = refl
all_is q (x ∷ xs) = ap (λ b. q x && b) (all_is q xs)

two_sides : (r b : Bool) → (r ≡ true → b ≡ true) → (b ≡ true → r ≡ true) → r ≡ b
two_sides true b f g = sym (f refl)
two_sides false true f g = g refl
two_sides false false f g = refl

-- a test of each number of a list, as an iterator answers it
pub all-from : (r : Bool) (n : ℕ) (xs : List ℕ) → (IsTrue r ↔ All (λ x. n ≤ x) xs) → r ≡ all (λ x. leb n x) xs
all-from r n xs h =
    let q : ℕ → Bool = λ x. leb n x in
    two_sides r (all q xs)
    (λ t. sym (all_is q xs) ∙ list_all-from_AllPass q xs (λ k d l. le-leb n (get_or xs k d) (h.0 t k d l)))
    (λ t. h.1 (λ k d l. leb-true n (get_or xs k d) (AllPass-from_list_all q xs (all_is q xs ∙ t) k d l)))

pub sum_is : (xs : List ℕ) → std_sum xs ≡ sum xs
sum_is [] = refl
sum_is (x ∷ xs) = omega (arith, sum_by-cons (λ x. x) x xs, sum_is xs)
