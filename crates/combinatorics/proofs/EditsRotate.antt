-- Elements and length of a list with its first element put last. Assumes nothing.
use mathlib.Core.List.{List, [], ◌∷◌}
use mathlib.Core.Path.{◌≡◌, refl, ◌∙◌}
use Prim.Native.Nat.{ℕ, suc, ◌<◌}
use lib.ListN.{length, get_or, length-append, get_or-append}
use lib.Seq.{get_or_at}
use native.Mathlib.Omega.{arith}
use Rattle.combinatorics.specs.Edits.{rotate_left}

pub length-rotate_left : {A : Type 0} (xs : List A) → length (rotate_left xs) ≡ length xs
length-rotate_left [] = refl
length-rotate_left (x ∷ xs) = length-append xs (x ∷ []) ∙ omega arith

-- elements: d stands for what is past the last
module _ {A : Type 0} (d : A) where
  pub rotate_left-before : (xs : List A) (j : ℕ) → suc j < length xs → get_or (rotate_left xs) j d ≡ get_or xs (suc j) d
  rotate_left-before [] j l = absurd (omega arith)
  rotate_left-before (x ∷ xs) j l = get_or-append xs (x ∷ []) d j (omega arith)

  pub rotate_left-last : (xs : List A) (n : ℕ) → length xs ≡ suc n → get_or (rotate_left xs) n d ≡ get_or xs 0 d
  rotate_left-last [] n e = absurd (omega arith)
  rotate_left-last (x ∷ xs) n e = get_or_at xs x [] d n (omega arith)
