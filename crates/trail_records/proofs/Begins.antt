-- Whether bytes begin with those of a record, byte by byte. Assumes nothing.
use mathlib.Core.Bool.{Bool, true, false, ◌&&◌}
use mathlib.Core.List.{List, [], ◌∷◌}
use mathlib.Core.Path.{◌≡◌, refl, sym}
use Prim.Native.Nat.{ℕ, zero, suc, ◌≤◌, ◌<◌}
use borrow.Author.Tests.{eq-eqb, ne_eqb}
use lib.Dec.{eqb}
use lib.ListN.{drop, get_or, length}
use lib.Seq.{drop-cons}
use native.Mathlib.Omega.{arith}
use Rattle.trail.specs.Trail.{begins}

-- where there are too few
pub begins-short : (r bytes : List ℕ) → length bytes < length r → begins r bytes ≡ false
begins-short [] bytes l = absurd (omega arith)
begins-short (x ∷ r) [] l = refl
begins-short (x ∷ r) (y ∷ bytes) l = ends (eqb x y) (begins-short r bytes (omega arith))
  where
    ends : (b : Bool) {c : Bool} → c ≡ false → (b && c) ≡ false
    ends true e = e
    ends false e = refl

module _ (r bytes : List ℕ) (k : ℕ) (low : k < length r) (there : k < length bytes) where
  pub begins-same : get_or bytes k 0 ≡ get_or r k 0 → begins (drop k r) (drop k bytes) ≡ begins (drop (suc k) r)
      (drop (suc k) bytes)
  begins-same e = rw (drop-cons r k 0 low, drop-cons bytes k 0 there, eq-eqb (get_or r k 0) (get_or bytes k 0) (sym e))

  pub begins-other : (get_or bytes k 0 ≡ get_or r k 0 → ⊥) → begins (drop k r) (drop k bytes) ≡ false
  begins-other n = rw
      (drop-cons r k 0 low, drop-cons bytes k 0 there, ne_eqb (get_or r k 0) (get_or bytes k 0) (λ e. n (sym e)))

pub begins-done : (r bytes : List ℕ) (k : ℕ) → length r ≤ k → begins (drop k r) bytes ≡ true
begins-done [] bytes zero l = refl
begins-done [] bytes (suc k) l = refl
begins-done (x ∷ r) bytes zero l = absurd (omega arith)
begins-done (x ∷ r) bytes (suc k) l = begins-done r bytes k (omega arith)
