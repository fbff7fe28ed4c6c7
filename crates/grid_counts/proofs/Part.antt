-- The numbers of a part of a list. Assumes nothing.
use mathlib.Core.List.{List, ◌∷◌, map}
use mathlib.Core.Path.{◌≡◌, refl, ap}
use Prim.Native.Nat.{ℕ, zero, suc, ◌+◌, ◌≤◌}
use lib.ListN.{length, get_or, take, drop}
use lib.Seq.{drop-cons}
use native.Mathlib.Omega.{arith}
use Rattle.combinatorics.specs.Lists.{up_from}

pub numbers-part : (y : List ℕ) (b n : ℕ) → b + n ≤ length y → map (λ h. get_or y h 0) (up_from b n) ≡ take n (drop b y)
numbers-part y b zero h = refl
numbers-part y b (suc n) h =
    rw (drop-cons y b 0 (omega arith)) (ap (λ (l : List ℕ). get_or y b 0 ∷ l) (numbers-part y (suc b) n (omega arith)))
