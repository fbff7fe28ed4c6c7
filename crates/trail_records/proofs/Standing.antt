-- What the number of bytes that stand tells of a record. Assumes nothing.
use mathlib.Core.Bool.{Bool, true, false, cond}
use mathlib.Core.Path.{◌≡◌, refl, sym, ◌∙◌}
use Prim.Native.Nat.{ℕ, ◌<◌}
use lib.Dec.{eqb}
use lib.ListN.{length}
use native.Mathlib.Omega.{arith}
use Rattle.trail_records.specs.Records.{differing, record_from}
use Rattle.trail_records.proofs.Differences.{record_length}

-- a record has bytes
positive : (b : Bool) (x y : ℕ) → 0 < x → 0 < y → 0 < cond b x y
positive true x y l m = l
positive false x y l m = m

record_some : (T U T' U' y z : ℕ) → 0 < length (record_from T U T' U' y z)
record_some T U T' U' y z =
    let t = eqb (differing T T') 16 in
    let u = eqb (differing U U') 16 in
    rw (record_length T U T' U' y z) (positive t _ _ (positive u 6 7 (omega arith) (omega arith))
    (positive u 5 6 (omega arith) (omega arith)))

none-stands : (b : Bool) (n : ℕ) → 0 < n → cond b n 0 ≡ 0 → b ≡ false
none-stands true n l e = absurd (omega arith)
none-stands false n l e = refl

all-stands : (b : Bool) (n : ℕ) → (cond b n 0 ≡ 0 → ⊥) → (b ≡ true) × (cond b n 0 ≡ n)
all-stands true n f = (refl, refl)
all-stands false n f = absurd (f refl)

-- of a number of bytes that is the record's where this stands, and else 0
module _ (T U T' U' y z : ℕ) {b : Bool} {r : ℕ} (e : r ≡ cond b (length (record_from T U T' U' y z)) 0) where
  pub not_standing : r ≡ 0 → b ≡ false
  not_standing h = none-stands b _ (record_some T U T' U' y z) (sym e ∙ h)

  pub standing : (r ≡ 0 → ⊥) → (b ≡ true) × (r ≡ length (record_from T U T' U' y z))
  standing h = let w = all-stands b _ (λ q. h (e ∙ q)) in (w.0, e ∙ w.1)
