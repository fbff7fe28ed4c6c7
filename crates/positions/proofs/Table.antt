-- Stores into the table of binomials, how far its rows are needed, and the lists that its entries count.
-- Assumes nothing.
use mathlib.Core.List.{List}
use mathlib.Core.Path.{◌≡◌, refl, ◌∙◌}
use Prim.Native.Nat.{ℕ, zero, suc, ◌+◌, ◌-◌, ◌*◌, pred, ◌≤◌, ◌<◌}
use lib.ListN.{length, set}
use lib.Seq.{get_or-set_same}
use native.Mathlib.Numerals.{add-one}
use native.Mathlib.Omega.{arith}
use Rattle.combinatorics.proofs.Basics.{before_or_not}
use mathlib.Core.Logic.{⊎_elim}
use Rattle.combinatorics.proofs.Binomials.{choose-grows, choose_step}
use Rattle.combinatorics.specs.Counting.{choose}
use Rattle.combinatorics.proofs.Turns.{at_set}
use Rattle.positions.specs.Binomials.{InTable, IsBinomial, HasRows, Keeps, lists}

pub keeps_self : {t : List ℕ} → Keeps t t
keeps_self = record { right = λ k r i e. e }

pub keeps_both : {t u w : List ℕ} → Keeps t u → Keeps u w → Keeps t w
keeps_both f g = record { right = λ k r i e. g.right k r i (f.right k r i e) }

-- an entry's place: in the table, and of no other entry
module _ (k r : ℕ) (i : InTable k r) where
  pub place-below : (15 - k) * 70 + r < 1255
  place-below = ⊎_elim (λ (l : k < 3). omega arith) (λ (l : 3 ≤ k). omega (arith, i.3 l)) (before_or_not k 3)

  place-tells : (k' r' : ℕ) → InTable k' r' → (15 - k') * 70 + r' ≡ (15 - k) * 70 + r → (k' ≡ k) × (r' ≡ r)
  place-tells k' r' j e = ⊎_elim
      (λ (l : k < 3). ⊎_elim
      (λ (m : k' < 3). (omega arith, omega arith))
      (λ (m : 3 ≤ k'). absurd (omega (arith, j.3 m)))
      (before_or_not k' 3))
      (λ (l : 3 ≤ k). ⊎_elim
      (λ (m : k' < 3). absurd (omega (arith, i.3 l)))
      (λ (m : 3 ≤ k'). same (i.3 l) (j.3 m))
      (before_or_not k' 3))
      (before_or_not k 3)
    where
      same : r ≤ 69 → r' ≤ 69 → (k' ≡ k) × (r' ≡ r)
      same a b = (omega arith, omega arith)

  pub in_smaller : (k' r' : ℕ) → 2 ≤ k' → k' ≤ k → r' ≤ r → InTable k' r'
  in_smaller k' r' two l m = (two, omega arith, omega arith, λ h. omega (arith, i.3 (omega arith)))

-- a right entry, stored at its place
module _ (t : List ℕ) (k r v : ℕ) (long : length t ≡ 1255) (i : InTable k r) (right : v ≡ choose (r + k) k) where
  inside : (15 - k) * 70 + r < length t
  inside = rw long (place-below k r i)

  pub stored_is : IsBinomial (set t ((15 - k) * 70 + r) v) k r
  stored_is = get_or-set_same t ((15 - k) * 70 + r) v 0 inside ∙ right

  pub stored-keeps : Keeps t (set t ((15 - k) * 70 + r) v)
  stored-keeps =
      record {
        right = λ k' r' j e.
            at_set (λ x. x ≡ choose (r' + k') k') t ((15 - k) * 70 + r) v ((15 - k') * 70 + r') inside
            (λ same. let p = place-tells k r i k' r' j same in rw (p.0, p.1) right) (λ other. e);
      }

-- a division is small where the block has no more than 60,000 lists
small : (top k d n : ℕ) → k ≤ n → 60000 < choose (top + 1 + k) k → choose (d + n) n ≤ 60000 → d ≤ top
small top k d n l big few = ⊎_elim
    (λ m. omega arith)
    (λ m. absurd (omega (arith, choose-grows (top + 1) d k n m l)))
    (before_or_not d (top + 1))

-- the table has room for the rows of a block of n + 1 indices
pub in_table : (k d n : ℕ) → 2 ≤ k → k ≤ n → n ≤ 15 → choose (d + n) n ≤ 60000 → InTable k d
in_table k d n a b c few =
    let two : choose (344 + 1 + 2) 2 ≡ 60031 = refl in
    let three : choose (69 + 1 + 3) 3 ≡ 62196 = refl in (
      a,
      omega arith,
      small 344 2 d n (omega arith) (omega arith) few,
      λ h. small 69 3 d n (omega arith) (omega arith) few,
    )

-- the next entry of a row
pub row_next : (r k : ℕ) → 1 ≤ k → choose (r + 1 + k) k ≡ choose (r + k) k + choose (r + 1 + (k - 1)) (k - 1)
row_next r zero h = absurd (omega arith)
row_next r (suc k) h = let z : suc k - 1 ≡ k = omega arith in rw (add-one r, z) (choose_step r k)

-- a row more
pub rows_next : (k d : ℕ) (t u : List ℕ) → InTable k d → HasRows k d t → Keeps t u
    → ((r : ℕ) → r ≤ d → IsBinomial u k r) → HasRows (k + 1) d u
rows_next k d t u i h f row k' r two l c = ⊎_elim
    (λ p. f.right k' r (in_smaller k d i k' r two (omega arith) c) (h k' r two p c))
    (λ p. let e : k' ≡ k = omega arith in rw e (row r c))
    (before_or_not k' k)

pub rows-kept : (s d : ℕ) (t u : List ℕ) → s ≤ 16 → choose (d + pred s) (pred s) ≤ 60000 → HasRows s d t → Keeps t u
    → HasRows s d u
rows-kept s d t u a b h f k r two l c = f.right k r
    (in_smaller k d (in_table k d (pred s) two (omega arith) (omega arith) b) k r two (omega arith) c) (h k r two l c)

-- the lists of k numbers are a binomial, where there are any
pub lists-row : (k x : ℕ) → 1 ≤ k → lists k x ≡ choose (x + (k - 1)) (k - 1)
lists-row zero x h = absurd (omega arith)
lists-row (suc k) x h = let z : suc k - 1 ≡ k = omega arith in rw z

pub lists-grow : (j k x : ℕ) → j ≤ k → lists j x ≤ lists k x
lists-grow zero k x h = omega arith
lists-grow (suc j) zero x h = absurd (omega arith)
lists-grow (suc j) (suc k) x h = choose-grows x x j k (omega arith) (omega arith)
