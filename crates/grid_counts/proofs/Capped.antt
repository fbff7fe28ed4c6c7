-- Numbers of points that are counted no further than 60,001. Assumes nothing.
use mathlib.Core.List.{List}
use mathlib.Core.Logic.{⊎_elim}
use mathlib.Core.Path.{◌≡◌, sym, ap, ◌∙◌}
use Prim.Native.Nat.{ℕ, zero, suc, ◌+◌, ◌-◌, ◌*◌, ◌≤◌, ◌<◌}
use lib.ListN.{length, get_or, set, replicate, get_or-replicate}
use native.Mathlib.Nat.{mul-le-mul}
use native.Mathlib.Omega.{arith}
use Rattle.combinatorics.proofs.Basics.{before_or_not}
use Rattle.combinatorics.proofs.Binomials.{choose_step, choose-none, choose-grows}
use Rattle.combinatorics.proofs.Turns.{at_set}
use Rattle.combinatorics.specs.Counting.{choose}
use Rattle.grid_counts.specs.Capped.{capped, IsRow}

-- a capped product of capped numbers is the capped product
pub capped-product : (a b : ℕ) → capped (capped a * capped b) ≡ capped (a * b)
capped-product zero b = omega arith
capped-product (suc a) zero = omega arith
capped-product (suc a) (suc b) =
    ⊎_elim
    (λ p. ⊎_elim
    (λ q. let u : capped (suc a) ≡ suc a = omega arith in let w : capped (suc b) ≡ suc b = omega arith in rw (u, w))
    (λ q.
    let w : capped (suc b) ≡ 60001 = omega arith in
    let one : 1 ≤ capped (suc a) = omega arith in
    let r : 1 * 60001 ≤ suc a * suc b = mul-le-mul {n₁ = 1} {m₁ = 60001} (omega arith) q in
    rw w (omega arith)) (before_or_not (suc b) 60001))
    (λ p.
    let w : capped (suc a) ≡ 60001 = omega arith in
    let r : 60001 * 1 ≤ suc a * suc b = mul-le-mul {n₁ = 60001} {m₁ = 1} p (omega arith) in
    rw w (omega arith)) (before_or_not (suc a) 60001)

-- the product so far and one factor more, both counted no further, before the factors to come
pub capped_turn : (p x b : ℕ) → capped (capped (p * capped x) * b) ≡ capped (p * (x * b))
capped_turn p x b =
    left (p * capped x) b ∙ ap capped (turned p (capped x) b) ∙ left x (p * b) ∙ ap capped (back p x b)
  where
    left : (a b : ℕ) → capped (capped a * b) ≡ capped (a * b)
    left a b = let e : capped (capped a) ≡ capped a = omega arith in
        sym (capped-product (capped a) b) ∙ rw e (capped-product a b)

    turned : (p y b : ℕ) → (p * y) * b ≡ y * (p * b)
    turned p y b = omega arith

    back : (p x b : ℕ) → x * (p * b) ≡ p * (x * b)
    back p x b = omega arith

-- the row of r + 1 up to k, that of r from there on
abbrev pub Raised : ℕ → ℕ → ℕ → List ℕ → Type 0
Raised r last k row = (i : ℕ) → i ≤ last
    → (i < k → get_or row i 0 ≡ capped (choose (suc r + i) i)) × (k ≤ i → get_or row i 0 ≡ capped (choose (r + i) i))

pub raised-start : (r last : ℕ) (row : List ℕ) → IsRow r last row → Raised r last 1 row
raised-start r last row h zero l = ((λ p. h 0 l), (λ p. absurd (omega arith)))
raised-start r last row h (suc i) l = ((λ p. absurd (omega arith)), (λ p. h (suc i) l))

pub raised-end : (r last k : ℕ) (row : List ℕ) → last < k → Raised r last k row → IsRow (suc r) last row
raised-end r last k row c h i l = (h i l).0 (omega arith)

pub raised_turn : (r last k : ℕ) (row : List ℕ) → k < length row → 1 ≤ k → k ≤ last → Raised r last k row
    → Raised r last (k + 1) (set row k (capped (get_or row k 0 + get_or row (k - 1) 0)))
raised_turn r last zero row a b c h i l = absurd (omega arith)
raised_turn r last (suc k) row a b c h i l =
    let v : ℕ = capped (get_or row (suc k) 0 + get_or row (suc k - 1) 0) in
    let z : suc k - 1 ≡ k = omega arith in
    let left : get_or row (suc k - 1) 0 ≡ capped (choose (suc r + k) k) = rw z ((h k (omega arith)).0 (omega arith)) in
    let here : get_or row (suc k) 0 ≡ capped (choose (r + suc k) (suc k)) = (h (suc k) c).1 (omega arith) in (
      (λ p. at_set
          (λ x. x ≡ capped (choose (suc r + i) i))
          row (suc k) v i a
          (λ e. rw e (omega (arith, choose_step r k)))
          (λ n. (h i l).0 (omega arith))),
      (λ p. at_set
          (λ x. x ≡ capped (choose (r + i) i))
          row (suc k) v i a
          (λ e. absurd (omega arith))
          (λ n. (h i l).1 (omega arith))),
    )

pub small_turn : (last k v : ℕ) (row : List ℕ) → k < length row → v ≤ 60001
    → ((i : ℕ) → i ≤ last → get_or row i 0 ≤ 60001) → (i : ℕ) → i ≤ last
    → get_or (set row k v) i 0 ≤ 60001
small_turn last k v row a b h i l = at_set (λ x. x ≤ 60001) row k v i a (λ e. b) (λ n. h i l)

-- the row of 0
pub first-row : (last : ℕ) → last < 16 → IsRow 0 last (replicate 16 1)
first-row last h k l = get_or-replicate 16 k 1 0 (omega arith) ∙ omega (arith, choose-none k)

-- once a number is past the cap, so are the later ones
pub past : (r d last : ℕ) → r ≤ d → 60000 < capped (choose (r + last) last) → 60001 ≡ capped (choose (d + last) last)
past r d last h p = omega (arith, choose-grows r d last last h (omega arith))
