-- Each grid point has one coefficient list, and `coefficients` gives it. In order: one block; the product of blocks; a
-- list is at most its division; the list is one; there is no other. Assumes nothing.
use mathlib.Core.Bool.{Bool, true, false, cond}
use mathlib.Core.List.{List, [], ◌∷◌, ◌++◌, map}
use mathlib.Core.Logic.{◌⊎◌, inl, inr, ⊎_elim}
use mathlib.Core.Path.{◌≡◌, refl, sym, ap, ◌∙◌}
use Prim.Native.Nat.{ℕ, zero, suc, ◌+◌, ◌-◌, min, ◌≤◌, ◌<◌}
use borrow.Author.Tests.{eqb-true, eqb-false, leb-true}
use lib.Dec.{eqb, leb}
use lib.ListN.{length, get_or, take, length-append, length-map, get_or-append}
use lib.Seq.{ext_get_or, take_at, drop_at, get_or-append-add}
use native.Mathlib.Omega.{arith}
use Rattle.combinatorics.proofs.Basics.{absurd_bool, before_or_not, and_left, and_right}
use Rattle.combinatorics.specs.Lists.{all, sum}
use Rattle.grid_points.proofs.Points.{Fits, none, block, fits_of}
use Rattle.grid_points.proofs.Round.{next-first, next-later, find_block, block-fits, next-at}
use Rattle.grid_points.specs.Grid.{Grid, Point, at, num_blocks, num_indices, first_index, size, division, next, lent}
use Rattle.grid_points.specs.Grid.{is_grid_point}
use Rattle.place.specs.Coefficients.{IsCoefficients, run_on, least, block_coefficients, product_coefficients}
use Rattle.place.specs.Coefficients.{coefficients}
use Rattle.place.specs.Problem.{Problem}

-- one block
length_run : (e : ℕ) (v y : List ℕ) → length v ≡ length y → length (run_on e v y) ≡ length v
length_run e [] y q = refl
length_run e (v ∷ vs) [] q = absurd (omega arith)
length_run e (v ∷ vs) (y ∷ ys) q = ap suc (length_run (e + v - y) vs ys (omega arith))

run_step : (e : ℕ) (v y : List ℕ) → length v ≡ length y → sum y ≤ e → (i : ℕ) → suc i < length v
    → at y i + at (run_on e v y) (suc i) ≡ at v i + at (run_on e v y) i
run_step e [] y q c i l = absurd (omega arith)
run_step e (v ∷ vs) [] q c i l = absurd (omega arith)
run_step e (v ∷ []) (y ∷ ys) q c i l = absurd (omega arith)
run_step e (v ∷ w ∷ vs) (y ∷ []) q c i l = absurd (omega arith)
run_step e (v ∷ w ∷ vs) (y ∷ z ∷ ys) q c zero l = omega arith
run_step e (v ∷ w ∷ vs) (y ∷ z ∷ ys) q c (suc i) l =
    run_step (e + v - y) (w ∷ vs) (z ∷ ys) (omega arith) (omega arith) i (omega arith)

run-last : (e : ℕ) (v y : List ℕ) → length v ≡ length y → sum y ≤ e → (i : ℕ) → suc i ≡ length v
    → at y i + (e + sum v - sum y) ≡ at v i + at (run_on e v y) i
run-last e [] y q c i l = absurd (omega arith)
run-last e (v ∷ vs) [] q c i l = absurd (omega arith)
run-last e (v ∷ []) (y ∷ []) q c zero l = omega arith
run-last e (v ∷ []) (y ∷ z ∷ ys) q c i l = absurd (omega arith)
run-last e (v ∷ []) (y ∷ []) q c (suc i) l = absurd (omega arith)
run-last e (v ∷ w ∷ vs) (y ∷ []) q c i l = absurd (omega arith)
run-last e (v ∷ w ∷ vs) (y ∷ z ∷ ys) q c zero l = absurd (omega arith)
run-last e (v ∷ w ∷ vs) (y ∷ z ∷ ys) q c (suc i) l =
    let r : at (z ∷ ys) i + ((e + v - y) + sum (w ∷ vs) - sum (z ∷ ys))
    ≡ at (w ∷ vs) i + at (run_on (e + v - y) (w ∷ vs) (z ∷ ys)) i =
    run-last (e + v - y) (w ∷ vs) (z ∷ ys) (omega arith) (omega arith) i (omega arith) in
    omega arith

-- how far the numbers of a block lie from the first, and from each other
run-near : (e : ℕ) (v y : List ℕ) → length v ≡ length y → sum y ≤ e → (i : ℕ) → i < length v
    → (e ≤ at (run_on e v y) i + sum y) × (at (run_on e v y) i ≤ e + sum v)
run-near e [] y q c i l = absurd (omega arith)
run-near e (v ∷ vs) [] q c i l = absurd (omega arith)
run-near e (v ∷ vs) (y ∷ ys) q c zero l = (omega arith, omega arith)
run-near e (v ∷ vs) (y ∷ ys) q c (suc i) l =
    let r = run-near (e + v - y) vs ys (omega arith) (omega arith) i (omega arith) in
    (omega (arith, r.0), omega (arith, r.1))

run-gap : (d e : ℕ) (v y : List ℕ) → length v ≡ length y → sum y ≤ e → sum v ≤ d → sum y ≤ d → (i j : ℕ) → i < length v
    → j < length v
    → at (run_on e v y) i ≤ at (run_on e v y) j + d
run-gap d e [] y q c a b i j l m = absurd (omega arith)
run-gap d e (v ∷ vs) [] q c a b i j l m = absurd (omega arith)
run-gap d e (v ∷ vs) (y ∷ ys) q c a b zero j l m = omega (arith, (run-near e (v ∷ vs) (y ∷ ys) q c j m).0)
run-gap d e (v ∷ vs) (y ∷ ys) q c a b (suc i) zero l m = omega (arith, (run-near e (v ∷ vs) (y ∷ ys) q c (suc i) l).1)
run-gap d e (v ∷ vs) (y ∷ ys) q c a b (suc i) (suc j) l m =
    run-gap d (e + v - y) vs ys (omega arith) (omega arith) (omega arith) (omega arith) i j (omega arith) (omega arith)

least_le : (a : ℕ) (xs : List ℕ) → least a xs ≤ a
least_le a [] = omega arith
least_le a (x ∷ xs) = omega (arith, least_le (min a x) xs)

least_at : (a : ℕ) (xs : List ℕ) (i : ℕ) → i < length xs → least a xs ≤ at xs i
least_at a [] i c = absurd (omega arith)
least_at a (x ∷ xs) zero c = omega (arith, least_le (min a x) xs)
least_at a (x ∷ xs) (suc i) c = least_at (min a x) xs i (omega arith)

least-is : (a : ℕ) (xs : List ℕ) → (least a xs ≡ a) ⊎ ((i : ℕ) × (i < length xs) × (at xs i ≡ least a xs))
least-is a [] = inl refl
least-is a (x ∷ xs) =
    ⊎_elim (λ q. ⊎_elim (λ c. inl (omega arith)) (λ c. inr (0, omega arith, omega arith)) (before_or_not a x))
    (λ i. inr (suc i.0, omega (arith, i.1), i.2)) (least-is (min a x) xs)

at_map : (a : ℕ) (xs : List ℕ) (i : ℕ) → at (map (λ x. x - a) xs) i ≡ at xs i - a
at_map a [] i = omega arith
at_map a (x ∷ xs) zero = refl
at_map a (x ∷ xs) (suc i) = at_map a xs i

module _ (d : ℕ) (v y : List ℕ) (q : length v ≡ length y) (sv : sum v ≡ d) (sy : sum y ≡ d) where
  block-length : length (block_coefficients d v y) ≡ length v
  block-length = length-map (run_on d v y) (λ x. x - least d (run_on d v y)) ∙ length_run d v y q

  block-rule : (h : ℕ) → h < length v
      → at y h + at (block_coefficients d v y) (cond (eqb (suc h) (0 + length v)) 0 (suc h))
      ≡ at v h + at (block_coefficients d v y) h
  block-rule h c = go (eqb (suc h) (0 + length v)) refl
    where
      r : List ℕ
      r = run_on d v y

      a : ℕ
      a = least d r

      low : (i : ℕ) → i < length v → a ≤ at r i
      low i c = least_at d r i (omega (arith, length_run d v y q))

      head : (v y : List ℕ) → length v ≡ length y → 0 < length v → at (run_on d v y) 0 ≡ d
      head [] y q c = absurd (omega arith)
      head (v ∷ vs) [] q c = absurd (omega arith)
      head (v ∷ vs) (y ∷ ys) q c = refl

      go : (b : Bool) → eqb (suc h) (0 + length v) ≡ b
          → at y h + at (map (λ x. x - a) r) (cond b 0 (suc h)) ≡ at v h + at (map (λ x. x - a) r) h
      go true e =
          let w : suc h ≡ 0 + length v = eqb-true _ _ e in
          omega (
            arith,
            at_map a r 0,
            at_map a r h,
            head v y q (omega arith),
            run-last d v y q (omega arith) h (omega arith),
            low h c,
            low 0 (omega arith),
          )
      go false e =
          let w : (suc h ≡ 0 + length v → ⊥) = eqb-false _ _ e in
          omega (
            arith,
            at_map a r (suc h),
            at_map a r h,
            run_step d v y q (omega arith) h (omega arith),
            low h c,
            low (suc h) (omega arith),
          )

  block-at-most : (i : ℕ) → i < length v → at (block_coefficients d v y) i ≤ d
  block-at-most i l =
      let r = run_on d v y in
      ⊎_elim (λ e. omega (arith, at_map (least d r) r i, (run-near d v y q (omega arith) i l).1))
      (λ j. omega (
        arith,
        at_map (least d r) r i,
        j.2,
        run-gap d d v y q (omega arith) (omega arith) (omega arith) i j.0 l (omega (arith, j.1, length_run d v y q)),
      )) (least-is d r)

  block-zero : 0 < length v → (i : ℕ) × (i < length v) × (at (block_coefficients d v y) i ≡ 0)
  block-zero c =
      let r = run_on d v y in
      ⊎_elim (λ e. (0, c, omega (arith, at_map (least d r) r 0, head v y q c)))
      (λ i. (i.0, omega (arith, i.1, length_run d v y q), omega (arith, at_map (least d r) r i.0, i.2)))
      (least-is d r)
    where
      head : (v y : List ℕ) → length v ≡ length y → 0 < length v → at (run_on d v y) 0 ≡ d
      head [] y q c = absurd (omega arith)
      head (v ∷ vs) [] q c = absurd (omega arith)
      head (v ∷ vs) (y ∷ ys) q c = refl

-- all blocks
record Cut (s d : ℕ) (ss ds y : List ℕ) : Type 0 where
  front : List ℕ
  rest : List ℕ
  joined : y ≡ front ++ rest
  long : length front ≡ s
  total : sum front ≡ d
  fits : Fits ss ds rest

cut : {s d : ℕ} {ss ds y : List ℕ} → Fits (s ∷ ss) (d ∷ ds) y → Cut s d ss ds y
cut (block a l p q f) = record { front = a; rest = l; joined = refl; long = p; total = q; fits = f }

undivided : {a b y : List ℕ} → Fits a b y → (s : ℕ) (ss : List ℕ) → a ≡ s ∷ ss → b ≡ [] → ⊥
undivided none s ss p q = absurd_bool (cc)
undivided (block a l h k f) s ss p q = absurd_bool (cc)

no-division : {s : ℕ} {ss y : List ℕ} → Fits (s ∷ ss) [] y → ⊥
no-division {s} {ss} f = undivided f s ss refl refl

split : (s d : ℕ) (ss ds a l b m : List ℕ) → length a ≡ s → length b ≡ s
    → product_coefficients (s ∷ ss) (d ∷ ds) (a ++ l) (b ++ m) ≡ block_coefficients d a b ++ product_coefficients ss ds l m
split s d ss ds a l b m p q = rw (take_at a l s p, drop_at a l s p, take_at b m s q, drop_at b m s q)

cut_split : {s d : ℕ} {ss ds v y : List ℕ} (a : Cut s d ss ds v) (b : Cut s d ss ds y)
    → product_coefficients (s ∷ ss) (d ∷ ds) v y
    ≡ block_coefficients d a.front b.front ++ product_coefficients ss ds a.rest b.rest
cut_split {s} {d} {ss} {ds} a b =
    rw (a.joined, b.joined) (split s d ss ds a.front a.rest b.front b.rest a.long b.long)

product-length : (ss ds : List ℕ) {v y : List ℕ} → Fits ss ds v → Fits ss ds y
    → length (product_coefficients ss ds v y) ≡ sum ss
product-length [] ds fv fy = refl
product-length (s ∷ ss) [] fv fy = absurd (no-division fv)
product-length (s ∷ ss) (d ∷ ds) fv fy =
    let a = cut fv in let b = cut fy in
    let e : length a.front ≡ length b.front = a.long ∙ sym b.long in
    rw (a.joined, b.joined, split s d ss ds a.front a.rest b.front b.rest a.long b.long, length-append)
    (omega (arith, block-length d a.front b.front e a.total b.total, product-length ss ds a.fits b.fits, a.long))

product-rule : (ss ds : List ℕ) {v y : List ℕ} (es : List ℕ) → Fits ss ds v → Fits ss ds y → (h : ℕ) → h < sum ss
    → at y h + at (product_coefficients ss ds v y) (next (lent ss es) h) ≡ at v h + at (product_coefficients ss ds v y) h
product-rule [] ds es fv fy h c = absurd (omega arith)
product-rule (s ∷ ss) [] es fv fy h c = absurd (no-division fv)
product-rule (s ∷ ss) (d ∷ ds) {v} {y} es fv fy h c =
    ⊎_elim (λ l. rw (a.joined, b.joined, split s d ss ds av al bv bl a.long b.long) (here l))
    (λ l. rw (a.joined, b.joined, split s d ss ds av al bv bl a.long b.long)
    (later (h - s) (omega arith) (product-rule ss ds es a.fits b.fits (h - s) (omega arith))))
    (before_or_not h s)
  where
    a : Cut s d ss ds v
    a = cut fv

    b : Cut s d ss ds y
    b = cut fy

    av : List ℕ
    av = a.front

    al : List ℕ
    al = a.rest

    bv : List ℕ
    bv = b.front

    bl : List ℕ
    bl = b.rest

    cb : List ℕ
    cb = block_coefficients d av bv

    cl : List ℕ
    cl = product_coefficients ss ds al bl

    e : length av ≡ length bv
    e = a.long ∙ sym b.long

    lc : length cb ≡ s
    lc = block-length d av bv e a.total b.total ∙ a.long

    here : h < s → at (bv ++ bl) h + at (cb ++ cl) (next (lent (s ∷ ss) es) h) ≡ at (av ++ al) h + at (cb ++ cl) h
    here l =
        let n : ℕ = cond (eqb (suc h) (0 + s)) 0 (suc h) in
        let nl : n < s = go (eqb (suc h) (0 + s)) refl in
        let r : at bv h + at cb (cond (eqb (suc h) (0 + length av)) 0 (suc h)) ≡ at av h + at cb h =
        block-rule d av bv e a.total b.total h (omega (arith, a.long)) in
        rw (
          next-first s ss es h l,
          get_or-append bv bl 0 h (omega (arith, b.long)),
          get_or-append av al 0 h (omega (arith, a.long)),
          get_or-append cb cl 0 h (omega (arith, lc)),
          get_or-append cb cl 0 n (omega (arith, lc)),
        ) (rw a.long at r)
      where
        go : (t : Bool) → eqb (suc h) (0 + s) ≡ t → cond t 0 (suc h) < s
        go true q = omega arith
        go false q = let w : (suc h ≡ 0 + s → ⊥) = eqb-false _ _ q in omega arith

    shift : (x z : List ℕ) → length x ≡ s → (k : ℕ) → at (x ++ z) (s + k) ≡ at z k
    shift x z q k = rw (← q) (get_or-append-add x z k 0)

    later : (k : ℕ) → h ≡ s + k → at bl k + at cl (next (lent ss es) k) ≡ at al k + at cl k
        → at (bv ++ bl) h + at (cb ++ cl) (next (lent (s ∷ ss) es) h) ≡ at (av ++ al) h + at (cb ++ cl) h
    later k q r = rw (
      q,
      next-later s ss es es k,
      shift bv bl b.long k,
      shift av al a.long k,
      shift cb cl lc k,
      shift cb cl lc (next (lent ss es) k),
    ) r

product-zero : (ss ds : List ℕ) {v y : List ℕ} → all (λ s. leb 2 s) ss ≡ true → Fits ss ds v → Fits ss ds y → (j : ℕ)
    → j < length ss
    → (h : ℕ) × (sum (take j ss) ≤ h) × (h < sum (take j ss) + get_or ss j 0) × (at (product_coefficients ss ds v y) h ≡ 0)
product-zero [] ds w fv fy j c = absurd (omega arith)
product-zero (s ∷ ss) [] w fv fy j c = absurd (no-division fv)
product-zero (s ∷ ss) (d ∷ ds) {v} {y} w fv fy zero c =
    let a = cut fv in
    let b = cut fy in
    let e : length a.front ≡ length b.front = a.long ∙ sym b.long in
    let two : 2 ≤ s = leb-true 2 s (and_left (leb 2 s) _ w) in
    let i = block-zero d a.front b.front e a.total b.total (omega (arith, a.long)) in
    let lc : length (block_coefficients d a.front b.front) ≡ s =
    block-length d a.front b.front e a.total b.total ∙ a.long in
    let z : at (product_coefficients (s ∷ ss) (d ∷ ds) v y) i.0 ≡ 0 = ap (λ (l : List ℕ). at l i.0) (cut_split a b)
    ∙ get_or-append (block_coefficients d a.front b.front) (product_coefficients ss ds a.rest b.rest) 0 i.0
    (omega (arith, i.1, lc, a.long))
    ∙ i.2 in
    (i.0, omega arith, omega (arith, i.1, a.long), z)
product-zero (s ∷ ss) (d ∷ ds) w fv fy (suc j) c =
    let a = cut fv in let b = cut fy in
    let e : length a.front ≡ length b.front = a.long ∙ sym b.long in
    let i = product-zero ss ds (and_right (leb 2 s) _ w) a.fits b.fits j (omega arith) in
    let cb : List ℕ = block_coefficients d a.front b.front in
    let lc : length cb ≡ s = block-length d a.front b.front e a.total b.total ∙ a.long in
    let cl : List ℕ = product_coefficients ss ds a.rest b.rest in
    let z : at (cb ++ cl) (s + i.0) ≡ 0 = rw lc at (get_or-append-add cb cl i.0 0 ∙ i.3) in
    (s + i.0, omega (arith, i.1), omega (arith, i.2), ap (λ (l : List ℕ). at l (s + i.0)) (cut_split a b) ∙ z)

-- a coefficient is at most the division of a block
product-at-most : (ss ds : List ℕ) {v y : List ℕ} → Fits ss ds v → Fits ss ds y → (k : ℕ)
    → (j : ℕ) × (at (product_coefficients ss ds v y) k ≤ get_or ds j 0)
product-at-most [] ds fv fy k = (0, omega arith)
product-at-most (s ∷ ss) [] fv fy k = absurd (no-division fv)
product-at-most (s ∷ ss) (d ∷ ds) {v} {y} fv fy k =
    let a = cut fv in
    let b = cut fy in
    let e : length a.front ≡ length b.front = a.long ∙ sym b.long in
    let cb : List ℕ = block_coefficients d a.front b.front in
    let cl : List ℕ = product_coefficients ss ds a.rest b.rest in
    let lc : length cb ≡ length a.front = block-length d a.front b.front e a.total b.total in
    let w : at (product_coefficients (s ∷ ss) (d ∷ ds) v y) k ≡ at (cb ++ cl) k =
    ap (λ (l : List ℕ). at l k) (cut_split a b) in
    ⊎_elim
    (λ (x : k < length cb). (
      0,
      omega (arith, w, get_or-append cb cl 0 k x, block-at-most d a.front b.front e a.total b.total k (omega arith)),
    ))
    (λ (x : length cb ≤ k).
    let z : length cb + (k - length cb) ≡ k = omega arith in
    let i = product-at-most ss ds a.fits b.fits (k - length cb) in
    (suc i.0, omega (arith, w, rw z at (get_or-append-add cb cl (k - length cb) 0), i.1)))
    (before_or_not k (length cb))

pub coefficients-at-most : (p : Problem) (y : Point) → length p.grid.divisions ≡ num_blocks p.grid
    → is_grid_point p.grid p.start ≡ true → is_grid_point p.grid y ≡ true → (k : ℕ)
    → (j : ℕ) × (at (coefficients p y) k ≤ division p.grid j)
unfolding coefficients
coefficients-at-most p y e hv hy =
    let g = p.grid in
    product-at-most g.sizes g.divisions (fits_of g p.start e hv) (fits_of g y e hy)

-- the numbers that `coefficients` gives are a coefficient list
pub coefficients-are : (p : Problem) (y : Point) → length p.grid.divisions ≡ num_blocks p.grid
    → all (λ s. leb 2 s) p.grid.sizes ≡ true → is_grid_point p.grid p.start ≡ true → is_grid_point p.grid y ≡ true
    → IsCoefficients p y (coefficients p y)
unfolding coefficients
coefficients-are p y e w hv hy =
    let g = p.grid in
    let fv = fits_of g p.start e hv in
    let fy = fits_of g y e hy in
    record {
      numbers = product-length g.sizes g.divisions fv fy;
      zero = product-zero g.sizes g.divisions w fv fy;
      rule = product-rule g.sizes g.divisions g.divisions fv fy;
    }

-- and there is no other
pub coefficients-only : {p : Problem} {y : Point} {c d : List ℕ} → IsCoefficients p y c → IsCoefficients p y d → c ≡ d
coefficients-only {p} {y} {c} {d} hc hd =
    ext_get_or 0 c d (hc.numbers ∙ sym hd.numbers) (λ h l. equal h (omega (arith, hc.numbers)))
  where
    g : Grid
    g = p.grid

    along : (j i : ℕ) → i < size g j
        → at c (first_index g j + i) + at d (first_index g j) ≡ at d (first_index g j + i) + at c (first_index g j)
    along j zero l = let z : first_index g j + 0 ≡ first_index g j = omega arith in rw z (omega arith)
    along j (suc i) l =
        let f = first_index g j in
        let ih : at c (f + i) + at d f ≡ at d (f + i) + at c f = along j i (omega arith) in
        let n : next g (f + i) ≡ f + suc i = next-at g j i l in
        let b : f + i < num_indices g = omega (arith, block-fits g.sizes j) in
        let rc : at y (f + i) + at c (f + suc i) ≡ at p.start (f + i) + at c (f + i) = rw n at (hc.rule (f + i) b) in
        let rd : at y (f + i) + at d (f + suc i) ≡ at p.start (f + i) + at d (f + i) = rw n at (hd.rule (f + i) b) in
        omega arith

    firsts : (j : ℕ) → j < num_blocks g → at c (first_index g j) ≡ at d (first_index g j)
    firsts j l =
        let f = first_index g j in
        let zc = hc.zero j l in
        let zd = hd.zero j l in
        let a : ℕ = zc.0 - f in
        let b : ℕ = zd.0 - f in
        let ea : zc.0 ≡ f + a = omega (arith, zc.1) in
        let eb : zd.0 ≡ f + b = omega (arith, zd.1) in
        let ca : at c (f + a) ≡ 0 = rw (← ea) zc.3 in
        let db : at d (f + b) ≡ 0 = rw (← eb) zd.3 in
        omega (arith, along j a (omega (arith, zc.2)), along j b (omega (arith, zd.2)))

    equal : (h : ℕ) → h < num_indices g → at c h ≡ at d h
    equal h l =
        let r = find_block g.sizes h l in
        let e : at c (first_index g r.0 + r.1) ≡ at d (first_index g r.0 + r.1) =
        omega (arith, along r.0 r.1 r.3, firsts r.0 r.2) in
        rw r.4 e
