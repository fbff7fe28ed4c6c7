-- The tails of a grid point, the sums of its coordinates from each index on, and its position by them: where tails
-- rise, the position falls. Assumes nothing.
use mathlib.Core.Bool.{true, cond}
use mathlib.Core.List.{List, [], ◌∷◌, map, map-append}
use mathlib.Core.Logic.{◌⊎◌, inl, inr, ⊎_elim}
use mathlib.Core.Path.{◌≡◌, refl, sym, ap, ◌∙◌, subst}
use Prim.Native.Nat.{ℕ, zero, suc, ◌+◌, ◌-◌, ◌*◌, min, max, ◌≤◌, ◌<◌}
use borrow.Author.Tests.{eq-eqb, ne_eqb}
use lib.Dec.{eqb}
use lib.ListN.{length, length-map, get_or}
use native.Mathlib.Numerals.{add-one}
use native.Mathlib.Omega.{arith}
use Rattle.combinatorics.proofs.Basics.{same_or, before_or_not}
use Rattle.combinatorics.proofs.Ranges.{length-up_from, up_from_add}
use Rattle.combinatorics.proofs.Turns.{sum-append}
use Rattle.combinatorics.specs.Counting.{choose}
use Rattle.combinatorics.specs.Lists.{sum, up_from}
use Rattle.grid_points.proofs.Accepted.{Accepted, size-two}
use Rattle.grid_points.specs.Grid.{Grid, Point, position, points, num_blocks, num_indices, first_index, size, division}
use Rattle.grid_points.specs.Grid.{is_grid_point, at, MovedBy, block_count}
use Rattle.positions.specs.Binomials.{lists}
use Rattle.positions.specs.Falls.{tail_from, Falls}
use Rattle.positions.proofs.Positions.{at_position, block_step, rank_of, rank_below, Horner, horner_start}
use Rattle.positions.proofs.Positions.{horner_next, horner_done, adds_up}

-- the sum of the n coordinates from i on
abbrev pub tail : Point → ℕ → ℕ → ℕ
tail y i n = sum (map (at y) (up_from i n))

-- how many of the n indices from i on are x
abbrev pub hits : ℕ → ℕ → ℕ → ℕ
hits x i zero = 0
hits x i (suc n) = cond (eqb i x) 1 0 + hits x (suc i) n

pub hits_out : (x i n : ℕ) → (x < i) ⊎ (i + n ≤ x) → hits x i n ≡ 0
hits_out x i zero o = refl
hits_out x i (suc n) o = rw (ne_eqb i x (λ q. ⊎_elim (λ l. omega arith) (λ l. omega arith) o))
    (omega (arith, hits_out x (suc i) n (⊎_elim (λ l. inl (omega arith)) (λ l. inr (omega arith)) o)))

pub hits_in : (x i n : ℕ) → i ≤ x → x < i + n → hits x i n ≡ 1
hits_in x i zero l m = absurd (omega arith)
hits_in x i (suc n) l m =
    ⊎_elim (λ (q : i ≡ x). rw (eq-eqb i x q) (omega (arith, hits_out x (suc i) n (inl (omega arith)))))
    (λ (q : i ≡ x → ⊥). rw (ne_eqb i x q) (omega (arith, hits_in x (suc i) n (omega (arith, q)) (omega arith))))
    (same_or i x)

pub tail-moved : (g : Grid) (y z : Point) (h c : ℕ) → MovedBy g y z h c → (i n : ℕ) → i + n ≤ num_indices g
    → tail z i n + hits c i n ≡ tail y i n + hits h i n
tail-moved g y z h c m i zero l = refl
tail-moved g y z h c m i (suc n) l = omega (arith, m i (omega arith), tail-moved g y z h c m (suc i) n (omega arith))

-- the position of the n coordinates from i on
abbrev pub rank : Point → ℕ → ℕ → ℕ
rank y i n = rank_of y i n (tail y i n)

pub rank_one : (y : Point) (i : ℕ) → rank y i 1 ≡ 0
rank_one y i = omega (arith, rank_below y i 1 (tail y i 1) (omega arith) refl)

pub rank_next : (y : Point) (i k : ℕ)
    → rank y i (suc (suc k)) + choose (tail y (suc i) (suc k) + suc k) (suc k)
    ≡ choose (tail y i (suc (suc k)) + suc k) (suc k) + rank y (suc i) (suc k)
unfolding rank_of
rank_next y i k =
    let r : Point = map (at y) (up_from (suc i) (suc k)) in
    let z : at y i + sum r - at y i ≡ sum r = omega arith in
    subst (λ (e : ℕ). rank y i (suc (suc k)) + choose (e + suc k) (suc k)
    ≡ choose (tail y i (suc (suc k)) + suc k) (suc k) + rank_of y (suc i) (suc k) e)
    z (block_step k (at y i + sum r) (at y i) r (omega arith)
    (length-map (up_from (suc i) (suc k)) (at y) ∙ length-up_from (suc i) (suc k)) (omega arith))

-- the position in the blocks before j
abbrev pub before : Grid → Point → ℕ → ℕ
before g y zero = 0
before g y (suc j) = before g y j * block_count g j + rank y (first_index g j) (size g j)

module _ (g : Grid) (y : Point) (x : Accepted g) (h : is_grid_point g y ≡ true) where
  before_horner : (j : ℕ) → j ≤ num_blocks g → Horner g y j (before g y j)
  unfolding rank_of
  before_horner zero l = horner_start g y x h
  before_horner (suc j) l =
      rw (adds_up g y x h j l, ← add-one j) (horner_next g y x h j (before g y j) l (before_horner j (omega arith)))

  pub position-is : before g y (num_blocks g) ≡ position g y
  position-is = horner_done g y x h _ (before_horner (num_blocks g) (omega arith))

pub position-tells : (g : Grid) → Accepted g → (y z : Point) → is_grid_point g y ≡ true → is_grid_point g z ≡ true
    → position g y ≡ position g z → y ≡ z
position-tells g a y z h i e =
    sym (at_position g y a.same_number h) ∙ ap (λ n. get_or (points g) n []) e ∙ at_position g z a.same_number i

choose_split : (t k : ℕ) → choose (t + suc k) (suc k) ≡ choose (t + k) k + choose (t + k) (suc k)
choose_split t k = let z : t + suc k ≡ suc (t + k) = omega arith in rw z

choose_rises : (n n' k : ℕ) → n ≤ n' → choose n k ≤ choose n' k
choose_rises n n' zero h = omega arith
choose_rises zero n' (suc k) h = omega arith
choose_rises (suc n) zero (suc k) h = absurd (omega arith)
choose_rises (suc n) (suc n') (suc k) h =
    omega (arith, choose_rises n n' k (omega arith), choose_rises n n' (suc k) (omega arith))

-- of the lists that stand behind a point, those that first differ at the index before i, where they have more: their
-- n + 1 numbers from i on add up to less
abbrev more : Point → ℕ → ℕ → ℕ
more y i n = choose (tail y i (suc n) + n) (suc n)

-- those that first differ there or at one of the n - 1 indices behind
abbrev behind : Point → ℕ → ℕ → ℕ
behind y i zero = 0
behind y i (suc n) = more y i n + behind y (suc i) n

-- the lists before, the one here and those behind are all lists
rank_and_behind : (y : Point) (i n : ℕ) → rank y i (suc n) + behind y (suc i) n + 1 ≡ choose (tail y i (suc n) + n) n
rank_and_behind y i zero = omega (arith, rank_one y i)
rank_and_behind y i (suc n) =
    omega (arith, rank_next y i n, choose_split (tail y (suc i) (suc n)) n, rank_and_behind y (suc i) n)

behind_rises : (y z : Point) (i n : ℕ) → ((p q : ℕ) → p + q ≡ i + n → tail y p q ≤ tail z p q)
    → behind y i n ≤ behind z i n
behind_rises y z i zero h = omega arith
behind_rises y z i (suc n) h =
    omega (
      arith,
      choose_rises (tail y i (suc n) + n) (tail z i (suc n) + n) (suc n) (omega (arith, h i (suc n) refl)),
      behind_rises y z (suc i) n (λ p q e. h p q (omega arith)),
    )

-- f tells the difference at each index
behind_differs : (y z : Point) (f : ℕ → ℕ) (i n : ℕ)
    → ((p q : ℕ) → p + suc q ≡ i + n → more z p q + f q ≡ more y p q + f (suc q))
    → behind z i n + f 0 ≡ behind y i n + f n
behind_differs y z f i zero h = refl
behind_differs y z f i (suc n) h =
    omega (arith, h i n refl, behind_differs y z f (suc i) n (λ p q e. h p q (omega arith)))

tail_split : (y : Point) (i h m : ℕ) → i ≤ h → h ≤ m → tail y i (m - i) ≡ tail y i (h - i) + tail y h (m - h)
tail_split y i h m l n =
    let s : m - i ≡ h - i + (m - h) = omega arith in
    let t : i + (h - i) ≡ h = omega arith in
    rw (s, up_from_add i (h - i) (m - h), map-append, sum-append, t)

tail_none : (y : Point) (i n : ℕ) → ((k : ℕ) → i ≤ k → k < i + n → at y k ≡ 0) → tail y i n ≡ 0
tail_none y i zero h = refl
tail_none y i (suc n) h =
    omega (arith, h i (omega arith) (omega arith), tail_none y (suc i) n (λ k l m. h k (omega arith) (omega arith)))

-- a grid of one block
module _ (g : Grid) (a : Accepted g) (one : num_blocks g ≡ 1) where
  pub all-indices : num_indices g ≡ size g 0
  all-indices = go g.sizes one
    where
      go : (ss : List ℕ) → length ss ≡ 1 → sum ss ≡ get_or ss 0 0
      go [] e = absurd (omega arith)
      go (s ∷ []) e = omega arith
      go (s ∷ t ∷ ss) e = absurd (omega arith)

  some-index : num_indices g ≡ suc (num_indices g - 1)
  some-index = omega (arith, all-indices, (size-two g a 0 (omega arith)).0)

  module _ (y : Point) (h : is_grid_point g y ≡ true) where
    tail_all : tail y 0 (num_indices g) ≡ division g 0
    tail_all = rw all-indices (adds_up g y a h 0 (omega arith))

    position_and_behind : position g y + behind y 1 (num_indices g - 1) + 1
        ≡ choose (division g 0 + (num_indices g - 1)) (num_indices g - 1)
    position_and_behind =
        let n = num_indices g - 1 in
        let first : before g y 1 ≡ position g y =
        subst (λ (j : ℕ). before g y j ≡ position g y) one (position-is g y a h) in
        let all : size g 0 ≡ suc n = sym all-indices ∙ some-index in
        let sums : tail y 0 (suc n) ≡ division g 0 = subst (λ (m : ℕ). tail y 0 m ≡ division g 0) some-index tail_all in
        let ranked : rank y 0 (suc n) ≡ position g y = subst (λ (m : ℕ). rank y 0 m ≡ position g y) all (omega arith) in
        rw (← sums) (omega (arith, rank_and_behind y 0 n))

pub tails_order : (g : Grid) → Accepted g → num_blocks g ≡ 1 → (y z : Point) → is_grid_point g y ≡ true
    → is_grid_point g z ≡ true → ((k : ℕ) → k < num_indices g → tail_from g y k ≤ tail_from g z k)
    → position g z ≤ position g y
tails_order g a one y z h i l = omega (
  arith,
  position_and_behind g a one y h,
  position_and_behind g a one z i,
  behind_rises y z 1 (num_indices g - 1) tails,
)
  where
    tails : (p q : ℕ) → p + q ≡ 1 + (num_indices g - 1) → tail y p q ≤ tail z p q
    tails p zero e = omega arith
    tails p (suc q) e =
        let z : num_indices g - p ≡ suc q = omega (arith, some-index g a one) in
        rw z at (l p (omega (arith, some-index g a one)))

-- one index more among those whose tails rise from r to r + 1
lists_step : (r k : ℕ) → choose (r + 1 + k) (suc k) + lists k (r + 1) ≡ choose (r + k) (suc k) + lists (suc k) (r + 1)
lists_step r zero = let z : r + 1 + 0 ≡ suc (r + 0) = omega arith in rw z (omega arith)
lists_step r (suc k) =
    let z : r + 1 + suc k ≡ suc (r + suc k) = omega arith in
    let w : r + 1 + k ≡ r + suc k = omega arith in
    rw (z, w) (omega arith)

-- the tails with at least e and less than u numbers behind their first rise from r to r + 1, and the others stay
module _ (y z : Point) (i n e u r : ℕ) (order : e ≤ u) (inside : u ≤ n)
    (stay : (p q : ℕ) → p + suc q ≡ i + n → (q < e) ⊎ (u ≤ q) → tail z p (suc q) ≡ tail y p (suc q))
    (rise : (p q : ℕ) → p + suc q ≡ i + n → e ≤ q → q < u → (tail y p (suc q) ≡ r) × (tail z p (suc q) ≡ r + 1)) where
  abbrev lists_at : ℕ → ℕ
  lists_at q = lists (max e (min q u)) (r + 1)

  differs_at : (p q : ℕ) → p + suc q ≡ i + n → more z p q + lists_at q ≡ more y p q + lists_at (suc q)
  differs_at p q s = ⊎_elim
      (λ (l : q < e). same (inl l) (omega arith))
      (λ (l : e ≤ q). ⊎_elim (risen l) (λ (m : u ≤ q). same (inr m) (omega arith)) (before_or_not q u))
      (before_or_not q e)
    where
      same : (q < e) ⊎ (u ≤ q) → max e (min q u) ≡ max e (min (suc q) u)
          → more z p q + lists_at q ≡ more y p q + lists_at (suc q)
      same o c = omega (arith, ap (λ t. choose (t + q) (suc q)) (stay p q s o), ap (λ k. lists k (r + 1)) c)

      risen : e ≤ q → q < u → more z p q + lists_at q ≡ more y p q + lists_at (suc q)
      risen l m =
          let t = rise p q s l m in
          let now : max e (min q u) ≡ q = omega arith in
          let next : max e (min (suc q) u) ≡ suc q = omega arith in
          rw (now, next) (omega (
            arith,
            ap (λ t. choose (t + q) (suc q)) t.0,
            ap (λ t. choose (t + q) (suc q)) t.1,
            lists_step r q,
          ))

  behind_risen : behind z i n + lists e (r + 1) ≡ behind y i n + lists u (r + 1)
  behind_risen =
      let first : max e (min 0 u) ≡ e = omega arith in
      let last : max e (min n u) ≡ u = omega arith in
      rw (first, last) at (behind_differs y z lists_at i n differs_at)

module _ (g : Grid) (a : Accepted g) {y z : Point} {h b r : ℕ} (f : Falls g y z h b r) where
  moved-tail : (p q : ℕ) → p + q ≡ num_indices g → tail z p q + hits b p q ≡ tail y p q + hits h p q
  moved-tail p q e = tail-moved g y z h b f.moved p q (omega arith)

  tail-stays : (p q : ℕ) → p + q ≡ num_indices g → (h < p) ⊎ (p ≤ b) → tail z p q ≡ tail y p q
  tail-stays p q e o = omega (
    arith,
    moved-tail p q e,
    ⊎_elim
        (λ (l : h < p). hits_out b p q (inl (omega arith)) ∙ sym (hits_out h p q (inl l)))
        (λ (l : p ≤ b). hits_in b p q l (omega arith) ∙ sym (hits_in h p q (omega arith) (omega arith)))
        o,
  )

  tail_rises : (p q : ℕ) → p + q ≡ num_indices g → b < p → p ≤ h → tail z p q ≡ tail y p q + 1
  tail_rises p q e l m = omega (arith, moved-tail p q e, hits_out b p q (inl l), hits_in h p q m (omega arith))

  -- the tails of y at the indices behind b, as far as h
  tail-between : (p q : ℕ) → p + q ≡ num_indices g → b < p → p ≤ h → tail y p q ≡ r
  tail-between p q e l m =
      let z : num_indices g - p ≡ q = omega arith in
      let split : tail y p q ≡ tail y p (h - p) + tail y h (num_indices g - h) =
      rw z at (tail_split y p h (num_indices g) m (omega arith)) in
      omega (arith, f.tail, tail_none y p (h - p) (λ k i j. f.between k (omega arith) (omega arith)))

  pub falls-room : r < division g 0
  falls-room =
      let all : num_indices g - 0 ≡ num_indices g = omega arith in
      omega (
        arith,
        f.tail,
        tail_rises h (num_indices g - h) (omega arith) f.before (omega arith),
        rw all at (tail_split z 0 h (num_indices g) (omega arith) (omega arith)),
        tail_all g a f.one z f.there,
      )

  pub falls_by : position g y + lists (num_indices g - 1 - h) (r + 1)
      ≡ position g z + lists (num_indices g - 1 - b) (r + 1)
  falls_by =
      let some = some-index g a f.one in
      omega (
        arith,
        position_and_behind g a f.one y f.here,
        position_and_behind g a f.one z f.there,
        behind_risen y z 1 (num_indices g - 1) (num_indices g - 1 - h) (num_indices g - 1 - b) r (omega arith)
            (omega arith)
            (λ p q e o. tail-stays p (suc q) (omega arith) (⊎_elim (λ l. inl (omega arith)) (λ l. inr (omega arith)) o))
            (λ p q e l m.
            let t = tail-between p (suc q) (omega arith) (omega arith) (omega arith) in
            (t, omega (arith, tail_rises p (suc q) (omega arith) (omega arith) (omega arith)))),
      )
