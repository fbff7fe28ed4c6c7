-- The successor of a grid point leads through the list of grid points. Assumes nothing.
use mathlib.Core.Bool.{Bool, true, false}
use mathlib.Core.List.{List, [], ◌∷◌, ◌++◌, map, append-nil, append_assoc}
use mathlib.Core.Path.{◌≡◌, refl, sym, ap, ◌∙◌, subst, subst⁻¹}
use Prim.Native.Nat.{ℕ, zero, suc, ◌+◌, ◌-◌, pred, ◌≤◌, ◌<◌}
use native.Mathlib.Numerals.{add-one}
use native.Mathlib.Omega.{arith}
use borrow.Author.Tests.{leb-true}
use lib.Dec.{leb}
use lib.ListN.{length, get_or, take, drop, set, replicate, length-append, length-replicate, take-append-drop}
use lib.Seq.{take_at, drop_at, take_all, take-length, take-nil, take-suc, take-take, take-add, length-take-le}
use lib.Seq.{drop-cons, drop-drop, drop-length, get_or-set_other}
use Rattle.combinatorics.proofs.Runs.{Run, one, more, run-append, run-map, run-first, run_at}
use Rattle.combinatorics.proofs.Basics.{absurd_bool, and_left, and_right}
use Rattle.combinatorics.proofs.Fronts.{front_length, front_taken}
use Rattle.combinatorics.proofs.Turns.{sum-append}
use Rattle.combinatorics.specs.Front.{front}
use Rattle.combinatorics.specs.Lists.{all, concat_map, sum, up_from}
use Rattle.grid_points.proofs.Accepted.{Accepted, accepted, size-two}
use Rattle.grid_points.proofs.Round.{block-fits}
use Rattle.grid_points.specs.Grid.{Grid, Point, block_points, product_points, points, num_blocks, num_points, lent}
use Rattle.points_in_order.proofs.Blocks.{of_block, block_part, block-sum, block-length, division-few}
use Rattle.points_in_order.specs.Lent.{PointWithFirsts}
use Rattle.points_in_order.specs.PointAfter.{Step, point_step, after, after_all, first_point, LastPositive}

abbrev zeros : ℕ → List ℕ
zeros n = replicate n 0

after_last : (n v : ℕ) → after (v ∷ zeros n) ≡ point_step false (zeros n ++ (v ∷ []))
after_last zero v = refl
after_last (suc n) v = rw (after_last n 0, length-replicate {A = ℕ} n 0)

pub after-moves : (n a v : ℕ) → after (a ∷ suc v ∷ zeros n) ≡ point_step true (suc a ∷ (zeros n ++ (v ∷ [])))
after-moves n a v = rw (after_last n (suc v), length-replicate {A = ℕ} n 0)

abbrev NextBlock : ℕ → List ℕ → List ℕ → Type 0
NextBlock s x y = (length x ≡ s) × (after x ≡ point_step true y)

abbrev group : ℕ → ℕ → ℕ → List Point
group s d k = map (λ l. k ∷ l) (block_points s (d - k))

single : (d k r : ℕ) → k + r ≡ d → concat_map (group 0 d) (up_from k (suc r)) ≡ (d ∷ []) ∷ []
single d k zero e = let z : d - k ≡ 0 = omega arith in let w : k ≡ d = omega arith in rw (z, w)
single d k (suc r) e = let z : d - k ≡ suc r = omega arith in rw z (single d (suc k) r (omega arith))

cons_next : (s k : ℕ) (x y : List ℕ) → NextBlock s x y → NextBlock (suc s) (k ∷ x) (k ∷ y)
cons_next s k x y n = (ap suc n.0, rw n.1)

block_run : (n d : ℕ) → Run (NextBlock (suc n)) (zeros n ++ (d ∷ [])) (block_points (suc n) d) (d ∷ zeros n)
block_run zero d = rw (single d 0 d (omega arith)) one
block_run (suc n) d = from 0 d (omega arith) (block_run n)
  where
    from : (k r : ℕ) → k + r ≡ d
        → ((e : ℕ) → Run (NextBlock (suc n)) (zeros n ++ (e ∷ [])) (block_points (suc n) e) (e ∷ zeros n))
        → Run (NextBlock (suc (suc n))) (k ∷ (zeros n ++ (r ∷ []))) (concat_map (group (suc n) d) (up_from k (suc r)))
        (d ∷ zeros (suc n))
    from k zero e runs =
        let z : d - k ≡ 0 = omega arith in
        let w : k ≡ d = omega arith in
        rw (z, append-nil, w)
        (run-map (NextBlock (suc n)) (NextBlock (suc (suc n))) (λ l. d ∷ l) (cons_next (suc n) d) (runs 0))
    from k (suc r) e runs =
        let z : d - k ≡ suc r = omega arith in
        subst (λ (v : ℕ). Run (NextBlock (suc (suc n))) (k ∷ (zeros n ++ (suc r ∷ [])))
        (map (λ l. k ∷ l) (block_points (suc n) v) ++ concat_map (group (suc n) d) (up_from (suc k) (suc r)))
        (d ∷ zeros (suc n)))
        (sym z) (run-append (NextBlock (suc (suc n)))
        (run-map (NextBlock (suc n)) (NextBlock (suc (suc n))) (λ l. k ∷ l) (cons_next (suc n) k) (runs (suc r)))
        (ap (λ (m : ℕ). suc (suc m)) (length-replicate {A = ℕ} n 0), after-moves n k r)
        (from (suc k) r (omega arith) runs))

abbrev last_point : List ℕ → List ℕ → Point
last_point [] ds = []
last_point (s ∷ ss) [] = []
last_point (s ∷ ss) (d ∷ ds) = (d ∷ zeros (pred s)) ++ last_point ss ds

abbrev Next : List ℕ → Point → Point → Type 0
Next ss x y = after_all ss x ≡ point_step true y

module _ (s : ℕ) (ss : List ℕ) where
  later-moves : (a x y : Point) → length a ≡ s → Next ss x y → Next (s ∷ ss) (a ++ x) (a ++ y)
  later-moves a x y e n = rw (take_at a x s e, drop_at a x s e, n)

  own-moves : (a b x : Point) (moved : Bool) → length a ≡ s → after a ≡ point_step moved b → (y : Point)
      → after_all ss x ≡ point_step false y
      → after_all (s ∷ ss) (a ++ x) ≡ point_step moved (b ++ y)
  own-moves a b x moved e n y f = rw (take_at a x s e, drop_at a x s e, f, n)

  product-run : {p q : Point} {ps : List Point} → Run (Next ss) p ps q → after_all ss q ≡ point_step false p
      → {a b : Point} {bs : List Point} → length b ≡ s → Run (NextBlock s) a bs b
      → Run (Next (s ∷ ss)) (a ++ p) (concat_map (λ a. map (λ l. a ++ l) ps) bs) (b ++ q)
  product-run r w e (one {x}) =
      rw append-nil (run-map (Next ss) (Next (s ∷ ss)) (λ l. x ++ l) (λ u v n. later-moves x u v e n) r)
  product-run {p} {q} r w e (more {x} {y} n rest) = run-append (Next (s ∷ ss))
      (run-map (Next ss) (Next (s ∷ ss)) (λ l. x ++ l) (λ u v m. later-moves x u v n.0 m) r)
      (own-moves x y q true n.0 n.1 p w) (product-run r w e rest)

all-run : (ss ds : List ℕ) → all (λ s. leb 2 s) ss ≡ true → length ds ≡ length ss
    → Run (Next ss) (first_point ss ds) (product_points ss ds) (last_point ss ds)
    × (after_all ss (last_point ss ds) ≡ point_step false (first_point ss ds))
all-run [] ds h e = (one, refl)
all-run (s ∷ ss) [] h e = absurd (omega arith)
all-run (s ∷ ss) (d ∷ ds) h e =
    let two : 2 ≤ s = leb-true 2 s (and_left (leb 2 s) (all (λ s. leb 2 s) ss) h) in
    let z : suc (pred s) ≡ s = omega arith in
    let i = all-run ss ds (and_right (leb 2 s) (all (λ s. leb 2 s) ss) h) (omega arith) in
    let l : length (d ∷ zeros (pred s)) ≡ s = ap suc (length-replicate {A = ℕ} (pred s) 0) ∙ z in
    let r : Run (NextBlock s) (zeros (pred s) ++ (d ∷ [])) (block_points s d) (d ∷ zeros (pred s)) = subst
    (λ (n : ℕ). Run (NextBlock n) (zeros (pred s) ++ (d ∷ [])) (block_points n d) (d ∷ zeros (pred s)))
    z (block_run (pred s) d) in (
      product-run s ss i.0 i.1 l r,
      own-moves s ss (d ∷ zeros (pred s)) _ (last_point ss ds) false l (after_last (pred s) d) (first_point ss ds) i.1,
    )

module _ (g : Grid) (sized : all (λ s. leb 2 s) g.sizes ≡ true) (as_many : length g.divisions ≡ num_blocks g) where
  pub point-first : get_or (points g) 0 [] ≡ first_point g.sizes g.divisions
  unfolding points
  point-first = run-first (Next g.sizes) [] (all-run g.sizes g.divisions sized as_many).0

  -- from the k-th point to the next
  pub point-after : (k : ℕ) → suc k < num_points g
      → after_all g.sizes (get_or (points g) k []) ≡ point_step true (get_or (points g) (suc k) [])
  unfolding points
  point-after k h = run_at (Next g.sizes) [] (all-run g.sizes g.divisions sized as_many).0 k h

-- what the stores of a move make of a block
set_last : (n v : ℕ) → set (zeros (suc n)) n v ≡ zeros n ++ (v ∷ [])
set_last zero v = refl
set_last (suc n) v = ap (λ (l : List ℕ). 0 ∷ l) (set_last n v)

wraps : (last : ℕ) (b : List ℕ) → suc last ≡ length b → drop 1 b ≡ zeros last
    → after b ≡ point_step false (set (set b 0 0) last (get_or b 0 0))
wraps last [] e z = absurd (omega arith)
wraps last (v ∷ l) e z = subst⁻¹
    (λ (l : List ℕ). after (v ∷ l) ≡ point_step false (set (0 ∷ l) last v))
    z (after_last last v ∙ ap (point_step false) (sym (set_last last v)))

pub moves : (i last : ℕ) (b : List ℕ) → suc last ≡ length b → suc i ≤ last → 0 < get_or b (suc i) 0
    → drop (suc (suc i)) b ≡ zeros (last - suc i)
    → after b ≡ point_step true (set (set (set b (suc i) 0) i (get_or b i 0 + 1)) last (get_or b (suc i) 0 - 1))
moves i last [] e h p z = absurd (omega arith)
moves i zero (a ∷ b) e h p z = absurd (omega arith)
moves zero (suc last) (a ∷ []) e h p z = absurd (omega arith)
moves zero (suc last) (a ∷ zero ∷ l) e h p z = absurd (omega arith)
moves zero (suc last) (a ∷ suc v ∷ l) e h p z =
    let y : suc last - 1 ≡ last = omega arith in
    let w : suc v - 1 ≡ v = omega arith in
    rw (add-one, w)
    (subst⁻¹ (λ (l : List ℕ). after (a ∷ suc v ∷ l) ≡ point_step true (suc a ∷ set (0 ∷ l) last v)) (rw y at z)
    (after-moves last a v ∙ ap (λ (l : List ℕ). point_step true (suc a ∷ l)) (sym (set_last last v))))
moves (suc i) (suc last) (a ∷ b) e h p z =
    let y : suc last - suc (suc i) ≡ last - suc i = omega arith in
    rw (moves i last b (omega arith) (omega arith) p (rw y at z))

-- looking for the last positive number, from the end on
pub zeros_turn : (b : List ℕ) (i : ℕ) → 0 < i → i ≤ length b → get_or b (i - 1) 0 ≡ 0
    → drop i b ≡ zeros (length b - i)
    → drop (i - 1) b ≡ zeros (length b - (i - 1))
zeros_turn b zero p h z l = absurd (omega arith)
zeros_turn b (suc i) p h z l =
    let e : suc i - 1 ≡ i = omega arith in
    let n : length b - i ≡ suc (length b - suc i) = omega arith in
    let here = rw e at z in
    rw (e, drop-cons b i 0 (omega arith), n, here, l)

-- what the stores of a move make of a block, by the last positive place
pub block_wraps : (b : List ℕ) (i : ℕ) → LastPositive b i → i ≡ 0
    → after b ≡ point_step false (set (set b i 0) (length b - 1) (get_or b i 0))
block_wraps b i p e = subst⁻¹
    (λ (n : ℕ). after b ≡ point_step false (set (set b n 0) (length b - 1) (get_or b n 0)))
    e
    (wraps (length b - 1) b (omega (arith, p.inside))
    (subst (λ (n : ℕ). drop (suc n) b ≡ zeros (length b - suc n)) e p.behind))

pub block-moves : (b : List ℕ) (i : ℕ) → LastPositive b i → (i ≡ 0 → ⊥)
    → after b
    ≡ point_step true (set (set (set b i 0) (i - 1) (get_or (set b i 0) (i - 1) 0 + 1)) (length b - 1) (get_or b i 0 - 1))
block-moves b zero p h = absurd (h refl)
block-moves b (suc i) p h =
    let z : suc i - 1 ≡ i = omega arith in
    let w : length b - suc (suc i) ≡ length b - 1 - suc i = omega arith in
    rw (z, get_or-set_other b (suc i) i 0 0 (λ e. omega arith))
    (moves i (length b - 1) b (omega (arith, p.inside)) (omega (arith, p.inside)) (p.positive (omega arith))
    (rw w at p.behind))

pair-below : (b : List ℕ) (i : ℕ) → get_or b i 0 + get_or b (suc i) 0 ≤ sum b
pair-below [] zero = omega arith
pair-below [] (suc i) = omega arith
pair-below (x ∷ []) zero = omega arith
pair-below (x ∷ y ∷ b) zero = omega arith
pair-below (x ∷ b) (suc i) = omega (arith, pair-below b i)

-- the number before the last positive one has room for 1 more
pub room-before : (b : List ℕ) (i n : ℕ) → LastPositive b i → (i ≡ 0 → ⊥) → sum b < n
    → get_or (set b i 0) (i - 1) 0 + 1 < n
room-before b zero n p h s = absurd (h refl)
room-before b (suc i) n p h s =
    let z : suc i - 1 ≡ i = omega arith in
    rw (z, get_or-set_other b (suc i) i 0 0 (λ e. omega arith)) (omega (arith, pair-below b i, p.positive (omega arith)))

-- the blocks from block j on have moved or begun again, those before stand as they were
pub record Passed (ss y : List ℕ) (j : ℕ) (moved : Bool) (now : List ℕ) : Type 0 where
  pub before : take (sum (take j ss)) now ≡ take (sum (take j ss)) y
  pub behind : after_all (drop j ss) (drop (sum (take j ss)) y) ≡ point_step moved (drop (sum (take j ss)) now)

part_swap : (f s : ℕ) (l : List ℕ) → take s (drop f l) ≡ drop f (take (f + s) l)
part_swap zero s l = let z : 0 + s ≡ s = omega arith in rw z
part_swap (suc f) s [] = rw (take-nil {A = ℕ} s, take-nil {A = ℕ} (suc f + s))
part_swap (suc f) s (x ∷ l) = let z : suc f + s ≡ suc (f + s) = omega arith in rw z (part_swap f s l)

-- a move behind the first k blocks is a move of all
lift : (k : ℕ) (ss y l : List ℕ) → after_all (drop k ss) (drop (sum (take k ss)) y) ≡ point_step true l
    → after_all ss y ≡ point_step true (take (sum (take k ss)) y ++ l)
lift zero ss y l e = e
lift (suc k) [] y l e = absurd_bool (sym (ap (λ (t : Step). t.moved) e))
lift (suc k) (s ∷ ss) y l e =
    let i = lift k ss (drop s y) l (rw (drop-drop (sum (take k ss)) s y) e) in
    rw (i, take-add s (sum (take k ss)) y, append_assoc)

module _ (ss y : List ℕ) where
  pub passed_start : Passed ss y (length ss) false y
  passed_start = record { before = refl; behind = rw (drop-length ss) }

  module _ (k : ℕ) (now : List ℕ) (h : k < length ss) (p : Passed ss y (suc k) false now) where
    next-first : sum (take (suc k) ss) ≡ sum (take k ss) + get_or ss k 0
    next-first = rw (take-suc ss k 0 h, sum-append) (omega arith)

    stand : take (sum (take k ss) + get_or ss k 0) now ≡ take (sum (take k ss) + get_or ss k 0) y
    stand = rw next-first at p.before

    -- block k has not been reached
    pub passed_part : take (get_or ss k 0) (drop (sum (take k ss)) now) ≡ take (get_or ss k 0) (drop (sum (take k ss)) y)
    passed_part = part_swap (sum (take k ss)) (get_or ss k 0) now
        ∙ ap (λ (l : List ℕ). drop (sum (take k ss)) l) stand
        ∙ sym (part_swap (sum (take k ss)) (get_or ss k 0) y)

    pub passed_turn : (b : List ℕ) (moved : Bool) → sum (take k ss) + get_or ss k 0 ≤ length now
        → after (take (get_or ss k 0) (drop (sum (take k ss)) now)) ≡ point_step moved b
        → Passed ss y k moved (take (sum (take k ss)) now ++ (b ++ drop (sum (take k ss) + get_or ss k 0) now))
    passed_turn b moved room a =
        let f : ℕ = sum (take k ss) in
        let s : ℕ = get_or ss k 0 in
        let n : length (take f now) ≡ f = length-take-le f now (omega arith) in
        let own : after (take s (drop f y)) ≡ point_step moved b = rw (← passed_part) a in
        let later : after_all (drop (suc k) ss) (drop (f + s) y) ≡ point_step false (drop (f + s) now) =
        rw next-first at p.behind in
        record {
          before = take_at (take f now) (b ++ drop (f + s) now) f n
              ∙ sym (take-take f (f + s) now (omega arith))
              ∙ ap (λ (l : List ℕ). take f l) stand
              ∙ take-take f (f + s) y (omega arith);
          behind = rw (drop-cons ss k 0 h, drop-drop s f y, later, own)
              (ap (point_step moved) (sym (drop_at (take f now) (b ++ drop (f + s) now) f n)));
        }

    -- the part that is lent-block for block k
    module _ (first s : ℕ) (e : first ≡ sum (take k ss)) (f : s ≡ get_or ss k 0) where
      lent-block : take (first + s - first) (drop first now) ≡ take (get_or ss k 0) (drop (sum (take k ss)) now)
      lent-block = let z : first + s - first ≡ s = omega arith in rw (z, e, f)

      pub lent_turn : (b : List ℕ) (moved : Bool) → sum (take k ss) + get_or ss k 0 ≤ length now
          → after (take (first + s - first) (drop first now)) ≡ point_step moved b
          → Passed ss y k moved (take first now ++ (b ++ drop (first + s - first) (drop first now)))
      lent_turn b moved room a =
          let z : first + s - first ≡ s = omega arith in
          let t = passed_turn b moved room (rw lent-block at a) in
          rw (z, drop-drop s first now, e, f) t

      pub lent-ready : (ds firsts : List ℕ) → PointWithFirsts (lent ss ds) firsts y
          → (0 < length (take (first + s - first) (drop first now)))
          × (sum (take (first + s - first) (drop first now)) < 65536)
      lent-ready ds firsts d =
          let g : Grid = lent ss ds in
          let a = accepted g d.grid.accepted in
          let m : take (first + s - first) (drop first now) ≡ of_block g y k =
          lent-block ∙ passed_part ∙ sym (block_part g a y d.is_point k) in
          rw m (
            omega (arith, block-length g y k, (size-two g a k h).0),
            omega (arith, block-sum g a y d.is_point k h, division-few g a k h),
          )

  pub passed_moved : (k : ℕ) (now : List ℕ) → Passed ss y k true now → now ≡ (after_all ss y).list
  passed_moved k now p = sym (take-append-drop (sum (take k ss)) now)
      ∙ ap (λ (l : List ℕ). l ++ drop (sum (take k ss)) now) p.before
      ∙ sym (ap (λ (t : Step). t.list) (lift k ss y (drop (sum (take k ss)) now) p.behind))

  pub passed_end : (now : List ℕ) → Passed ss y 0 false now → now ≡ (after_all ss y).list
  passed_end now p = sym (ap (λ (t : Step). t.list) p.behind)

-- the first point, one block a turn
store_zeros : (p n d : ℕ) → p < n → set (zeros n) p d ≡ front (zeros p ++ (d ∷ [])) (zeros n)
unfolding front
store_zeros p zero d h = absurd (omega arith)
store_zeros zero (suc n) d h = refl
store_zeros (suc p) (suc n) d h = ap (λ (l : List ℕ). 0 ∷ l) (store_zeros p n d (omega arith))

store_behind : (u : List ℕ) (p n d : ℕ) → length u + p < n
    → set (front u (zeros n)) (length u + p) d ≡ front (u ++ (zeros p ++ (d ∷ []))) (zeros n)
unfolding front
store_behind [] p n d h = let z : 0 + p ≡ p = omega arith in rw z (store_zeros p n d (omega arith))
store_behind (x ∷ u) p zero d h = absurd (omega arith)
store_behind (x ∷ u) p (suc n) d h =
    let z : suc (length u) + p ≡ suc (length u + p) = omega arith in
    rw z (ap (λ (l : List ℕ). x ∷ l) (store_behind u p n d (omega arith)))

first_next : (ss ds : List ℕ) (j : ℕ) → j < length ss → length ds ≡ length ss
    → first_point (take (suc j) ss) (take (suc j) ds)
    ≡ first_point (take j ss) (take j ds) ++ (zeros (pred (get_or ss j 0)) ++ (get_or ds j 0 ∷ []))
first_next [] ds j h e = absurd (omega arith)
first_next (s ∷ ss) [] j h e = absurd (omega arith)
first_next (s ∷ ss) (d ∷ ds) zero h e = append-nil _
first_next (s ∷ ss) (d ∷ ds) (suc j) h e = rw (first_next ss ds j (omega arith) (omega arith))
    (sym (append_assoc (zeros (pred s) ++ (d ∷ [])) (first_point (take j ss) (take j ds)) _))

first-length : (ss ds : List ℕ) (j : ℕ) → all (λ s. leb 2 s) ss ≡ true → length ds ≡ length ss
    → length (first_point (take j ss) (take j ds)) ≡ sum (take j ss)
first-length ss ds zero a e = refl
first-length [] ds (suc j) a e = refl
first-length (s ∷ ss) [] (suc j) a e = absurd (omega arith)
first-length (s ∷ ss) (d ∷ ds) (suc j) a e =
    let two : 2 ≤ s = leb-true 2 s (and_left (leb 2 s) (all (λ s. leb 2 s) ss) a) in
    rw (length-append, length-append, length-replicate {A = ℕ})
    (omega (arith, first-length ss ds j (and_right (leb 2 s) (all (λ s. leb 2 s) ss) a) (omega arith)))

pub first_turn : (ss ds : List ℕ) (j : ℕ) → Accepted (lent ss ds) → j < length ss
    → set (front (first_point (take j ss) (take j ds)) (zeros 16)) (sum (take j ss) + get_or ss j 0 - 1) (get_or ds j 0)
    ≡ front (first_point (take (j + 1) ss) (take (j + 1) ds)) (zeros 16)
first_turn ss ds j a h =
    let n = first-length ss ds j a.sizes_two a.same_number in
    let u : List ℕ = first_point (take j ss) (take j ds) in
    let two = (size-two (lent ss ds) a j h).0 in
    let z : sum (take j ss) + get_or ss j 0 - 1 ≡ length u + pred (get_or ss j 0) = omega arith in
    rw (z, add-one, first_next ss ds j h a.same_number)
    (store_behind u (pred (get_or ss j 0)) 16 (get_or ds j 0) (omega (arith, block-fits ss j, a.few_indices)))

-- the array of the first point
pub first_array : (ss ds : List ℕ) → Accepted (lent ss ds)
    → (length (front (first_point ss ds) (zeros 16)) ≡ 16)
    × (take (sum ss) (front (first_point ss ds) (zeros 16)) ≡ get_or (points (lent ss ds)) 0 [])
first_array ss ds a =
    let n : length (first_point ss ds) ≡ sum ss = rw (
      take-length ss,
      take_all (length ss) ds (omega (arith, a.same_number)),
    ) at (first-length ss ds (length ss) a.sizes_two a.same_number) in (
      front_length (first_point ss ds) (zeros 16) (omega (arith, a.few_indices)),
      subst
          (λ (m : ℕ). take m (front (first_point ss ds) (zeros 16)) ≡ first_point ss ds)
          n (front_taken (first_point ss ds) (zeros 16))
          ∙ sym (point-first (lent ss ds) a.sizes_two a.same_number),
    )
