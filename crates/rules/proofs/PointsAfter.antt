-- The points of a place, one step after another, the steps counted from 16 on, and the numbers of the points in a row.
-- Assumes nothing.
use mathlib.Core.List.{List, ◌++◌, map, append-nil, append_assoc}
use mathlib.Core.Logic.{⊎_elim}
use mathlib.Core.Path.{◌≡◌, refl, sym, ap, ◌∙◌}
use Prim.Native.Nat.{ℕ, zero, suc, ◌+◌, ◌-◌, ◌*◌, ◌≤◌, ◌<◌}
use lib.ListN.{length, length-append, length-take, take, replicate, get_or-replicate, get_or-eq_default}
use lib.Seq.{paste, take-length, length-take-le, get_or-take}
use native.Mathlib.Numerals.{add-one}
use native.Mathlib.Omega.{arith}
use Rattle.combinatorics.proofs.Basics.{before_or_not}
use Rattle.combinatorics.proofs.Fronts.{front_paste}
use Rattle.combinatorics.proofs.EditsRemove.{swap_at_else}
use Rattle.combinatorics.specs.Edits.{swap_at}
use Rattle.combinatorics.specs.Front.{front}
use Rattle.combinatorics.specs.Lists.{concat_map, up_from}
use Rattle.grid_points.specs.Grid.{at}
use Rattle.rules.proofs.FirstMet.{entry}
use Rattle.rules.proofs.Shifted.{at_most_one, length-shifted, shifted_at}
use Rattle.rules.specs.Read.{point_after, ReadyPoint}
use Rattle.rules.specs.Moves.{shifted}

module _ (from : ℕ → ℕ) (order first : List ℕ) where
  pub after_none : first ≡ point_after from order first 0
  unfolding point_after
  after_none = refl

  pub after-one_more : (i h b : ℕ) → h ≡ at order i → b ≡ from h
      → shifted (point_after from order first i) h b ≡ point_after from order first (i + 1)
  unfolding point_after
  after-one_more i h b e f = rw (add-one i, f, e)

  -- only the steps before it count
  pub after_taken : (n i : ℕ) → i ≤ n → point_after from order first i ≡ point_after from (take n order) first i
  unfolding point_after
  after_taken n zero l = refl
  after_taken n (suc i) l = rw (after_taken n i (omega arith), get_or-take n order i 0 (omega arith))

  pub step_ready : (n i k h b : ℕ) (y : List ℕ) → k < i → i ≤ n → ReadyPoint from (take n order) first i
      → y ≡ point_after from order first k → h ≡ at order k → b ≡ from h
      → (at y h < 65535) × (1 ≤ at y b)
  step_ready n i k h b y l m r e f g =
      let at_h : h ≡ at (take n order) k = entry order n k h (omega arith) f in
      let point : y ≡ point_after from (take n order) first k = e ∙ after_taken n k (omega arith) in
      rw (g, at_h, point) (r.fits k l, r.positive k l)

  pub few-ready : (n i : ℕ) → i ≤ n → ReadyPoint from (take n order) first i → ReadyPoint from (take i order) first i
  few-ready n i l r =
      let long : length (take i order) ≡ i = length-take-le i order (omega (arith, r.low, length-take n order)) in
      record {
        low = omega arith;
        few = omega (arith, r.low, r.few);
        indices = λ j m. rw (same j (omega arith)) (r.indices j (omega (arith, r.low)));
        positive = λ j m. rw (same j m, points j m) (r.positive j m);
        fits = λ j m. rw (same j m, points j m) (r.fits j m);
      }
    where
      same : (j : ℕ) → j < i → at (take i order) j ≡ at (take n order) j
      same j m = get_or-take i order j 0 m ∙ sym (get_or-take n order j 0 (omega arith))

      points : (j : ℕ) → j < i → point_after from (take i order) first j ≡ point_after from (take n order) first j
      points j m = sym (after_taken i j (omega arith)) ∙ after_taken n j (omega arith)

  pub length-after : (i : ℕ) → length (point_after from order first i) ≡ length first
  unfolding point_after
  length-after zero = refl
  length-after (suc i) =
      length-shifted (point_after from order first i) (at order i) (from (at order i)) ∙ length-after i

  pub earlier-ready : (i j : ℕ) → i ≤ j → ReadyPoint from order first j → ReadyPoint from order first i
  earlier-ready i j l r = record {
    low = omega (arith, r.low);
    few = r.few;
    indices = r.indices;
    positive = λ k m. r.positive k (omega arith);
    fits = λ k m. r.fits k (omega arith);
  }

-- an exchange of two steps leaves the points before them
pub after_swapped : (from : ℕ → ℕ) (order first : List ℕ) (e i : ℕ) → i ≤ e
    → point_after from (swap_at e order) first i ≡ point_after from order first i
unfolding point_after
after_swapped from order first e zero l = refl
after_swapped from order first e (suc i) l =
    rw (swap_at_else 0 e order i (λ q. omega arith) (λ q. omega arith), after_swapped from order first e i (omega arith))

-- the same steps from two points, and from 16 everywhere
module _ (source : ℕ → ℕ) (order : List ℕ) where
  abbrev after : List ℕ → ℕ → List ℕ
  after y i = point_after source order y i

  abbrev ReadyAfter : List ℕ → ℕ → Type 0
  ReadyAfter y i = ReadyPoint source order y i

  -- the index that step j takes from
  abbrev from : ℕ → ℕ
  from j = source (at order j)

  -- both points change alike
  after-alike : (y z : List ℕ) (i : ℕ) → ReadyAfter y i → ReadyAfter z i → (k : ℕ) → k < length y → k < length z
      → at (after y i) k + at z k ≡ at y k + at (after z i) k
  unfolding point_after
  after-alike y z zero r q k l m = omega arith
  after-alike y z (suc i) r q k l m = omega (
    arith,
    shifted_at (after y i) (at order i) (from i) (r.positive i (omega arith)) k
        (omega (arith, length-after source order y i)),
    shifted_at (after z i) (at order i) (from i) (q.positive i (omega arith)) k
        (omega (arith, length-after source order z i)),
    after-alike y z i (earlier-ready source order y i (suc i) (omega arith) r)
        (earlier-ready source order z i (suc i) (omega arith) q) k l m,
  )

  module _ (first : List ℕ) (long : length first ≡ 16) where
    -- the steps counted from 16 on
    abbrev counts : ℕ → List ℕ
    counts i = after (replicate 16 16) i

    -- where a point has 1 to take, it has a number
    from-below : (i j : ℕ) → j < i → ReadyAfter first i → from j < 16
    from-below i j l r = ⊎_elim
        (λ (m : from j < 16). m)
        (λ m. absurd (omega (
          arith,
          r.positive j l,
          get_or-eq_default (after first j) 0 {n = from j} (omega (arith, length-after source order first j)),
        )))
        (before_or_not (from j) 16)

    -- each step changes a count by at most 1
    counts_near : (i : ℕ) → ReadyAfter first i → (k : ℕ) → k < 16
        → (16 ≤ at (counts i) k + i) × (at (counts i) k ≤ 16 + i)
    unfolding point_after
    counts_near zero r k l = let e = get_or-replicate {A = ℕ} 16 k 16 0 l in (omega arith, omega arith)
    counts_near (suc i) r k l =
        let near = counts_near i (earlier-ready source order first i (suc i) (omega arith) r) in
        let some : 0 < at (counts i) (from i) =
        omega (arith, near (from i) (from-below (suc i) i (omega arith) r), r.low, r.few) in
        let changed = shifted_at (counts i) (at order i) (from i) some k
        (omega (arith, length-after source order (replicate 16 16) i)) in
        let n = near k l in
        (omega (arith, at_most_one (from i) k), omega (arith, at_most_one (at order i) k))

    -- there are at most 15 steps, so that no count leaves the numbers from 1 to 31
    pub counts_ready : (i : ℕ) → ReadyAfter first i → ReadyAfter (replicate 16 16) i
    counts_ready i r =
        record {
          low = r.low;
          few = r.few;
          indices = r.indices;
          positive = λ j l. omega (arith, near j l (from j) (from-below i j l r), r.low, r.few);
          fits = λ j l. omega (arith, near j l (at order j) (r.indices j (omega (arith, r.low))), r.low, r.few);
        }
      where
        near : (j : ℕ) → j < i → (k : ℕ) → k < 16 → (16 ≤ at (counts j) k + j) × (at (counts j) k ≤ 16 + j)
        near j l = counts_near j (earlier-ready source order first j i (omega arith) r)

    -- the first point and the counts make the point after the steps
    pub counts_add : (i : ℕ) → ReadyAfter first i → (k : ℕ) → k < 16
        → at (after first i) k + 16 ≡ at first k + at (counts i) k
    counts_add i r k l = omega (
      arith,
      after-alike first (replicate 16 16) i r (counts_ready i r) k (omega arith) l,
      get_or-replicate {A = ℕ} 16 k 16 0 l,
    )

-- the numbers of k points, from number b on
module _ (f : ℕ → List ℕ) where
  abbrev pub in_row : ℕ → ℕ → List ℕ
  in_row b k = concat_map (λ y. y) (map f (up_from b k))

  one_more_row : (b k : ℕ) → in_row b k ++ f (b + k) ≡ in_row b (suc k)
  one_more_row b zero = let z : b + 0 ≡ b = omega arith in rw z (sym (append-nil (f b)))
  one_more_row b (suc k) =
      let z : b + suc k ≡ suc b + k = omega arith in
      rw z
      (append_assoc (f b) (in_row (suc b) k) (f (suc b + k)) ∙ ap (λ (l : List ℕ). f b ++ l) (one_more_row (suc b) k))

  length_in_row : (m b k : ℕ) → ((i : ℕ) → length (f i) ≡ m) → length (in_row b k) ≡ k * m
  length_in_row m b zero h = omega arith
  length_in_row m b (suc k) h = rw (length-append, h b, length_in_row m (suc b) k h) (omega arith)

-- points that agree have the same numbers
pub same_rows : (f g : ℕ → List ℕ) (b k : ℕ) → ((j : ℕ) → j < b + k → f j ≡ g j) → in_row f b k ≡ in_row g b k
same_rows f g b zero h = refl
same_rows f g b (suc k) h = rw (h b (omega arith), same_rows f g (suc b) k (λ j l. h j (omega arith)))

-- the first m numbers of a longer list, as a list of their own
paste_taken : (old row : List ℕ) (i m : ℕ) → m ≤ length row
    → paste old i row m ≡ paste old i (take m row) (length (take m row))
paste_taken old row i m l = rw (take-length, length-take-le m row l)

pub next-position : (i b m position : ℕ) → b ≤ i → position ≡ (i - b) * m → position + m ≡ (i + 1 - b) * m
next-position i b m position l e = let k : i + 1 - b ≡ suc (i - b) = omega arith in rw (k, e) (omega arith)

-- the points from number b on at the front of a buffer, and one more stored behind them
module _ (f : ℕ → List ℕ) (m b : ℕ) (long : (i : ℕ) → length (f i) ≡ m) where
  pub row_put : (i position : ℕ) (new old y : List ℕ) → b ≤ i → new ≡ front (in_row f b (i - b)) old
      → position ≡ (i - b) * m → (i - b) * m + m ≤ length old → m ≤ length y → take m y ≡ f i
      → paste new position y m ≡ front (in_row f b (i + 1 - b)) old
  row_put i position new old y l n e fits short row =
      let k : i + 1 - b ≡ suc (i - b) = omega arith in
      let here : b + (i - b) ≡ i = omega arith in
      let behind : position ≡ length (in_row f b (i - b)) = e ∙ sym (length_in_row f m b (i - b) long) in
      let enough : position + length (f i) ≤ length old = rw (long i, e) fits in
      let more = rw here at (one_more_row f b (i - b)) in
      paste_taken new y position m short
      ∙ rw (row, n, k)
      (front_paste (in_row f b (i - b)) old (f i) position behind enough ∙ ap (λ (l : List ℕ). front l old) more)
