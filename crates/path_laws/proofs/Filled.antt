-- The table with each gap filled, and the path beside its path. A table without gaps is what the moves are about; what
-- a run that reads the table with gaps needs is said here: its places are those of the filled table, as far as they go.
-- Assumes nothing.
use mathlib.Core.Bool.{true, false, ◌&&◌}
use mathlib.Core.List.{List, [], ◌∷◌, map}
use mathlib.Core.Logic.{⊎_elim}
use mathlib.Core.Option.{Option, none, some}
use mathlib.Core.Path.{◌≡◌, refl, sym, ap, ◌∙◌}
use Prim.Native.Nat.{ℕ, zero, suc, pred, ◌≤◌, ◌<◌}
use borrow.Author.Tests.{leb-true, le-leb}
use lib.Dec.{leb}
use lib.ListN.{length, get_or, length-map}
use native.Mathlib.Omega.{arith}
use Rattle.combinatorics.proofs.Basics.{absurd_bool, and_both, and_left, and_right, before_or_not}
use Rattle.combinatorics.proofs.Lists.{all_in, in_all, at_all}
use Rattle.combinatorics.specs.Lists.{all, is_in, sum}
use Rattle.grid_points.proofs.Points.{on_points, in_points, position_in_lem}
use Rattle.grid_points.specs.Grid.{Point, is_grid_point, num_indices, num_points, points, position, same_point}
use Rattle.place.specs.Ends.{End}
use Rattle.place.specs.Path.{answer, path, path_length, spent, unknown}
use Rattle.place.specs.Places.{Simplex, all_labelled, is_place}
use Rattle.place.specs.Problem.{Problem, has_label, label, with_labels}
use Rattle.path_laws.proofs.Filling.{ended_not_asks, filling_holds, follows-filled}
use Rattle.path_laws.proofs.FromTwoWays.{gap_not_all}
use Rattle.path_laws.proofs.LinkSymmetry.{parts}
use Rattle.path_laws.proofs.Run.{asks-path}
use Rattle.path_laws.proofs.Theorem.{demand3_holds, run-follows, two_ways}
use Rattle.path_laws.specs.Demand.{Accepted, Fills, HasStart, HasTable, Stop, at_gap, last_place, place_at}

-- a table without gaps
pub record FullyLabelled (p : Problem) : Type 0 where
  pub has_start : HasStart p
  pub table_length : length p.labels ≡ num_points p.grid
  pub labels : all (λ l. leb 1 l && leb l (num_indices p.grid)) p.labels ≡ true

all_right : (m : ℕ) (ls : List ℕ) → all (λ l. leb 1 l && leb l m) ls ≡ true → all (λ l. leb l m) ls ≡ true
all_right m [] a = refl
all_right m (l ∷ ls) a =
    and_both _ _ (and_right (leb 1 l) (leb l m) (and_left (leb 1 l && leb l m) (all (λ l. leb 1 l && leb l m) ls) a))
    (all_right m ls (and_right (leb 1 l && leb l m) (all (λ l. leb 1 l && leb l m) ls) a))

pub full_table : {p : Problem} → FullyLabelled p → HasTable p
full_table {p} ok = record {
  has_start = ok.has_start;
  table_length = ok.table_length;
  labels = all_right _ p.labels ok.labels;
}

pub full_accepted : {p : Problem} → FullyLabelled p → num_points p.grid ≤ 60000 → Accepted p
full_accepted ok few =
    let t = full_table ok in
    record { has_start = t.has_start; points = few; table_length = t.table_length; labels = t.labels }

module _ {p : Problem} (ok : FullyLabelled p) where
  pub full_label : (y : Point) → is_grid_point p.grid y ≡ true → has_label p y ≡ true
  unfolding label
  full_label y h =
      at_all (λ l. leb 1 l && leb l (num_indices p.grid)) p.labels _ ok.labels
      (omega (arith, ok.table_length, position_in_lem (points p.grid) y (in_points p.grid y ok.has_start.same_number h)))

  pub full_place : (s : Simplex) → is_place p s ≡ true → all_labelled p s ≡ true
  full_place s h = in_all on_points _ s (λ y m. full_label y (all_in on_points _ s (parts p s h).grid_points y m))

some-sum : (ss : List ℕ) → 1 ≤ length ss → all (λ s. leb 2 s) ss ≡ true → 1 ≤ sum ss
some-sum [] l a = absurd (omega arith)
some-sum (s ∷ ss) l a = omega (arith, leb-true 2 s (and_left (leb 2 s) (all (λ s. leb 2 s) ss) a))

-- index 1 in place of each gap
abbrev pub fill : ℕ → ℕ
fill zero = 1
fill (suc l) = suc l

abbrev pub filled_table : Problem → Problem
filled_table p = with_labels p (map fill p.labels)

fill_in : (m : ℕ) (ls : List ℕ) → 1 ≤ m → all (λ l. leb l m) ls ≡ true
    → all (λ l. leb 1 l && leb l m) (map fill ls) ≡ true
fill_in m [] h a = refl
fill_in m (zero ∷ ls) h a = and_both _ _ (le-leb 1 m h) (fill_in m ls h (and_right (leb 0 m) (all (λ l. leb l m) ls) a))
fill_in m (suc l ∷ ls) h a =
    and_both _ _ (and_both _ _ (le-leb 1 (suc l) (omega arith)) (and_left (leb (suc l) m) (all (λ l. leb l m) ls) a))
    (fill_in m ls h (and_right (leb (suc l) m) (all (λ l. leb l m) ls) a))

fill_same : (l : ℕ) → 0 < l → fill l ≡ l
fill_same zero h = absurd (omega arith)
fill_same (suc l) h = refl

fill_at : (ls : List ℕ) (i : ℕ) → 0 < get_or ls i 0 → get_or (map fill ls) i 0 ≡ get_or ls i 0
fill_at [] i h = refl
fill_at (l ∷ ls) zero h = fill_same l h
fill_at (l ∷ ls) (suc i) h = fill_at ls i h

module _ {p : Problem} (ok : HasTable p) where
  pub filled_full : FullyLabelled (filled_table p)
  filled_full = record {
    has_start = record {
      some_block = ok.has_start.some_block;
      six_blocks = ok.has_start.six_blocks;
      sizes = ok.has_start.sizes;
      sixteen_indices = ok.has_start.sixteen_indices;
      same_number = ok.has_start.same_number;
      divisions = ok.has_start.divisions;
      low = ok.has_start.low;
      start = ok.has_start.start;
    };
    table_length = length-map p.labels fill ∙ ok.table_length;
    labels = fill_in (num_indices p.grid) p.labels some-index ok.labels;
  }
    where
      some-index : 1 ≤ num_indices p.grid
      some-index = some-sum p.grid.sizes ok.has_start.some_block ok.has_start.sizes

  filled-table : HasTable (filled_table p)
  filled-table = full_table filled_full

  fills : Fills p (map fill p.labels)
  fills i h = fill_at p.labels i h

  -- a label that is known is the filled table's
  pub filled-label : (y : Point) → 0 < label p y → label (filled_table p) y ≡ label p y
  unfolding label
  filled-label y h = fill_at p.labels (position p.grid y) h

  -- the path's places are the filled table's, as far as they go
  pub beside : (k : ℕ) → k < path_length p → (k < path_length (filled_table p))
      × (place_at (path p).visited k ≡ place_at (path (filled_table p)).visited k)
  beside k l =
      let w = run-follows filled-table (path p).visited
      (follows-filled p (map fill p.labels) fills (path p).visited (demand3_holds ok).follows) k l in
      (w.0, w.1)

  no_longer : path_length p ≤ path_length (filled_table p)
  no_longer =
      let n = (demand3_holds ok).follows.nonempty in
      omega (arith, (beside (pred (path_length p)) (omega arith)).0)

  -- before the last place each point has a label
  pub known-before : (k : ℕ) → suc k < path_length p → all_labelled p (place_at (path (filled_table p)).visited k) ≡ true
  known-before k l = rw (← (beside k (omega arith)).1) ((demand3_holds ok).follows.known k l)

  -- where a point has none, its label is asked for
  pub gap-answer : (k : ℕ) → k < path_length p → (y : Point)
      → is_in same_point y (place_at (path (filled_table p)).visited k) ≡ true → has_label p y ≡ false → (b : ℕ) → k < b
      → answer p b ≡ unknown k (position p.grid y)
  gap-answer k l y m f b c =
      let here : is_in same_point y (place_at (path p).visited k) ≡ true = rw (beside k l).1 m in
      let last : path_length p ≡ suc k = ⊎_elim
      (λ d. absurd_bool
      (sym (all_in on_points (has_label p) (place_at (path p).visited k) ((demand3_holds ok).follows.known k d) y here)
      ∙ f))
      (λ d. omega arith)
      (before_or_not (suc k) (path_length p)) in
      (asks-path ok (demand3_holds ok).follows k last y here f).1 b c

  module _ (k : ℕ) (l : k < path_length p) (own : all_labelled p (place_at (path (filled_table p)).visited k) ≡ true) where
    -- where each point has one and the path's last place is this, the path has an end
    ends-here : path_length p ≡ suc k → (e : End) × ((path p).end ≡ some e)
    ends-here q = go (path p).end refl (demand3_holds ok).stops
      where
        last : last_place (path p).visited ≡ place_at (path p).visited k
        last = let z : pred (path_length p) ≡ k = omega arith in ap (place_at (path p).visited) z

        go : (x : Option End) → (path p).end ≡ x → Stop p (last_place (path p).visited) x
            → (e : End) × ((path p).end ≡ some e)
        go (some e) r s = (e, r)
        go none r (at_gap y g) =
            absurd (gap_not_all ok (two_ways ok.has_start) (last_place (path p).visited) g (rw (last, (beside k l).1) own))

    -- and so the filled table's
    same-answers : path_length p ≡ suc k → (b : ℕ) → answer (filled_table p) b ≡ answer p b
    same-answers q b =
        let e = ends-here q in
        (filling_holds ok filled-table fills).same b (λ n i u. absurd (ended_not_asks ok e.0 e.1 b n i u))

    -- where the filled table's path goes on, so does this
    pub further-on : suc k < path_length (filled_table p) → suc k < path_length p
    further-on d = ⊎_elim
        (λ c. c)
        (λ c.
        let q : path_length p ≡ suc k = omega arith in
        let s : answer p (suc k) ≡ spent (suc k) =
        sym (same-answers q (suc k)) ∙ ((demand3_holds filled-table).spends (suc k)).1 d in
        absurd (omega (arith, ((demand3_holds ok).spends (suc k)).0 s)))
        (before_or_not (suc k) (path_length p))

    -- where it ends, so does this
    pub ends-alike : path_length (filled_table p) ≡ suc k → (b : ℕ) → answer p b ≡ answer (filled_table p) b
    ends-alike d b = sym (same-answers (omega (arith, no_longer)) b)
