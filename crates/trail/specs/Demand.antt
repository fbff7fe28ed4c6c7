-- Request 03: what holds over a run's trail, of every list of places that follows the path, whether it ends or not;
-- which records a reader accepts, and the customer's reasons for 17. Assumes nothing.
use Rattle.std.specs.Prelude.{true, false, List, [], ◌∷◌, ◌++◌, ◌≡◌, ℕ, suc, pred, ◌+◌, ◌*◌, ◌%◌, ◌≤◌, ◌<◌, eqb, length, take}
use Rattle.std.proofs.Math.Option.{none, some}
use Rattle.combinatorics.specs.Lists.{is_in}
use Rattle.grid_points.specs.Grid.{Point, num_points, position, same_point}
use Rattle.place.specs.LabelsRead.{came_in, labels_read}
use Rattle.place.specs.Places.{Simplex, is_unlabelled_place}
use Rattle.place.specs.Problem.{Problem, with_labels}
use Rattle.path_laws.specs.Demand.{place_at}
use Rattle.trail.specs.Change.{change, rules, ByRule}
use Rattle.trail.specs.Record.{record_by, record_of, start_record, trail_of}
use Rattle.trail.specs.Trail.{begins, rebuilt_from, rebuilt, rebuilt_places}

pub record Trails (p : Problem) (s : List Simplex) : Type 0 where
  -- each link is one of the seven rules, and no other
  pub by_rule : (i : ℕ) → suc i < length s → (r : ℕ) × ByRule (change p (place_at s i) (place_at s (suc i))) r
  pub alone : (i r : ℕ) → suc i < length s → ByRule (change p (place_at s i) (place_at s (suc i))) r
      → rules (change p (place_at s i) (place_at s (suc i))) ≡ r ∷ []
  -- a whole trail is v's record, 3 bytes, and at most 7 bytes for each place behind it
  pub first : (length (start_record p) ≡ 3) × (take 3 (trail_of p s) ≡ start_record p)
  pub long : 3 ≤ length (trail_of p s)
  pub short : length (trail_of p s) ≤ 3 + 7 * pred (length s)
  -- "over a run's trail these places are the path": for any label table, since the reader is given none, and whatever
  -- stands behind the trail
  pub reads : (labels rest : List ℕ) (i : ℕ) → i < length s
      → rebuilt (with_labels p labels) (trail_of p s ++ rest) (suc i) ≡ some (place_at s i)
  -- Request 10: "a rebuilt trail of the same path" has the labels read of the path's places up to the record
  pub labels_so_far : (labels rest : List ℕ) (i : ℕ) → i < length s
      → labels_read (rebuilt_places (with_labels p labels) (trail_of p s ++ rest) (suc i)) ≡ suc (came_in s i)
  -- "17 .. when there is no such record"
  pub no_more : (labels : List ℕ) (i : ℕ) → length s < i → rebuilt (with_labels p labels) (trail_of p s) i ≡ none
  pub not_zero : (labels bytes : List ℕ) → rebuilt (with_labels p labels) bytes 0 ≡ none

-- The n + 1 records at the front of the bytes lead from a to c: the first is that of one rule, byte by byte, and the
-- others lead on from the place that it makes
pub record Accepts (p : Problem) (a : Simplex) (bytes : List ℕ) (n : ℕ) (c : Simplex) : Type 0 where
  pub next : Simplex
  pub place : is_unlabelled_place p next ≡ true
  pub rule : ℕ
  pub by_rule : ByRule (change p a next) rule
  pub behind : List ℕ
  pub stands : bytes ≡ record_by by_rule ++ behind
  pub goes_on : rebuilt_from p n next behind ≡ some c

-- the map bytes of the seven rules
abbrev pub map_bytes : List ℕ
map_bytes = 67 ∷ 83 ∷ 99 ∷ 69 ∷ 101 ∷ 90 ∷ 74 ∷ []

-- the customer's reasons: at the first record, and at the place a with a next record, of map byte m where it is said
pub record Refuses (p : Problem) (a : Simplex) : Type 0 where
  -- "the records up to it do not begin with v's"
  pub not_begun : (number : ℕ) (bytes : List ℕ) → begins (start_record p) bytes ≡ false → rebuilt p bytes number ≡ none
  -- "there is no such record"
  pub no_record : (n : ℕ) → rebuilt_from p (suc n) a [] ≡ none
  -- "change no point"
  pub no_point : (n m : ℕ) (rest : List ℕ) → m % 4 ≡ 0 → rebuilt_from p (suc n) a (m ∷ rest) ≡ none
  -- "bring in one already there"
  pub already_there : (n m low high : ℕ) (rest : List ℕ) (y : Point) → m % 2 ≡ 1 → is_in same_point y a ≡ true
      → position p.grid y ≡ low + 256 * high
      → rebuilt_from p (suc n) a (m ∷ low ∷ high ∷ rest) ≡ none
  -- "or off the table"
  pub off_the_table : (n m low high : ℕ) (rest : List ℕ) → m % 2 ≡ 1 → num_points p.grid ≤ low + 256 * high
      → rebuilt_from p (suc n) a (m ∷ low ∷ high ∷ rest) ≡ none
  -- "take out one not there": alone, or behind the one that comes in
  pub not_there : (n m low high : ℕ) (rest : List ℕ) → m % 4 ≡ 2
      → ((y : Point) → is_in same_point y a ≡ true → position p.grid y ≡ low + 256 * high → ⊥)
      → rebuilt_from p (suc n) a (m ∷ low ∷ high ∷ rest) ≡ none
  pub not_there_behind : (n m x y low high : ℕ) (rest : List ℕ) → m % 4 ≡ 3
      → ((y : Point) → is_in same_point y a ≡ true → position p.grid y ≡ low + 256 * high → ⊥)
      → rebuilt_from p (suc n) a (m ∷ x ∷ y ∷ low ∷ high ∷ rest) ≡ none
  -- "break the first two conditions of a place": every set of points whose record it is does
  pub broken_place : (n : ℕ) (bytes : List ℕ)
      → ((b : Simplex) → begins (record_of p a b) bytes ≡ true → is_unlabelled_place p b ≡ false)
      → rebuilt_from p (suc n) a bytes ≡ none
  -- "change T and U otherwise than one of the seven rules alone does": every place whose record it is does
  pub other_rule : (n : ℕ) (bytes : List ℕ)
      → ((b : Simplex) → is_unlabelled_place p b ≡ true → begins (record_of p a b) bytes ≡ true
      → (r : ℕ) → ByRule (change p a b) r → ⊥)
      → rebuilt_from p (suc n) a bytes ≡ none
  -- "fields other than the change just made and its rule", one cut short among them: it is no place's record
  pub other_fields : (n : ℕ) (bytes : List ℕ)
      → ((b : Simplex) → is_unlabelled_place p b ≡ true → begins (record_of p a b) bytes ≡ false)
      → rebuilt_from p (suc n) a bytes ≡ none
  -- either of the last two: a map of no rule
  pub otherwise : (n m : ℕ) (rest : List ℕ) → is_in eqb m map_bytes ≡ false → rebuilt_from p (suc n) a (m ∷ rest) ≡ none
  -- "have bit 7 set"
  pub bit_seven : (n m : ℕ) (rest : List ℕ) → 128 ≤ m → rebuilt_from p (suc n) a (m ∷ rest) ≡ none
