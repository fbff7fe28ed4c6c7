-- Request 10, on a trail: the map byte of a record tells whether a point came in, and the labels read of the places
-- that are rebuilt are counted record by record. Assumes nothing.
use mathlib.Core.Bool.{Bool, true, false, not, cond, ◌&&◌}
use mathlib.Core.List.{List, [], ◌∷◌, map}
use mathlib.Core.Logic.{⊎_elim}
use mathlib.Core.Option.{some}
use mathlib.Core.Path.{◌≡◌, refl, sym, ap, ◌∙◌}
use Prim.Native.Nat.{ℕ, zero, suc, pred, ◌+◌, ◌%◌, ◌≤◌, ◌<◌}
use borrow.Author.Tests.{eqb-true}
use lib.Dec.{eqb}
use lib.ListN.{length, drop, get_or, length-map}
use native.Mathlib.Omega.{arith}
use Rattle.combinatorics.proofs.Basics.{absurd_bool, and_left, and_right, true_or_false}
use Rattle.combinatorics.proofs.Lists.{in_here, filter_in}
use Rattle.combinatorics.proofs.Ranges.{length-up_from}
use Rattle.combinatorics.specs.Lists.{all, concat_map, filter, is_in, up_from}
use Rattle.grid_points.specs.Grid.{Point, position, same_point}
use Rattle.place.specs.LabelsRead.{came_in, labels_read, point_came_in}
use Rattle.place.specs.Places.{Simplex}
use Rattle.place.specs.Problem.{Problem}
use Rattle.path_laws.proofs.LabelsRead.{came_next, came_none}
use Rattle.path_laws.proofs.Simplices.{on_simplices}
use Rattle.trail.specs.Change.{change, outside}
use Rattle.trail.specs.Record.{bytes16, fields, bit_map, record_of, start_record}
use Rattle.trail.specs.Trail.{is_move, begins, unlabelled_places, read_on, go_on, rebuilt_from, rebuilt, place_in}
use Rattle.trail.specs.Trail.{places_from, rebuilt_places}

-- what a record at the front of the bytes leads to has that record
leads_begins : (p : Problem) (a b : Simplex) (bytes : List ℕ) → rebuilt_from p 1 a bytes ≡ some b
    → begins (record_of p a b) bytes ≡ true
unfolding read_on
leads_begins p a b bytes e =
    go (read_on p a bytes) (λ c m. and_right (is_move p a c) _ (filter_in on_simplices fits c (unlabelled_places p) m).1) e
  where
    fits : Simplex → Bool
    fits c = is_move p a c && begins (record_of p a c) bytes

    go : (l : List Simplex) → ((c : Simplex) → is_in on_simplices.eq c l ≡ true → begins (record_of p a c) bytes ≡ true)
        → go_on (λ c. some c) l ≡ some b
        → begins (record_of p a b) bytes ≡ true
    go [] h q = absurd_bool (cc)
    go (c ∷ l) h q = let z : c ≡ b = cc in rw (← z) (h c (in_here on_simplices c l))

abbrev some? : {A : Type 0} → List A → Bool
some? [] = false
some? (x ∷ xs) = true

-- bit 0 stands if the first field has bytes, and it has if a point is outside the place before
low_bit : (f : List ℕ) (fs : List (List ℕ)) → bit_map (f ∷ fs) % 2 ≡ cond (some? f) 1 0
low_bit [] fs = omega arith
low_bit (x ∷ f) fs = omega arith

words-some : (g : Point → ℕ) (xs : List Point) → some? (concat_map bytes16 (map g xs)) ≡ some? xs
words-some g [] = refl
words-some g (x ∷ xs) = refl

some-outside : (q : Point → Bool) (xs : List Point) → some? (filter (λ x. not (q x)) xs) ≡ not (all q xs)
some-outside q [] = refl
some-outside q (x ∷ xs) =
    ⊎_elim (λ (t : q x ≡ true). rw t (some-outside q xs)) (λ (f : q x ≡ false). rw f refl) (true_or_false (q x))

first_byte : (x : ℕ) (r bytes : List ℕ) → begins (x ∷ r) bytes ≡ true → get_or bytes 0 0 ≡ x
first_byte x r [] e = absurd_bool (sym e)
first_byte x r (y ∷ bytes) e = sym (eqb-true x y (and_left (eqb x y) (begins r bytes) e))

-- a point has come in exactly where bit 0 of the record stands
came_byte : (p : Problem) (a b : Simplex) (bytes : List ℕ) → begins (record_of p a b) bytes ≡ true
    → cond (point_came_in a b) 1 0 ≡ get_or bytes 0 0 % 2
unfolding record_of change
came_byte p a b bytes e =
    let fs = fields (change p a b) in
    let byte = first_byte (bit_map fs) (concat_map (λ f. f) fs) bytes e in
    let q : Point → Bool = λ y. is_in same_point y a in
    let bit = words-some (position p.grid) (outside same_point a b) ∙ some-outside q b in
    rw (byte, low_bit (concat_map bytes16 (map (position p.grid) (outside same_point a b))), bit) refl

-- the labels read of places that are alike as far as they are looked at
came_same : (s t : List Simplex) (k : ℕ) → ((i : ℕ) → i ≤ k → get_or s i [] ≡ get_or t i []) → came_in s k ≡ came_in t k
came_same s t zero h = came_none s ∙ sym (came_none t)
came_same s t (suc k) h = came_next s k
    ∙ rw (came_same s t k (λ i l. h i (omega arith)), h k (omega arith), h (suc k) (omega arith)) (sym (came_next t k))

nth_from_up : (f : ℕ → Simplex) (b n i : ℕ) → i < n → get_or (map f (up_from b n)) i [] ≡ f (b + i)
nth_from_up f b zero i l = absurd (omega arith)
nth_from_up f b (suc n) zero l = ap f (omega arith)
nth_from_up f b (suc n) (suc i) l =
    let z : suc b + i ≡ b + suc i = omega arith in
    nth_from_up f (suc b) n i (omega arith) ∙ ap f z

nth_map_up : (f : ℕ → Simplex) (n i : ℕ) → i < n → get_or (map f (up_from 0 n)) i [] ≡ f i
nth_map_up f n i l = let z : 0 + i ≡ i = omega arith in nth_from_up f 0 n i l ∙ ap f z

long-rebuilt : (p : Problem) (bytes : List ℕ) (n : ℕ) → length (rebuilt_places p bytes n) ≡ n
unfolding rebuilt_places
long-rebuilt p bytes n = length-map (up_from 0 n) (λ i. place_in (rebuilt p bytes (suc i))) ∙ length-up_from 0 n

-- the i-th place that is rebuilt
nth_from : (p : Problem) (n : ℕ) (a : Simplex) (bytes : List ℕ) (i : ℕ) → i ≤ n
    → get_or (places_from p n a bytes) i [] ≡ place_in (rebuilt_from p i a bytes)
unfolding places_from
nth_from p n a bytes i l = nth_map_up (λ i. place_in (rebuilt_from p i a bytes)) (suc n) i (omega arith)

nth_rebuilt : (p : Problem) (bytes : List ℕ) (n i : ℕ) → i < n
    → get_or (rebuilt_places p bytes n) i [] ≡ place_in (rebuilt p bytes (suc i))
unfolding rebuilt_places
nth_rebuilt p bytes n i l = nth_map_up (λ i. place_in (rebuilt p bytes (suc i))) n i l

-- one record more, which leads from b to c
pub came_on : (p : Problem) (n : ℕ) (a : Simplex) (bytes : List ℕ) (k : ℕ) (b c : Simplex) (rest : List ℕ) → suc k ≤ n
    → rebuilt_from p k a bytes ≡ some b → rebuilt_from p (suc k) a bytes ≡ some c → rebuilt_from p 1 b rest ≡ some c
    → came_in (places_from p n a bytes) (suc k) ≡ came_in (places_from p n a bytes) k + get_or rest 0 0 % 2
came_on p n a bytes k b c rest l here there step =
    let s = places_from p n a bytes in
    came_next s k
    ∙ rw (
      nth_from p n a bytes k (omega arith),
      here,
      nth_from p n a bytes (suc k) l,
      there,
      came_byte p b c rest (leads_begins p b c rest step),
    ) refl

-- the labels read up to a record behind the first
pub read-from : (p : Problem) (bytes : List ℕ) (n : ℕ) → begins (start_record p) bytes ≡ true
    → labels_read (rebuilt_places p bytes (suc n))
    ≡ suc (came_in (places_from p n (p.start ∷ []) (drop (length (start_record p)) bytes)) n)
unfolding labels_read rebuilt
read-from p bytes n e =
    let s = rebuilt_places p bytes (suc n) in
    let t = places_from p n (p.start ∷ []) (drop (length (start_record p)) bytes) in
    let long : pred (length s) ≡ n = ap pred (long-rebuilt p bytes (suc n)) in
    rw long (ap suc (came_same s t n
    (λ i l. nth_rebuilt p bytes (suc n) i (omega arith)
    ∙ ap place_in (from_start i)
    ∙ sym (nth_from p n (p.start ∷ []) (drop (length (start_record p)) bytes) i l))))
  where
    from_start : (i : ℕ)
        → rebuilt p bytes (suc i) ≡ rebuilt_from p i (p.start ∷ []) (drop (length (start_record p)) bytes)
    from_start i = rw e refl

-- over the records of places that are read back, those of the places
pub read_back : (p : Problem) (bytes : List ℕ) (s : List Simplex) (i : ℕ)
    → ((k : ℕ) → k ≤ i → rebuilt p bytes (suc k) ≡ some (get_or s k []))
    → labels_read (rebuilt_places p bytes (suc i)) ≡ suc (came_in s i)
unfolding labels_read
read_back p bytes s i h = rw (long-rebuilt p bytes (suc i))
    (ap suc (came_same (rebuilt_places p bytes (suc i)) s i
    (λ k l. nth_rebuilt p bytes (suc i) k (omega arith) ∙ ap place_in (h k l))))
