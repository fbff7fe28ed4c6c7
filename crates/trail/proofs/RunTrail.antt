-- Over a run's trail the places that a reader rebuilds are the path. In order: the records behind a place; the whole
-- trail; every list of places that follows the path. Assumes nothing.
use mathlib.Core.Bool.{true}
use mathlib.Core.List.{List, [], ◌∷◌, ◌++◌, append_assoc, append-nil}
use mathlib.Core.Option.{none, some}
use mathlib.Core.Path.{◌≡◌, refl, sym, ap, ◌∙◌}
use Prim.Native.Nat.{ℕ, zero, suc, pred, ◌*◌, ◌^◌, ◌≤◌, ◌<◌}
use lib.ListN.{length, length-append}
use lib.Seq.{drop-append_seam, take-append_seam}
use native.Mathlib.Nat.{mul-le-mul}
use native.Mathlib.Omega.{arith}
use Rattle.combinatorics.proofs.Basics.{absurd_bool}
use Rattle.combinatorics.proofs.Terms.{terms_few}
use Rattle.grid_points.specs.Grid.{num_blocks, num_indices, dimension, bound}
use Rattle.place.specs.Path.{path}
use Rattle.place.specs.Places.{Simplex, is_unlabelled_place}
use Rattle.place.specs.Problem.{Problem, with_labels}
use Rattle.path_laws.proofs.Accepted.{accepted-table}
use Rattle.path_laws.proofs.LinkSymmetry.{unlabelled_of, unlabelled-parts}
use Rattle.path_laws.proofs.Theorem.{demand3_holds, run-follows}
use Rattle.path_laws.specs.Demand.{HasStart, HasTable, Accepted, Follows, place_at, last_place}
use Rattle.trail.proofs.LinkRules.{rule_of-link}
use Rattle.trail.proofs.Reading.{begins_self, move_of, reads_on, reads_none, without_labels}
use Rattle.trail.proofs.LabelsRead.{read_back}
use Rattle.trail.proofs.Rules.{rules-are, record_short}
use Rattle.trail.specs.Change.{change, ByRule}
use Rattle.trail.specs.Demand.{Trails}
use Rattle.trail.specs.Record.{record_of, start_record, records_from, trail_of}
use Rattle.trail.specs.Trail.{begins, rebuilt_from, rebuilt}

-- places, each reached from the one before by a rule
pub record ByRules (p : Problem) (s : List Simplex) : Type 0 where
  pub places : (i : ℕ) → i < length s → is_unlabelled_place p (place_at s i) ≡ true
  pub by_rule : (i : ℕ) → suc i < length s → (r : ℕ) × ByRule (change p (place_at s i) (place_at s (suc i))) r

later : {p : Problem} {a b : Simplex} {s : List Simplex} → ByRules p (a ∷ b ∷ s) → ByRules p (b ∷ s)
later R = record { places = λ i l. R.places (suc i) (omega arith); by_rule = λ i l. R.by_rule (suc i) (omega arith) }

module _ (p : Problem) (even : length p.grid.divisions ≡ num_blocks p.grid) where
  one-read : {a b : Simplex} {s : List Simplex} → ByRules p (a ∷ b ∷ s) → (x : List ℕ) (n : ℕ)
      → rebuilt_from p (suc n) a (record_of p a b ++ x) ≡ rebuilt_from p n b x
  one-read {a} {b} R x n =
      reads_on p even a (unlabelled-parts p a (R.places 0 (omega arith))).grid_points (record_of p a b ++ x) b
      (move_of p a b (R.places 1 (omega arith)) (R.by_rule 0 (omega arith)).1) (begins_self (record_of p a b) x) n
      ∙ ap (rebuilt_from p n b) (drop-append_seam (record_of p a b) x)

  records_read : (a : Simplex) (s : List Simplex) → ByRules p (a ∷ s) → (rest : List ℕ) (i : ℕ) → i ≤ length s
      → rebuilt_from p i a (records_from p a s ++ rest) ≡ some (place_at (a ∷ s) i)
  records_read a s R rest zero l = refl
  records_read a [] R rest (suc i) l = absurd (omega arith)
  records_read a (b ∷ s) R rest (suc i) l =
      ap (rebuilt_from p (suc i) a) (append_assoc (record_of p a b) (records_from p b s) rest)
      ∙ one-read R (records_from p b s ++ rest) i
      ∙ records_read b s (later R) rest i (omega arith)

  no_record : (a b : Simplex) → begins (record_of p a b) [] ≡ true → ⊥
  unfolding record_of
  no_record a b e = absurd_bool (sym e)

  no_more_lem : (a : Simplex) (s : List Simplex) → ByRules p (a ∷ s) → (n : ℕ) → length s < n
      → rebuilt_from p n a (records_from p a s) ≡ none
  no_more_lem a s R zero l = absurd (omega arith)
  no_more_lem a [] R (suc n) l =
      reads_none p even a (unlabelled-parts p a (R.places 0 (omega arith))).grid_points [] (λ b m e. no_record a b e) n
  no_more_lem a (b ∷ s) R (suc n) l = one-read R (records_from p b s) n ∙ no_more_lem b s (later R) n (omega arith)

  records_short : (a : Simplex) (s : List Simplex) → ByRules p (a ∷ s) → length (records_from p a s) ≤ 7 * length s
  unfolding record_of
  records_short a [] R = omega arith
  records_short a (b ∷ s) R = omega (
    arith,
    length-append (record_of p a b) (records_from p b s),
    (record_short (R.by_rule 0 (omega arith)).1).1,
    records_short b s (later R),
  )

  -- behind v's record
  start-read : (x : List ℕ) (n : ℕ) → rebuilt p (start_record p ++ x) (suc n) ≡ rebuilt_from p n (p.start ∷ []) x
  unfolding rebuilt
  start-read x n = rw (begins_self (start_record p) x, drop-append_seam (start_record p) x)

  start-long : length (start_record p) ≡ 3
  unfolding start_record
  start-long = refl

  pub trails : (s : List Simplex) → 0 < length s → place_at s 0 ≡ p.start ∷ [] → ByRules p s → Trails p s
  unfolding trail_of rebuilt
  trails [] l e R = absurd (omega arith)
  trails (a ∷ s) l e R = record {
    by_rule = R.by_rule;
    alone = λ i r c m. rules-are m;
    first = (start-long, (rw (← start-long) (take-append_seam (start_record p) (records_from p a s))));
    long = omega (arith, length-append (start_record p) (records_from p a s), start-long);
    short = omega (arith, length-append (start_record p) (records_from p a s), start-long, records_short a s R);
    reads = back;
    labels_so_far = λ labels rest i c.
        read_back (with_labels p labels) _ (a ∷ s) i (λ k l. back labels rest k (omega arith));
    no_more = more;
    not_zero = λ labels bytes. refl;
  }
    where
      back : (labels rest : List ℕ) (i : ℕ) → i < suc (length s)
          → rebuilt (with_labels p labels) ((start_record p ++ records_from p a s) ++ rest) (suc i)
          ≡ some (place_at (a ∷ s) i)
      back labels rest i c =
          without_labels p labels _ (suc i)
          ∙ ap (λ (x : List ℕ). rebuilt p x (suc i)) (append_assoc (start_record p) (records_from p a s) rest)
          ∙ start-read (records_from p a s ++ rest) i
          ∙ ap (λ (b : Simplex). rebuilt_from p i b (records_from p a s ++ rest)) (sym e)
          ∙ records_read a s R rest i (omega arith)

      more : (labels : List ℕ) (i : ℕ) → suc (length s) < i
          → rebuilt (with_labels p labels) (start_record p ++ records_from p a s) i ≡ none
      more labels zero c = refl
      more labels (suc i) c = without_labels p labels _ (suc i) ∙ start-read (records_from p a s) i
          ∙ ap (λ (b : Simplex). rebuilt_from p i b (records_from p a s)) (sym e) ∙ no_more_lem a s R i (omega arith)

-- one place more is one record more
pub one_more : (p : Problem) (s : List Simplex) (b : Simplex) → 0 < length s
    → trail_of p (s ++ (b ∷ [])) ≡ trail_of p s ++ record_of p (last_place s) b
unfolding trail_of
one_more p [] b l = absurd (omega arith)
one_more p (a ∷ s) b l =
    ap (λ (x : List ℕ). start_record p ++ x) (go a s) ∙ sym (append_assoc (start_record p) (records_from p a s) _)
  where
    go : (a : Simplex) (s : List Simplex)
        → records_from p a (s ++ (b ∷ [])) ≡ records_from p a s ++ record_of p (last_place (a ∷ s)) b
    go a [] = append-nil (record_of p a b)
    go a (c ∷ s) =
        ap (λ (x : List ℕ). record_of p a c ++ x) (go c s) ∙ sym (append_assoc (record_of p a c) (records_from p c s) _)

-- every list of places that follows the path: it may end, or stop at a gap or where a budget is spent
pub run_trail : {p : Problem} → HasStart p → (s : List Simplex) → Follows p s → Trails p s
run_trail {p} ok s F = trails p ok.same_number s F.nonempty F.begins (record {
  places = λ i l. unlabelled_of p (place_at s i) (F.places i l);
  by_rule = λ i l. rule_of-link ok (place_at s i) (place_at s (suc i)) (F.places i (omega arith)) (F.places (suc i) l)
      (F.known i l) (F.links i l);
})

-- so the path itself
pub path_trail : {p : Problem} → HasTable p → Trails p (path p).visited
path_trail {p} ok = run_trail ok.has_start (path p).visited (demand3_holds ok).follows

-- the length of a run's trail fits 64 bits
pub trail_fits : {p : Problem} → Accepted p → (s : List Simplex) → Follows p s → length (trail_of p s) < 2 ^ 64
unfolding bound
trail_fits {p} ok s F =
    let g = p.grid in
    let k = ok.has_start in
    let last = (run-follows (accepted-table ok) s F (pred (length s)) (omega (arith, F.nonempty))).0 in
    let most : bound g ≤ 60000 * 35951249665217 = mul-le-mul ok.points
    (terms_few (num_indices g) (dimension g) k.sixteen_indices (omega (arith, k.sixteen_indices, k.some_block))) in
    omega (arith, (run_trail k s F).short, F.nonempty, last, (demand3_holds (accepted-table ok)).bounded)
