-- Which records a reader accepts: exactly those of a rule that leads to an unlabelled place. So each of the customer's
-- reasons refuses. Assumes nothing.
use mathlib.Core.Bool.{true, false}
use mathlib.Core.List.{List, [], ◌∷◌, ◌++◌, map}
use mathlib.Core.Logic.{⊎_elim, ◌↔◌}
use mathlib.Core.Option.{Option, none, some}
use mathlib.Core.Path.{◌≡◌, refl, sym, ap, ◌∙◌}
use Prim.Native.Nat.{ℕ, zero, suc, ◌+◌, ◌*◌, ◌%◌, ◌/◌, ◌<◌}
use lib.Dec.{eqb}
use lib.ListN.{length, drop}
use lib.Seq.{drop-append_seam}
use native.Mathlib.Nat.{div-add-mod}
use native.Mathlib.Omega.{arith}
use Rattle.combinatorics.proofs.Basics.{absurd_bool, true_or_false}
use Rattle.combinatorics.proofs.Lists.{all_in, in_here}
use Rattle.combinatorics.specs.Lists.{is_in}
use Rattle.grid_points.proofs.Points.{on_points, in_points, position_in_lem}
use Rattle.grid_points.specs.Grid.{Point, is_grid_point, position, same_point, points}
use Rattle.place.specs.Path.{same_simplex}
use Rattle.place.specs.Places.{Simplex, is_unlabelled_place}
use Rattle.place.specs.Problem.{Problem}
use Rattle.path_laws.proofs.Simplices.{on_simplices}
use Rattle.path_laws.proofs.Start.{start-place}
use Rattle.path_laws.proofs.LinkSymmetry.{unlabelled_of, unlabelled-parts}
use Rattle.path_laws.specs.Demand.{HasStart}
use Rattle.trail.proofs.Outside.{outside_in}
use Rattle.trail.proofs.Reading.{begins_self, found, move_of, reads_on}
use Rattle.trail.proofs.Rules.{recorded}
use Rattle.trail.proofs.SomeLinks.{move_rule}
use Rattle.trail.proofs.Tells.{begins_with, moves_of, positions_tell}
use Rattle.trail.specs.Change.{Change, change, outside, ByRule, rule1, rule2, rule3, rule4, rule5, rule6, rule7}
use Rattle.trail.specs.Demand.{Accepts, Refuses, map_bytes}
use Rattle.trail.specs.Record.{record_of, start_record, record_by}
use Rattle.trail.specs.Trail.{is_move, begins, read_on, go_on, rebuilt_from, rebuilt}

module _ {p : Problem} (ok : HasStart p) (a : Simplex) (ha : is_unlabelled_place p a ≡ true) where
  by_rule_lem : (b : Simplex) {r : ℕ} (m : ByRule (change p a b) r) → record_of p a b ≡ record_by m
  unfolding record_of
  by_rule_lem b m = recorded m

  pub accepts : (bytes : List ℕ) (n : ℕ) (c : Simplex)
      → (rebuilt_from p (suc n) a bytes ≡ some c) ↔ Accepts p a bytes n c
  accepts bytes n c = (
    to (read_on p a bytes) (λ b k. found p ok.same_number a (unlabelled-parts p a ha).grid_points bytes b k),
    of,
  )
    where
      rest : Simplex → Option Simplex
      rest b = rebuilt_from p n b (drop (length (record_of p a b)) bytes)

      to : (l : List Simplex)
          → ((b : Simplex) → is_in same_simplex b l ≡ true
          → (is_move p a b ≡ true) × (begins (record_of p a b) bytes ≡ true))
          → go_on rest l ≡ some c
          → Accepts p a bytes n c
      to [] all e = absurd_bool (cc)
      to (b ∷ l) all e =
          let w = all b (in_here on_simplices b l) in
          let m = move_rule ok a b ha w.0 in
          record {
            next = b;
            place = (moves_of p a b w.0).place;
            rule = m.0;
            by_rule = m.1;
            behind = drop (length (record_of p a b)) bytes;
            stands = begins_with (record_of p a b) bytes w.1
                ∙ ap (λ (r : List ℕ). r ++ drop (length (record_of p a b)) bytes) (by_rule_lem b m.1);
            goes_on = e;
          }

      of : Accepts p a bytes n c → rebuilt_from p (suc n) a bytes ≡ some c
      of A =
          let b = A.next in
          let e : bytes ≡ record_of p a b ++ A.behind =
          A.stands ∙ ap (λ (r : List ℕ). r ++ A.behind) (sym (by_rule_lem b A.by_rule)) in
          ap (rebuilt_from p (suc n) a) e
          ∙ reads_on p ok.same_number a (unlabelled-parts p a ha).grid_points (record_of p a b ++ A.behind) b
          (move_of p a b A.place A.by_rule) (begins_self (record_of p a b) A.behind) n
          ∙ ap (rebuilt_from p n b) (drop-append_seam (record_of p a b) A.behind)
          ∙ A.goes_on

none_of : (x : Option Simplex) → ((c : Simplex) → x ≡ some c → ⊥) → x ≡ none
none_of none h = refl
none_of (some c) h = absurd (h c refl)

word : (low high y : ℕ) → low ≡ y % 256 → high ≡ y / 256 → low + 256 * high ≡ y
word low high y e f =
    ap (λ (l : ℕ). l + 256 * high) e ∙ ap (λ (h : ℕ). y % 256 + 256 * h) f ∙ omega (arith, div-add-mod y 256)

one_mapped : (f : Point → ℕ) (l : List Point) (x : ℕ) → map f l ≡ x ∷ []
    → (y : Point) × (is_in same_point y l ≡ true) × (f y ≡ x)
one_mapped f [] x e = absurd (omega (arith, ap length e))
one_mapped f (y ∷ l) x e = (y, in_here on_points y l, cc)

-- the map bytes of the seven records
abbrev map_by : {c : Change} {r : ℕ} → ByRule c r → ℕ
map_by (rule1 y z e) = 67
map_by (rule2 y z h e) = 83
map_by (rule3 y z h e) = 99
map_by (rule4 y h e) = 69
map_by (rule5 y h e) = 101
map_by (rule6 z h e) = 90
map_by (rule7 z h e) = 74

module _ {c : Change} where
  map_is : {r : ℕ} (k : ByRule c r) (m : ℕ) (rest behind : List ℕ) → m ∷ rest ≡ record_by k ++ behind → m ≡ map_by k
  map_is (rule1 y z e) m rest behind q = cc
  map_is (rule2 y z h e) m rest behind q = cc
  map_is (rule3 y z h e) m rest behind q = cc
  map_is (rule4 y h e) m rest behind q = cc
  map_is (rule5 y h e) m rest behind q = cc
  map_is (rule6 z h e) m rest behind q = cc
  map_is (rule7 z h e) m rest behind q = cc

  one_of_seven : {r : ℕ} (k : ByRule c r) → is_in eqb (map_by k) map_bytes ≡ true
  one_of_seven (rule1 y z e) = refl
  one_of_seven (rule2 y z h e) = refl
  one_of_seven (rule3 y z h e) = refl
  one_of_seven (rule4 y h e) = refl
  one_of_seven (rule5 y h e) = refl
  one_of_seven (rule6 z h e) = refl
  one_of_seven (rule7 z h e) = refl

  some-point : {r : ℕ} (k : ByRule c r) → map_by k % 4 ≡ 0 → ⊥
  some-point (rule1 y z e) q = omega arith
  some-point (rule2 y z h e) q = omega arith
  some-point (rule3 y z h e) q = omega arith
  some-point (rule4 y h e) q = omega arith
  some-point (rule5 y h e) q = omega arith
  some-point (rule6 z h e) q = omega arith
  some-point (rule7 z h e) q = omega arith

  seven_bits : {r : ℕ} (k : ByRule c r) → map_by k < 128
  seven_bits (rule1 y z e) = omega arith
  seven_bits (rule2 y z h e) = omega arith
  seven_bits (rule3 y z h e) = omega arith
  seven_bits (rule4 y h e) = omega arith
  seven_bits (rule5 y h e) = omega arith
  seven_bits (rule6 z h e) = omega arith
  seven_bits (rule7 z h e) = omega arith

  -- the point that comes in, and the one that goes out
  comes_in_lem : {r : ℕ} (k : ByRule c r) (m low high : ℕ) (rest behind : List ℕ)
      → m ∷ low ∷ high ∷ rest ≡ record_by k ++ behind → map_by k % 2 ≡ 1
      → c.points_in ≡ (low + 256 * high) ∷ []
  comes_in_lem (rule1 y z e) m low high rest behind q o = rw (e, word low high y (cc) (cc))
  comes_in_lem (rule2 y z h e) m low high rest behind q o = rw (e, word low high y (cc) (cc))
  comes_in_lem (rule3 y z h e) m low high rest behind q o = rw (e, word low high y (cc) (cc))
  comes_in_lem (rule4 y h e) m low high rest behind q o = rw (e, word low high y (cc) (cc))
  comes_in_lem (rule5 y h e) m low high rest behind q o = rw (e, word low high y (cc) (cc))
  comes_in_lem (rule6 z h e) m low high rest behind q o = absurd (omega arith)
  comes_in_lem (rule7 z h e) m low high rest behind q o = absurd (omega arith)

  goes-out : {r : ℕ} (k : ByRule c r) (m low high : ℕ) (rest behind : List ℕ)
      → m ∷ low ∷ high ∷ rest ≡ record_by k ++ behind → map_by k % 4 ≡ 2
      → c.points_out ≡ (low + 256 * high) ∷ []
  goes-out (rule1 y z e) m low high rest behind q o = absurd (omega arith)
  goes-out (rule2 y z h e) m low high rest behind q o = absurd (omega arith)
  goes-out (rule3 y z h e) m low high rest behind q o = absurd (omega arith)
  goes-out (rule4 y h e) m low high rest behind q o = absurd (omega arith)
  goes-out (rule5 y h e) m low high rest behind q o = absurd (omega arith)
  goes-out (rule6 z h e) m low high rest behind q o = rw (e, word low high z (cc) (cc))
  goes-out (rule7 z h e) m low high rest behind q o = rw (e, word low high z (cc) (cc))

  goes-behind : {r : ℕ} (k : ByRule c r) (m x y low high : ℕ) (rest behind : List ℕ)
      → m ∷ x ∷ y ∷ low ∷ high ∷ rest ≡ record_by k ++ behind → map_by k % 4 ≡ 3
      → c.points_out ≡ (low + 256 * high) ∷ []
  goes-behind (rule1 v z e) m x y low high rest behind q o = rw (e, word low high z (cc) (cc))
  goes-behind (rule2 v z h e) m x y low high rest behind q o = rw (e, word low high z (cc) (cc))
  goes-behind (rule3 v z h e) m x y low high rest behind q o = rw (e, word low high z (cc) (cc))
  goes-behind (rule4 v h e) m x y low high rest behind q o = absurd (omega arith)
  goes-behind (rule5 v h e) m x y low high rest behind q o = absurd (omega arith)
  goes-behind (rule6 z h e) m x y low high rest behind q o = absurd (omega arith)
  goes-behind (rule7 z h e) m x y low high rest behind q o = absurd (omega arith)

module _ {p : Problem} (ok : HasStart p) (a : Simplex) (ha : is_unlabelled_place p a ≡ true) where
  -- a record that would be accepted leads to what cannot be
  refuse : (bytes : List ℕ) (n : ℕ) → ((c : Simplex) → Accepts p a bytes n c → ⊥) → rebuilt_from p (suc n) a bytes ≡ none
  refuse bytes n h = none_of (rebuilt_from p (suc n) a bytes) (λ c e. h c ((accepts ok a ha bytes n c).0 e))

  -- the record of the place that it leads to stands at the front
  stands-there : {bytes : List ℕ} {n : ℕ} {c : Simplex} (A : Accepts p a bytes n c)
      → begins (record_of p a A.next) bytes ≡ true
  stands-there A =
      let r = record_of p a A.next in
      ap (begins r) (A.stands ∙ ap (λ (x : List ℕ). x ++ A.behind) (sym (by_rule_lem ok a ha A.next A.by_rule)))
      ∙ begins_self r A.behind

  in_from : (b : Simplex) (x : ℕ) → is_unlabelled_place p b ≡ true → (change p a b).points_in ≡ x ∷ []
      → (y : Point) × (is_grid_point p.grid y ≡ true) × (is_in same_point y a ≡ false) × (position p.grid y ≡ x)
  unfolding change
  in_from b x hb e =
      let w = one_mapped (position p.grid) (outside same_point a b) x e in
      let v = outside_in on_points w.0 b a w.1 in
      (w.0, all_in on_points (is_grid_point p.grid) b (unlabelled-parts p b hb).grid_points w.0 v.0, v.1, w.2)

  out-from : (b : Simplex) (x : ℕ) → (change p a b).points_out ≡ x ∷ []
      → (y : Point) × (is_in same_point y a ≡ true) × (position p.grid y ≡ x)
  unfolding change
  out-from b x e =
      let w = one_mapped (position p.grid) (outside same_point b a) x e in
      (w.0, (outside_in on_points w.0 a b w.1).0, w.2)

  not_begun_lem : (number : ℕ) (bytes : List ℕ) → begins (start_record p) bytes ≡ false → rebuilt p bytes number ≡ none
  unfolding rebuilt
  not_begun_lem zero bytes f = refl
  not_begun_lem (suc n) bytes f = rw f

  pub refuses : Refuses p a
  refuses = record {
    not_begun = not_begun_lem;
    no_record = λ n. refuse [] n (λ c A. empty A.by_rule A.behind A.stands);
    no_point = λ n m rest o. refuse (m ∷ rest) n
        (λ c A. some-point A.by_rule (ap (λ (k : ℕ). k % 4) (sym (map_is A.by_rule m rest A.behind A.stands)) ∙ o));
    already_there = λ n m low high rest y o i e. refuse (m ∷ low ∷ high ∷ rest) n (λ c A.
        let w = come A o in
        let same : y ≡ w.0 = at_one (position-same y w.0
        (all_in on_points (is_grid_point p.grid) a (unlabelled-parts p a ha).grid_points y i) w.1 (e ∙ sym w.3)) in
        absurd_bool (sym i ∙ ap (λ (z : Point). is_in same_point z a) same ∙ w.2));
    off_the_table = λ n m low high rest o l. refuse (m ∷ low ∷ high ∷ rest) n (λ c A.
        let w = come A o in
        omega (arith, l, w.3, position_in_lem (points p.grid) w.0 (in_points p.grid w.0 ok.same_number w.1)));
    not_there = λ n m low high rest o h. refuse (m ∷ low ∷ high ∷ rest) n (λ c A.
        let w = out-from A.next (low + 256 * high) (goes-out A.by_rule m low high rest A.behind A.stands (four A o)) in
        h w.0 w.1 w.2);
    not_there_behind = λ n m x y low high rest o h. refuse (m ∷ x ∷ y ∷ low ∷ high ∷ rest) n (λ c A.
        let w =
        out-from A.next (low + 256 * high) (goes-behind A.by_rule m x y low high rest A.behind A.stands (four A o)) in
        h w.0 w.1 w.2);
    broken_place = λ n bytes h. refuse bytes n (λ c A. absurd_bool (sym A.place ∙ h A.next (stands-there A)));
    other_rule = λ n bytes h. refuse bytes n (λ c A. h A.next A.place (stands-there A) A.rule A.by_rule);
    other_fields = λ n bytes h. refuse bytes n (λ c A. absurd_bool (sym (stands-there A) ∙ h A.next A.place));
    otherwise = λ n m rest o. refuse (m ∷ rest) n
        (λ c A. absurd_bool
        (sym (one_of_seven A.by_rule)
        ∙ ap (λ (k : ℕ). is_in eqb k map_bytes) (sym (map_is A.by_rule m rest A.behind A.stands))
        ∙ o));
    bit_seven = λ n m rest l.
        refuse (m ∷ rest) n (λ c A. omega (arith, l, map_is A.by_rule m rest A.behind A.stands, seven_bits A.by_rule));
  }
    where
      empty : {c : Change} {r : ℕ} (k : ByRule c r) (behind : List ℕ) → [] ≡ record_by k ++ behind → ⊥
      empty (rule1 y z e) behind q = omega (arith, ap length q)
      empty (rule2 y z h e) behind q = omega (arith, ap length q)
      empty (rule3 y z h e) behind q = omega (arith, ap length q)
      empty (rule4 y h e) behind q = omega (arith, ap length q)
      empty (rule5 y h e) behind q = omega (arith, ap length q)
      empty (rule6 z h e) behind q = omega (arith, ap length q)
      empty (rule7 z h e) behind q = omega (arith, ap length q)

      four : {m : ℕ} {rest : List ℕ} {n d : ℕ} {c : Simplex} (A : Accepts p a (m ∷ rest) n c) → m % 4 ≡ d
          → map_by A.by_rule % 4 ≡ d
      four {m} {rest} A o = ap (λ (k : ℕ). k % 4) (sym (map_is A.by_rule m rest A.behind A.stands)) ∙ o

      come : {m low high n : ℕ} {rest : List ℕ} {c : Simplex} → Accepts p a (m ∷ low ∷ high ∷ rest) n c → m % 2 ≡ 1
          → (y : Point) × (is_grid_point p.grid y ≡ true) × (is_in same_point y a ≡ false)
          × (position p.grid y ≡ low + 256 * high)
      come {m} {low} {high} {n} {rest} A o =
          in_from A.next (low + 256 * high) A.place
          (comes_in_lem A.by_rule m low high rest A.behind A.stands
          (ap (λ (k : ℕ). k % 2) (sym (map_is A.by_rule m (low ∷ high ∷ rest) A.behind A.stands)) ∙ o))

      position-same : (y z : Point) → is_grid_point p.grid y ≡ true → is_grid_point p.grid z ≡ true
          → position p.grid y ≡ position p.grid z
          → ◌≡◌ {A = List Point} (y ∷ []) (z ∷ [])
      position-same y z hy hz e =
          positions_tell p.grid ok.same_number (y ∷ []) (z ∷ []) (rw hy) (rw hz) (ap (λ (i : ℕ). i ∷ []) e)

      at_one : {y z : Point} → ◌≡◌ {A = List Point} (y ∷ []) (z ∷ []) → y ≡ z
      at_one e = cc

-- what is rebuilt is an unlabelled place
module _ {p : Problem} (ok : HasStart p) where
  from_place : (n : ℕ) (a : Simplex) → is_unlabelled_place p a ≡ true → (bytes : List ℕ) (c : Simplex)
      → rebuilt_from p n a bytes ≡ some c
      → is_unlabelled_place p c ≡ true
  from_place zero a ha bytes c e = let q : a ≡ c = cc in rw (← q) ha
  from_place (suc n) a ha bytes c e =
      let A = (accepts ok a ha bytes n c).0 e in
      from_place n A.next A.place A.behind c A.goes_on

  pub rebuilt-place : (bytes : List ℕ) (number : ℕ) (c : Simplex) → rebuilt p bytes number ≡ some c
      → is_unlabelled_place p c ≡ true
  unfolding rebuilt
  rebuilt-place bytes zero c e = absurd_bool (cc)
  rebuilt-place bytes (suc n) c e = ⊎_elim
      (λ t. from_place n (p.start ∷ []) (unlabelled_of p (p.start ∷ []) (start-place ok))
      (drop (length (start_record p)) bytes) c (rw t at e))
      (λ f. let z : none ≡ some c = rw f at e in absurd_bool (cc))
      (true_or_false (begins (start_record p) bytes))
