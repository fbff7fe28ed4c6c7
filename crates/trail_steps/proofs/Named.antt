-- The way that bytes name is that of the record which they begin with, if any. Assumes nothing.
use mathlib.Core.Bool.{Bool, true, false}
use mathlib.Core.List.{List, [], ◌∷◌, ◌++◌, map}
use mathlib.Core.Logic.{⊎_elim}
use mathlib.Core.Path.{◌≡◌, refl, sym, ap, ◌∙◌, subst}
use Prim.Native.Nat.{ℕ, suc, ◌+◌, ◌-◌, ◌*◌, ◌/◌, ◌%◌, ◌≤◌, ◌<◌}
use borrow.Author.Tests.{eq-eqb, le-leb, lt-ltb, ne_eqb}
use lib.Dec.{eqb}
use lib.ListN.{drop, get_or, length, length-map}
use native.Mathlib.Omega.{arith}
use Rattle.combinatorics.proofs.Basics.{before_or_not}
use Rattle.combinatorics.proofs.EditsRemove.{found-is}
use Rattle.combinatorics.proofs.Lists.{all_in, in_here, mapped_at, on_numbers}
use Rattle.combinatorics.specs.Edits.{found}
use Rattle.combinatorics.specs.Lists.{is_in}
use Rattle.geometry.proofs.Points.{nth}
use Rattle.grid_points.proofs.Points.{on_points}
use Rattle.grid_points.specs.Grid.{Point, at, is_grid_point, num_indices, points, position, same_point}
use Rattle.place.specs.Places.{Simplex, set_t}
use Rattle.place.specs.Problem.{Problem}
use Rattle.path_laws.proofs.LinkSymmetry.{unlabelled-parts}
use Rattle.path_laws.proofs.Meaning.{T_means}
use Rattle.path_laws.proofs.Positions.{at_in, in_at}
use Rattle.path_laws.specs.Demand.{HasStart}
use Rattle.rules.specs.Ready.{IndicesBelow}
use Rattle.rules.specs.Moves.{State, mark, mark_position}
use Rattle.trail.proofs.Outside.{mapped_one, none_of, outside_in}
use Rattle.trail.proofs.Rules.{recorded}
use Rattle.trail.proofs.SomeLinks.{move_rule}
use Rattle.trail.proofs.Tells.{at_position, begins_with}
use Rattle.trail.specs.Change.{ByRule, Change, change, outside, rule1, rule2, rule3, rule4, rule5, rule6, rule7}
use Rattle.trail.specs.Record.{record_by, record_of}
use Rattle.trail.specs.Trail.{begins, is_move}
use Rattle.trail_steps.proofs.Moves.{BringsIn, TakesOut, alone, ready-leave}
use Rattle.trail_steps.proofs.Shows.{shows-long}
use Rattle.trail_steps.specs.Shows.{Shows, bare}
use Rattle.trail_steps.specs.Reading.{joining, leaving, way_of}
use Rattle.ways.specs.declared.Way.{Way}
use Rattle.ways.specs.declared.Way.TheVariants.{Joins, Leaves}

-- a way is that of a move to b
pub data Names (p : Problem) (a b : Simplex) (t : ℕ) (T : ℕ → Bool) : Way → Type 0 where
  takes : (i : ℕ) → i ≤ t → 1 ≤ t → TakesOut p a i b → Names p a b t T (Leaves i)
  brings : (h : ℕ) → h < num_indices p.grid → T h ≡ false → BringsIn p a h b → Names p a b t T (Joins h)

-- T leaves out an index of each block
pub shows-few : {p : Problem} → HasStart p → {a : Simplex} {s : State} (S : Shows p a s) → S.t ≤ 15
shows-few ok S = ⊎_elim
    (λ (l : 0 < S.t). omega (arith, (ready-leave ok S 0 (omega arith) l).few, S.order_length))
    (λ (l : S.t ≤ 0). omega arith)
    (before_or_not 0 S.t)

-- the steps are indices
pub order-low : {p : Problem} → HasStart p → {a : Simplex} {s : State} → Shows p a s → IndicesBelow s.order
order-low {p} ok {a} {s} S j l =
    let jl : j < S.t = omega (arith, S.order_length) in
    let m : is_in eqb (S.o j) (set_t p a) ≡ true =
    ap (λ (T : ℕ → Bool). T (S.o j)) S.is_t ∙ S.chain.order.within j jl in
    omega (arith, S.order_at j jl, ((T_means p a (S.o j)).0 m).0, ok.sixteen_indices)

-- the position in the mark of a point
pub position_at_lem : {p : Problem} {a : Simplex} {s : State} (S : Shows p a s) (j : ℕ) → j ≤ S.t
    → mark_position (at s.marks j) ≡ position p.grid (nth a j)
position_at_lem {p} {a} {s} S j l =
    let e : at s.marks j ≡ bare p (nth a j) =
    ap (λ (m : List ℕ). at m j) S.marks ∙ mapped_at (bare p) [] a j (omega (arith, shows-long S)) in
    ap mark_position e ∙ whole (position p.grid (nth a j))
  where
    whole : (n : ℕ) → mark_position (mark n 0) ≡ n
    whole n = omega arith

module _ {p : Problem} (ok : HasStart p) {a : Simplex} {s : State} (S : Shows p a s) (b : Simplex)
    (move : is_move p a b ≡ true) where
  same_point_lem : {y z : Point} → is_grid_point p.grid y ≡ true → is_grid_point p.grid z ≡ true
      → position p.grid y ≡ position p.grid z → y ≡ z
  same_point_lem {y} {z} hy hz e = sym (at_position p.grid ok.same_number y hy)
      ∙ ap (λ (i : ℕ). get_or (points p.grid) i []) e
      ∙ at_position p.grid ok.same_number z hz

  on-grid : (y : Point) → is_in same_point y a ≡ true → is_grid_point p.grid y ≡ true
  on-grid y m = all_in on_points (is_grid_point p.grid) a (unlabelled-parts p a S.place).grid_points y m

  -- the point that goes out is found by its position
  leaves_by : (z : ℕ) → (change p a b).points_out ≡ z ∷ [] → (n : ℕ) → n ≡ S.t
      → (w : Way) × (leaving s n z ≡ w) × Names p a b S.t S.T w
  unfolding change
  leaves_by z e n q =
      let w = mapped_one (position p.grid) (outside same_point b a) z e in
      let v = outside_in on_points w.0 a b w.2 in
      let i = in_at on_points [] w.0 a v.0 in
      let positions = map mark_position s.marks in
      let many : length positions ≡ suc S.t =
      length-map s.marks mark_position ∙ ap length S.marks ∙ length-map a (bare p) ∙ shows-long S in
      let il : i.0 ≤ S.t = omega (arith, i.1, shows-long S) in
      let here : get_or positions i.0 0 ≡ z = position_in i.0 il ∙ ap (position p.grid) i.2 ∙ w.3 in
      let F =
      found-is z 16 positions i.0 (omega (arith, il, many)) here (λ c. omega (arith, c, il, shows-few ok S)) in
      let r = found z 16 positions in
      let rl : r ≤ S.t = omega (arith, F.inside, many) in
      let same : nth a r ≡ w.0 = same_point_lem
      (on-grid (nth a r) (at_in on_points [] a r (omega (arith, rl, shows-long S)))) (on-grid w.0 v.0)
      (sym (position_in r rl) ∙ F.is ∙ sym w.3) in
      let out : TakesOut p a r b = (move, w.1 ∙ ap (λ (y : Point). y ∷ []) (sym same)) in
      ⊎_elim
      (λ (l : 0 < S.t). (Leaves r, (rw (q, le-leb r S.t rl, lt-ltb 0 S.t l)), takes r rl l out))
      (λ (l : S.t ≤ 0). absurd (alone ok S r rl (omega arith) b out))
      (before_or_not 0 S.t)
    where
      position_in : (j : ℕ) → j ≤ S.t → get_or (map mark_position s.marks) j 0 ≡ position p.grid (nth a j)
      position_in j l =
          mapped_at mark_position 0 s.marks j
          (omega (arith, ap length S.marks, length-map a (bare p), shows-long S))
          ∙ position_at_lem S j l

  -- the index that joins T is an index, and is not there
  joins_by : (h : ℕ) → (change p a b).into_t ≡ h ∷ [] → (change p a b).points_out ≡ []
      → (w : Way) × (joining s.T (num_indices p.grid) (suc h) ≡ w) × Names p a b S.t S.T w
  unfolding change
  joins_by h e f =
      let v = outside_in on_numbers h (set_t p b) (set_t p a) (rw e (in_here on_numbers h [])) in
      let hl = ((T_means p b h).0 v.0).0 in
      let out : S.T h ≡ false = ap (λ (T : ℕ → Bool). T h) (sym S.is_t) ∙ v.1 in
      let none : outside same_point b a ≡ [] =
      none_of (outside same_point b a) (sym (length-map (outside same_point b a) (position p.grid)) ∙ ap length f) in
      let less : suc h - 1 ≡ h = omega arith in (
        Joins h,
        (rw (
          le-leb 1 (suc h) (omega arith),
          le-leb (suc h) (num_indices p.grid) hl,
          less,
          S.bits_t h (omega (arith, hl, ok.sixteen_indices)) ∙ out,
        )),
        brings h hl out (move, none, e),
      )

  halves : (z : ℕ) → z % 256 + 256 * (z / 256) ≡ z
  halves z = omega arith

  module _ (bytes rest : List ℕ) (n : ℕ) (count : n ≡ S.t) where
    abbrev way : List ℕ → Way
    way bytes = way_of (num_indices p.grid) n s bytes

    -- a record whose map byte has bit 1
    by_out : (z : ℕ) → (change p a b).points_out ≡ z ∷ [] → (r : List ℕ) → way r ≡ leaving s n z
        → (w : Way) × (way r ≡ w) × Names p a b S.t S.T w
    by_out z e r q = let v = leaves_by z e n count in (v.0, q ∙ v.1, v.2)

    by_into_lem : (h : ℕ) → (change p a b).into_t ≡ h ∷ [] → (change p a b).points_out ≡ [] → (r : List ℕ)
        → way r ≡ joining s.T (num_indices p.grid) (suc h)
        → (w : Way) × (way r ≡ w) × Names p a b S.t S.T w
    by_into_lem h e f r q = let v = joins_by h e f in (v.0, q ∙ v.1, v.2)

    -- the map bytes of the seven rules
    named_three : (byte : ℕ) → byte / 2 % 2 ≡ 1 → byte % 2 ≡ 1 → (x y z : ℕ) (more : List ℕ)
        → way (byte ∷ x ∷ y ∷ z % 256 ∷ z / 256 ∷ more) ≡ leaving s n z
    unfolding way_of
    named_three byte u v x y z more = rw (
      ne_eqb (length (byte ∷ x ∷ y ∷ z % 256 ∷ z / 256 ∷ more)) 0 (λ e. omega arith),
      eq-eqb (byte / 2 % 2) 1 u,
      v,
      le-leb 5 (length (byte ∷ x ∷ y ∷ z % 256 ∷ z / 256 ∷ more)) (omega arith),
      halves z,
    )

    named-one : (byte : ℕ) → byte / 2 % 2 ≡ 1 → byte % 2 ≡ 0 → (z : ℕ) (more : List ℕ)
        → way (byte ∷ z % 256 ∷ z / 256 ∷ more) ≡ leaving s n z
    unfolding way_of
    named-one byte u v z more = rw (
      ne_eqb (length (byte ∷ z % 256 ∷ z / 256 ∷ more)) 0 (λ e. omega arith),
      eq-eqb (byte / 2 % 2) 1 u,
      v,
      le-leb 3 (length (byte ∷ z % 256 ∷ z / 256 ∷ more)) (omega arith),
      halves z,
    )

    named_into : (byte : ℕ) → (byte / 2 % 2 ≡ 1 → ⊥) → (x y h : ℕ) (more : List ℕ)
        → way (byte ∷ x ∷ y ∷ suc h ∷ more) ≡ joining s.T (num_indices p.grid) (suc h)
    unfolding way_of
    named_into byte u x y h more = rw (
      ne_eqb (length (byte ∷ x ∷ y ∷ suc h ∷ more)) 0 (λ e. omega arith),
      ne_eqb (byte / 2 % 2) 1 u,
      le-leb 4 (length (byte ∷ x ∷ y ∷ suc h ∷ more)) (omega arith),
    )

    named_by : {r : ℕ} (m : ByRule (change p a b) r)
        → (w : Way) × (way (record_by m ++ rest) ≡ w) × Names p a b S.t S.T w
    named_by (rule1 x z e) =
        by_out z (ap (λ (c : Change). c.points_out) e) _ (named_three 67 refl refl (x % 256) (x / 256) z (1 ∷ rest))
    named_by (rule2 x z h e) = by_out z (ap (λ (c : Change). c.points_out) e) _
        (named_three 83 refl refl (x % 256) (x / 256) z (suc h ∷ 2 ∷ rest))
    named_by (rule3 x z h e) = by_out z (ap (λ (c : Change). c.points_out) e) _
        (named_three 99 refl refl (x % 256) (x / 256) z (suc h ∷ 3 ∷ rest))
    named_by (rule4 x h e) = by_into_lem h (ap (λ (c : Change). c.into_t) e) (ap (λ (c : Change). c.points_out) e) _
        (named_into 69 (λ q. omega arith) (x % 256) (x / 256) h (4 ∷ rest))
    named_by (rule5 x h e) = by_into_lem h (ap (λ (c : Change). c.into_t) e) (ap (λ (c : Change). c.points_out) e) _
        (named_into 101 (λ q. omega arith) (x % 256) (x / 256) h (suc h ∷ 5 ∷ rest))
    named_by (rule6 z h e) =
        by_out z (ap (λ (c : Change). c.points_out) e) _ (named-one 90 refl refl z (suc h ∷ suc h ∷ 6 ∷ rest))
    named_by (rule7 z h e) =
        by_out z (ap (λ (c : Change). c.points_out) e) _ (named-one 74 refl refl z (suc h ∷ 7 ∷ rest))

  -- what bytes that begin with the record of b name
  pub names : (bytes : List ℕ) (n : ℕ) → n ≡ S.t → begins (record_of p a b) bytes ≡ true
      → Names p a b S.t S.T (way_of (num_indices p.grid) n s bytes)
  unfolding record_of
  names bytes n count e =
      let m = move_rule ok a b S.place move in
      let rest = drop (length (record_of p a b)) bytes in
      let split : bytes ≡ record_by m.1 ++ rest =
      begins_with (record_of p a b) bytes e ∙ ap (λ (r : List ℕ). r ++ rest) (recorded m.1) in
      let w = named_by bytes rest n count m.1 in
      subst (Names p a b S.t S.T) (sym (ap (way_of (num_indices p.grid) n s) split ∙ w.1)) w.2
