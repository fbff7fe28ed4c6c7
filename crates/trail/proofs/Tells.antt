-- A record tells its place: from one place, at most one place's record begins the bytes. Assumes nothing.
use mathlib.Core.Bool.{Bool, true, false, ◌&&◌, not}
use mathlib.Core.List.{List, [], ◌∷◌, ◌++◌, map, append_assoc}
use mathlib.Core.Logic.{⊎_elim}
use mathlib.Core.Path.{◌≡◌, refl, sym, ap, ◌∙◌}
use Prim.Native.Nat.{ℕ, suc, ◌+◌, ◌*◌, ◌%◌, ◌/◌, ◌≤◌, ◌<◌}
use borrow.Author.Tests.{eqb-true, eq-eqb, leb-true, not-true}
use lib.Dec.{eqb, leb}
use lib.ListN.{length, drop, get_or}
use native.Mathlib.Nat.{div-add-mod'}
use native.Mathlib.Omega.{arith}
use Rattle.combinatorics.proofs.Basics.{absurd_bool, and_left, and_right, and_both, both, true_or_false}
use Rattle.combinatorics.proofs.Basics.{before_or_not}
use Rattle.combinatorics.proofs.Lists.{all_in, in_all}
use Rattle.combinatorics.proofs.Rising.{rising-same}
use Rattle.combinatorics.specs.Lists.{all, concat_map, is_in}
use Rattle.grid_points.proofs.Points.{on_points, in_points}
use Rattle.grid_points.specs.Grid.{Grid, Point, num_blocks, is_grid_point, same_point, points, position}
use Rattle.place.specs.Coefficients.{coefficient_sum}
use Rattle.place.specs.Places.{Simplex, is_unlabelled_place}
use Rattle.place.specs.Problem.{Problem}
use Rattle.path_laws.proofs.LinkSymmetry.{unlabelled-parts}
use Rattle.positions.proofs.Positions.{at-position_in}
use Rattle.trail.proofs.Outside.{one_of, in_outside, outside_in}
use Rattle.trail.specs.Change.{Change, change, rules, outside, empty, single}
use Rattle.trail.specs.Record.{bytes16, bit_map, fields, encoded, record_of}
use Rattle.trail.specs.Trail.{begins, is_move}

-- what begins with a record is the record and what is behind it
pub begins_with : (r bytes : List ℕ) → begins r bytes ≡ true → bytes ≡ r ++ drop (length r) bytes
begins_with [] bytes e = refl
begins_with (x ∷ r) [] e = absurd_bool (sym e)
begins_with (x ∷ r) (y ∷ bytes) e =
    let q : x ≡ y = eqb-true x y (and_left _ (begins r bytes) e) in
    let k = begins_with r bytes (and_right (eqb x y) (begins r bytes) e) in
    ap (λ (z : ℕ). z ∷ bytes) (sym q) ∙ ap (λ (l : List ℕ). x ∷ l) k

halves : (m n : ℕ) → m % 256 ≡ n % 256 → m / 256 ≡ n / 256 → m ≡ n
halves m n e f = sym (div-add-mod' m 256)
    ∙ ap (λ (k : ℕ). k * 256 + m % 256) f
    ∙ ap (λ (k : ℕ). n / 256 * 256 + k) e
    ∙ div-add-mod' n 256

-- two fields with at most one position each, at the front of two records whose bytes are the same as far as both go
module _ (fs gs : List (List ℕ)) where
  same_field : (a b : List ℕ) → length a ≤ 1 → length b ≤ 1 → (x y : List ℕ)
      → bit_map (concat_map bytes16 a ∷ fs) ≡ bit_map (concat_map bytes16 b ∷ gs)
      → concat_map bytes16 a ++ x ≡ concat_map bytes16 b ++ y
      → (a ≡ b) × (bit_map fs ≡ bit_map gs) × (x ≡ y)
  same_field [] [] la lb x y e q = (refl, omega arith, q)
  same_field [] (n ∷ []) la lb x y e q = absurd (omega arith)
  same_field (m ∷ []) [] la lb x y e q = absurd (omega arith)
  same_field (m ∷ []) (n ∷ []) la lb x y e q =
      (ap (λ (k : ℕ). k ∷ []) (halves m n (cc) (cc)), omega arith, cc)
  same_field [] (n ∷ n' ∷ b) la lb x y e q = absurd (omega arith)
  same_field (m ∷ []) (n ∷ n' ∷ b) la lb x y e q = absurd (omega arith)
  same_field (m ∷ m' ∷ a) b la lb x y e q = absurd (omega arith)

-- so the bytes tell which points come in and go out
fields_tell : (c d : Change) → length c.points_in ≤ 1 → length d.points_in ≤ 1 → length c.points_out ≤ 1
    → length d.points_out ≤ 1 → (x y : List ℕ) → encoded (fields c) ++ x ≡ encoded (fields d) ++ y
    → (c.points_in ≡ d.points_in) × (c.points_out ≡ d.points_out)
fields_tell c d li mi lo mo x y e =
    let fs = map suc c.into_t ∷ map suc c.out_of_t ∷ map suc c.into_u ∷ map suc c.out_of_u ∷ rules c ∷ [] in
    let gs = map suc d.into_t ∷ map suc d.out_of_t ∷ map suc d.into_u ∷ map suc d.out_of_u ∷ rules d ∷ [] in
    let xs : List ℕ = concat_map (λ f. f) fs in
    let ys : List ℕ = concat_map (λ f. f) gs in
    let i : List ℕ = concat_map bytes16 c.points_in in
    let j : List ℕ = concat_map bytes16 d.points_in in
    let u : List ℕ = concat_map bytes16 c.points_out in
    let v : List ℕ = concat_map bytes16 d.points_out in
    let m : bit_map (i ∷ u ∷ fs) ≡ bit_map (j ∷ v ∷ gs) = first e in
    let q : (i ++ (u ++ xs)) ++ x ≡ (j ++ (v ++ ys)) ++ y = rest e in
    let q1 : i ++ (u ++ (xs ++ x)) ≡ j ++ (v ++ (ys ++ y)) = sym (regroup i u xs x) ∙ q ∙ regroup j v ys y in
    let w = same_field (u ∷ fs) (v ∷ gs) c.points_in d.points_in li mi (u ++ (xs ++ x)) (v ++ (ys ++ y)) m q1 in
    let z = same_field fs gs c.points_out d.points_out lo mo (xs ++ x) (ys ++ y) w.1 w.2 in
    (w.0, z.0)
  where
    regroup : (i u xs x : List ℕ) → (i ++ (u ++ xs)) ++ x ≡ i ++ (u ++ (xs ++ x))
    regroup i u xs x = simp append_assoc

    first : {a b : ℕ} {r t : List ℕ} → ◌≡◌ {A = List ℕ} (a ∷ r) (b ∷ t) → a ≡ b
    first e = cc

    rest : {a b : ℕ} {r t : List ℕ} → ◌≡◌ {A = List ℕ} (a ∷ r) (b ∷ t) → r ≡ t
    rest e = cc

-- a list of grid points by their positions
module _ (g : Grid) (even : length g.divisions ≡ num_blocks g) where
  pub at_position : (y : Point) → is_grid_point g y ≡ true → get_or (points g) (position g y) [] ≡ y
  at_position y h = at-position_in (points g) y (in_points g y even h)

  pub positions_tell : (a b : List Point) → all (is_grid_point g) a ≡ true → all (is_grid_point g) b ≡ true
      → map (position g) a ≡ map (position g) b → a ≡ b
  positions_tell [] [] ha hb e = refl
  positions_tell [] (y ∷ b) ha hb e = absurd (omega (arith, ap length e))
  positions_tell (x ∷ a) [] ha hb e = absurd (omega (arith, ap length e))
  positions_tell (x ∷ a) (y ∷ b) ha hb e =
      let q : position g x ≡ position g y = cc in
      let r : map (position g) a ≡ map (position g) b = cc in
      let w : x ≡ y = sym (at_position x (and_left _ _ ha))
      ∙ ap (λ (i : ℕ). get_or (points g) i []) q
      ∙ at_position y (and_left _ _ hb) in
      let v : a ≡ b = positions_tell a b (and_right (is_grid_point g x) (all (is_grid_point g) a) ha)
      (and_right (is_grid_point g y) (all (is_grid_point g) b) hb) r in
      cc

-- what comes in and what goes out tell the set of points
same_set : (a b c : List Point) → outside same_point a b ≡ outside same_point a c
    → outside same_point b a ≡ outside same_point c a → (y : Point) → is_in same_point y b ≡ true
    → is_in same_point y c ≡ true
same_set a b c e f y m = ⊎_elim
    (λ (t : is_in same_point y a ≡ true). ⊎_elim
    (λ u. u)
    (λ (u : is_in same_point y c ≡ false).
    absurd_bool (sym m ∙ (outside_in on_points y a b (rw f (in_outside on_points y a c t u))).1))
    (true_or_false (is_in same_point y c)))
    (λ (t : is_in same_point y a ≡ false). (outside_in on_points y c a (rw e at (in_outside on_points y b a m t))).0)
    (true_or_false (is_in same_point y a))

-- the conditions of a record apart from its bytes
pub record Moves (p : Problem) (a b : Simplex) : Type 0 where
  pub place : is_unlabelled_place p b ≡ true
  pub few_in : length (change p a b).points_in ≤ 1
  pub few_out : length (change p a b).points_out ≤ 1
  pub some : 0 < length (change p a b).points_in + length (change p a b).points_out
  pub rule : (r : ℕ) × (rules (change p a b) ≡ r ∷ [])

pub moves_of : (p : Problem) (a b : Simplex) → is_move p a b ≡ true → Moves p a b
unfolding is_move
moves_of p a b h =
    let c = change p a b in
    let x : Bool = is_unlabelled_place p b in
    let y : Bool = leb (length c.points_in) 1 in
    let z : Bool = leb (length c.points_out) 1 in
    let u : Bool = empty c.points_in && empty c.points_out in
    let w : Bool = single (rules c) in
    let k1 : (x && y && z && not u) ≡ true = and_left (x && y && z && not u) w h in
    let k2 : (x && y && z) ≡ true = and_left (x && y && z) (not u) k1 in
    let k3 : (x && y) ≡ true = and_left (x && y) z k2 in
    let n : u ≡ false = not-true u (and_right (x && y && z) (not u) k1) in
    record {
      place = and_left x y k3;
      few_in = leb-true _ 1 (and_right x y k3);
      few_out = leb-true _ 1 (and_right (x && y) z k2);
      some = ⊎_elim
          (λ l. l)
          (λ (l : length c.points_in + length c.points_out ≤ 0). absurd_bool
          (sym (and_both _ _ (eq-eqb (length c.points_in) 0 (omega arith)) (eq-eqb (length c.points_out) 0 (omega arith)))
          ∙ n))
          (before_or_not 0 (length c.points_in + length c.points_out));
      rule = one_of (rules c) (eqb-true _ 1 (and_right (x && y && z && not u) w h));
    }

module _ {p : Problem} (even : length p.grid.divisions ≡ num_blocks p.grid) {a b c : Simplex}
    (on : all (is_grid_point p.grid) a ≡ true) (B : Moves p a b) (C : Moves p a c) where
  grid-outside : (s t : Simplex) → all (is_grid_point p.grid) s ≡ true
      → all (is_grid_point p.grid) (outside same_point t s) ≡ true
  grid-outside s t h = in_all on_points (is_grid_point p.grid) (outside same_point t s)
      (λ y m. all_in on_points (is_grid_point p.grid) s h y (outside_in on_points y s t m).0)

  -- "record_tells"
  pub record_tells : (bytes : List ℕ) → begins (record_of p a b) bytes ≡ true → begins (record_of p a c) bytes ≡ true
      → b ≡ c
  unfolding record_of change
  record_tells bytes hb hc = rising-same on_points (coefficient_sum p) b c (unlabelled-parts p b B.place).in_order
      (unlabelled-parts p c C.place).in_order
      (λ y. both _ _ (same_set a b c came.0 came.1 y) (same_set a c b (sym came.0) (sym came.1) y))
    where
      came : (outside same_point a b ≡ outside same_point a c) × (outside same_point b a ≡ outside same_point c a)
      came =
          let w = fields_tell (change p a b) (change p a c) B.few_in C.few_in B.few_out C.few_out _ _
          (sym (begins_with (record_of p a b) bytes hb) ∙ begins_with (record_of p a c) bytes hc) in
          let gb = (unlabelled-parts p b B.place).grid_points in
          let gc = (unlabelled-parts p c C.place).grid_points in (
            positions_tell p.grid even _ _ (grid-outside b a gb) (grid-outside c a gc) w.0,
            positions_tell p.grid even _ _ (grid-outside a b on) (grid-outside a c on) w.1,
          )
