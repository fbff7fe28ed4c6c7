-- One record of a reading. In order: the record that the state before and after tells is that of the place; where it
-- stands, the reading goes on, and else there is no record. Assumes nothing.
use mathlib.Core.Bool.{Bool, true, false, ◌&&◌}
use mathlib.Core.List.{List, [], ◌∷◌, map}
use mathlib.Core.Logic.{⊎_elim}
use mathlib.Core.Option.{none}
use mathlib.Core.Path.{◌≡◌, sym, ap, ◌∙◌, subst}
use Prim.Native.Nat.{ℕ, suc, ◌+◌, ◌-◌, ◌*◌, ◌/◌, ◌%◌, ◌≤◌, ◌<◌}
use borrow.Author.Tests.{leb-true, ltb-true}
use lib.Dec.{eqb, leb, ltb}
use lib.ListN.{drop, get_or, length, length-append, length-map}
use native.Mathlib.Omega.{arith}
use Rattle.combinatorics.proofs.Basics.{absurd_bool, and_left, and_right, before_or_not, true_or_false}
use Rattle.combinatorics.proofs.Lists.{all_in, in_cases}
use Rattle.combinatorics.specs.Edits.{found}
use Rattle.combinatorics.specs.Lists.{is_in}
use Rattle.geometry.proofs.Points.{nth}
use Rattle.grid_points.proofs.Points.{in_points, on_points, position_in_lem}
use Rattle.grid_points.specs.Grid.{Point, is_grid_point, num_indices, num_points, points, position, same_point}
use Rattle.place.specs.Places.{Simplex, set_t, set_u}
use Rattle.place.specs.Problem.{Problem}
use Rattle.path_laws.proofs.FromChain.{in_U}
use Rattle.path_laws.proofs.LinkSymmetry.{unlabelled-parts}
use Rattle.path_laws.proofs.Meaning.{T_means, U_means}
use Rattle.path_laws.proofs.Positions.{at_in}
use Rattle.path_laws.specs.Demand.{HasStart}
use Rattle.rules.proofs.Masks.{IsMask}
use Rattle.trail_records.proofs.Told.{told}
use Rattle.trail_records.specs.Records.{record_from}
use Rattle.rules.specs.Mask.{bit}
use Rattle.rules.specs.Read.{position_at}
use Rattle.rules.specs.Moves.{After, State, ends_at_facet, ends_at_place, goes, mark_position}
use Rattle.trail.proofs.OneNext.{into_tells, out-tells}
use Rattle.trail.proofs.Outside.{in_outside, mapped_one}
use Rattle.trail.proofs.Reading.{reads_none, reads_on}
use Rattle.trail.proofs.Tables.{some-index, some-table}
use Rattle.trail.proofs.Tells.{begins_with}
use Rattle.trail.specs.Change.{change, outside}
use Rattle.trail.specs.Record.{record_of}
use Rattle.trail.specs.Trail.{begins, is_move, rebuilt_from}
use Rattle.trail_steps.proofs.Moves.{BringsIn, JoinsTo, LeavesTo, TakesOut, grow_leads, joins_none, joins_on}
use Rattle.trail_steps.proofs.Moves.{leave_leads, leaves_none, leaves_on, ready-grow, ready-leave}
use Rattle.trail_steps.proofs.Reached.{Arrives, stored}
use Rattle.trail_steps.proofs.Shows.{chain-over, shows-long}
use Rattle.trail_steps.specs.Shows.{Shows}
use Rattle.trail_steps.proofs.Named.{Names, brings, names, position_at_lem, takes}
use Rattle.trail_steps.specs.Reading.{joining, leaving, way_of}
use Rattle.ways.specs.Ways.{CanMove, gone_by, way_after}
use Rattle.ways.specs.declared.Way.{Way}
use Rattle.ways.specs.declared.Way.TheVariants.{Joins, Leaves, Nothing}

pub position-low : {p : Problem} → HasStart p → num_points p.grid ≤ 60000 → (y : Point)
    → is_grid_point p.grid y ≡ true → position p.grid y < 65536
position-low {p} ok few y h =
    omega (arith, position_in_lem (points p.grid) y (in_points p.grid y ok.same_number h))

on-grid_in : {p : Problem} {a : Simplex} {s : State} → Shows p a s → (y : Point) → is_in same_point y a ≡ true
    → is_grid_point p.grid y ≡ true
on-grid_in {p} {a} S y m = all_in on_points (is_grid_point p.grid) a (unlabelled-parts p a S.place).grid_points y m

module _ {p : Problem} (ok : HasStart p) where
  -- T and U of a place, by the masks of a state that holds it
  module _ {a : Simplex} {s : State} (S : Shows p a s) where
    pub mask_T : IsMask s.T (set_t p a)
    mask_T = record {
      bits = λ k l. S.bits_t k l ∙ ap (λ (T : ℕ → Bool). T k) (sym S.is_t);
      below = λ k m. omega (arith, ((T_means p a k).0 m).0, ok.sixteen_indices);
    }

    pub mask_U : IsMask s.U (set_u p.grid a)
    mask_U =
        let t = some-table ok a S.place 0 0 (omega (arith, shows-long S)) (some-index ok) in
        record {
          bits = λ k l. S.bits_u k l
              ∙ sym (in_U t.1.full.has_start (chain-over S t.1) k)
              ∙ ap (λ (c : Simplex). is_in eqb k (set_u p.grid c)) S.here;
          below = λ k m. omega (arith, ((U_means p.grid a k).0 m).0, ok.sixteen_indices);
        }

  module _ {a b : Simplex} {s f : State} (S : Shows p a s) (A : Arrives p a b f) (come gone : ℕ)
      (is : f.rule < 6 → come ≡ position p.grid (nth b f.active)) where
    held : Shows p b (stored f (come * 256))
    held = A.shows (come * 256) (λ r. rw (is r) (omega arith))

    active_in : f.rule < 6 → is_in same_point (nth b f.active) b ≡ true
    active_in r = at_in on_points [] b f.active (omega (arith, A.active r, shows-long held, held.order_length))

    -- the point that has come in
    comes : (x : ℕ) → (change p a b).points_in ≡ x ∷ [] → come ≡ x
    unfolding change
    comes x e =
        let w = mapped_one (position p.grid) (outside same_point a b) x e in
        ⊎_elim
        (λ (r : f.rule < 6).
        let m : is_in same_point (nth b f.active) (outside same_point a b) ≡ true =
        in_outside on_points (nth b f.active) b a (active_in r) (A.new r) in
        let q : nth b f.active ≡ w.0 =
        ⊎_elim (λ z. z) (λ z. absurd_bool (sym z)) (in_cases on_points (nth b f.active) w.0 [] (rw w.1 at m)) in
        is r ∙ ap (position p.grid) q ∙ w.3)
        (λ (r : 6 ≤ f.rule). absurd (omega (arith, ap length w.1, ap length (A.none r))))
        (before_or_not f.rule 6)

    pub record_is : ((x : ℕ) → (change p a b).points_out ≡ x ∷ [] → gone ≡ x)
        → record_from s.T s.U f.T f.U come gone ≡ record_of p a b
    record_is goes-out = told p a b (mask_T S) (mask_T held) (mask_U S) (mask_U held) comes goes-out A.by_rule.1

  -- which point goes out
  module _ (a b : Simplex) where
    pub out-is : (i : ℕ) → TakesOut p a i b → (x : ℕ) → (change p a b).points_out ≡ x ∷ []
        → position p.grid (nth a i) ≡ x
    unfolding change
    out-is i m x e =
        let w = mapped_one (position p.grid) (outside same_point b a) x e in
        let q : nth a i ≡ w.0 = first (sym m.1 ∙ w.1) in
        ap (position p.grid) q ∙ w.3
      where
        first : {y z : Point} → ◌≡◌ {A = List Point} (y ∷ []) (z ∷ []) → y ≡ z
        first e = cc

    pub none_out : (h : ℕ) → BringsIn p a h b → (x gone : ℕ) → (change p a b).points_out ≡ x ∷ [] → gone ≡ x
    unfolding change
    none_out h m x gone e =
        absurd (omega (arith, ap length e, length-map (outside same_point b a) (position p.grid), ap length m.1))

  -- a reading at the place a
  module _ {a : Simplex} {s : State} (S : Shows p a s) (bytes : List ℕ) (n : ℕ) (count : n ≡ S.t) where
    abbrev way : Way
    way = way_of (num_indices p.grid) n s bytes

    stops : ((b : Simplex) → is_move p a b ≡ true → begins (record_of p a b) bytes ≡ true → ⊥) → (k : ℕ)
        → rebuilt_from p (suc k) a bytes ≡ none
    stops h k = reads_none p ok.same_number a (unlabelled-parts p a S.place).grid_points bytes h k

    -- where the bytes name nothing
    pub nothing_named : way ≡ Nothing → (k : ℕ) → rebuilt_from p (suc k) a bytes ≡ none
    nothing_named e = stops (λ b m r. go (names ok S b m bytes n count r) e)
      where
        go : {b : Simplex} {w : Way} → Names p a b S.t S.T w → w ≡ Nothing → ⊥
        go (takes i l c m) q = let z : ◌≡◌ {A = ℕ} 0 1 = cc in omega arith
        go (brings h l c m) q = let z : ◌≡◌ {A = ℕ} 0 1 = cc in omega arith

    -- where they name a point that leaves, each record that stands there takes it out
    pub named-out : (i : ℕ) → way ≡ Leaves i → (b : Simplex) → is_move p a b ≡ true
        → begins (record_of p a b) bytes ≡ true → TakesOut p a i b
    named-out i e b m r = go (names ok S b m bytes n count r) e
      where
        go : {w : Way} → Names p a b S.t S.T w → w ≡ Leaves i → TakesOut p a i b
        go (takes j l c o) q = let z : j ≡ i = cc in subst (λ (k : ℕ). TakesOut p a k b) z o
        go (brings h l c o) q = let z : ◌≡◌ {A = ℕ} 0 1 = cc in absurd (omega arith)

    pub named_into : (h : ℕ) → way ≡ Joins h → (b : Simplex) → is_move p a b ≡ true
        → begins (record_of p a b) bytes ≡ true → BringsIn p a h b
    named_into h e b m r = go (names ok S b m bytes n count r) e
      where
        go : {w : Way} → Names p a b S.t S.T w → w ≡ Joins h → BringsIn p a h b
        go (takes j l c o) q = let z : ◌≡◌ {A = ℕ} 0 1 = cc in absurd (omega arith)
        go (brings k l c o) q = let z : k ≡ h = cc in subst (λ (k : ℕ). BringsIn p a k b) z o

    -- no move is of the kind named
    pub no-out : (i : ℕ) → way ≡ Leaves i → ((b : Simplex) → TakesOut p a i b → ⊥) → (k : ℕ)
        → rebuilt_from p (suc k) a bytes ≡ none
    no-out i e h = stops (λ b m r. h b (named-out i e b m r))

    pub no_into : (h : ℕ) → way ≡ Joins h → ((b : Simplex) → BringsIn p a h b → ⊥) → (k : ℕ)
        → rebuilt_from p (suc k) a bytes ≡ none
    no_into j e h = stops (λ b m r. h b (named_into j e b m r))

    -- the only place whose record could stand there
    pub data OnlyPlace (b : Simplex) : Type 0 where
      by_out : (i : ℕ) → way ≡ Leaves i → TakesOut p a i b → OnlyPlace b
      by_into : (h : ℕ) → way ≡ Joins h → BringsIn p a h b → OnlyPlace b

    only_move : {b : Simplex} → OnlyPlace b → is_move p a b ≡ true
    only_move (by_out i e m) = m.0
    only_move (by_into h e m) = m.0

    only-place : {b : Simplex} → OnlyPlace b → (c : Simplex) → is_move p a c ≡ true
        → begins (record_of p a c) bytes ≡ true → c ≡ b
    only-place {b} (by_out i e m) c o r =
        let w = named-out i e c o r in
        out-tells ok a S.place c b o m.0 w.1 m.1
    only-place {b} (by_into h e m) c o r =
        let w = named_into h e c o r in
        into_tells ok a S.place c b o m.0 w.1 m.1 w.2 m.2

    pub goes_on : {b : Simplex} → OnlyPlace b → begins (record_of p a b) bytes ≡ true → (k : ℕ)
        → rebuilt_from p (suc k) a bytes ≡ rebuilt_from p k b (drop (length (record_of p a b)) bytes)
    goes_on {b} O r k =
        reads_on p ok.same_number a (unlabelled-parts p a S.place).grid_points bytes b (only_move O) r k

    pub not_there : {b : Simplex} → OnlyPlace b → begins (record_of p a b) bytes ≡ false → (k : ℕ)
        → rebuilt_from p (suc k) a bytes ≡ none
    not_there {b} O f = stops
        (λ c o r. absurd_bool (sym r ∙ ap (λ (x : Simplex). begins (record_of p a x) bytes) (only-place O c o r) ∙ f))

    pub inside : (b : Simplex) → begins (record_of p a b) bytes ≡ true → length (record_of p a b) ≤ length bytes
    inside b r = omega (
      arith,
      ap length (begins_with (record_of p a b) bytes r),
      length-append (record_of p a b) (drop (length (record_of p a b)) bytes),
    )

-- a way names what it can
pub record WayFits (m n T : ℕ) (w : Way) : Type 0 where
  pub leaves : (i : ℕ) → w ≡ Leaves i → (i ≤ n) × (1 ≤ n)
  pub joins : (h : ℕ) → w ≡ Joins h → (h < m) × (bit T h ≡ false)

module _ (m n : ℕ) (s : State) where
  fits-none : WayFits m n s.T Nothing
  fits-none = record {
    leaves = λ i e. absurd (let z : ◌≡◌ {A = ℕ} 0 1 = cc in omega arith);
    joins = λ h e. absurd (let z : ◌≡◌ {A = ℕ} 0 1 = cc in omega arith);
  }

  fits-leaving : (z : ℕ) → WayFits m n s.T (leaving s n z)
  fits-leaving z =
      let r = found z 16 (map mark_position s.marks) in
      ⊎_elim
      (λ t. rw t (record {
        leaves = λ i e.
            let q : r ≡ i = cc in (
              omega (arith, leb-true r n (and_left (leb r n) _ t), q),
              omega (arith, ltb-true 0 n (and_right (leb r n) _ t)),
            );
        joins = λ h e. absurd (let z : ◌≡◌ {A = ℕ} 0 1 = cc in omega arith);
      }))
      (λ f. rw f fits-none)
      (true_or_false (leb r n && ltb 0 n))

  fits-joining : (b : ℕ) → WayFits m n s.T (joining s.T m b)
  fits-joining b = ⊎_elim
      (λ t. rw t (⊎_elim
      (λ u. rw u fits-none)
      (λ u. rw u (record {
        leaves = λ i e. absurd (let z : ◌≡◌ {A = ℕ} 0 1 = cc in omega arith);
        joins = λ h e.
            let q : b - 1 ≡ h = cc in (
              omega (arith, leb-true 1 b (and_left (leb 1 b) _ t), leb-true b m (and_right (leb 1 b) _ t), q),
              ap (bit s.T) (sym q) ∙ u,
            );
      }))
      (true_or_false (bit s.T (b - 1)))))
      (λ f. rw f fits-none)
      (true_or_false (leb 1 b && leb b m))

  pub way_fits : (bytes : List ℕ) → WayFits m n s.T (way_of m n s bytes)
  unfolding way_of
  way_fits bytes =
      let byte = get_or bytes 0 0 in
      let from = 1 + 2 * (byte % 2) in
      ⊎_elim
      (λ t. rw t fits-none)
      (λ f. rw f (⊎_elim
      (λ u. rw u (⊎_elim
      (λ v. rw v (fits-leaving (get_or bytes from 0 + 256 * get_or bytes (suc from) 0)))
      (λ v. rw v fits-none)
      (true_or_false (leb (from + 2) (length bytes)))))
      (λ u. rw u
      (⊎_elim
      (λ v. rw v (fits-joining (get_or bytes 3 0)))
      (λ v. rw v fits-none)
      (true_or_false (leb 4 (length bytes)))))
      (true_or_false (eqb (byte / 2 % 2) 1))))
      (true_or_false (eqb (length bytes) 0))

pub facet-ends : (e f : State) (k : ℕ) → ends_at_facet e k ≡ goes f → ⊥
facet-ends e f k q = let z : ◌≡◌ {A = ℕ} 0 1 = cc in omega arith

pub place-ends : (e f : State) (k : ℕ) → ends_at_place e k ≡ goes f → ⊥
place-ends e f k q = let z : ◌≡◌ {A = ℕ} 0 1 = cc in omega arith

-- what a way leads to
pub data WayLeads {p : Problem} (ok : HasStart p) {a : Simplex} {s : State} (S : Shows p a s) (bytes : List ℕ) (n : ℕ)
    (count : n ≡ S.t) (gone : ℕ) : After → Type 0 where
  leads_on : {f : State} (b : Simplex) → Arrives p a b f → OnlyPlace ok S bytes n count b
      → ((x : ℕ) → (change p a b).points_out ≡ x ∷ [] → gone ≡ x)
      → WayLeads ok S bytes n count gone (goes f)
  leads_nowhere : {after : After} → ((f : State) → after ≡ goes f → ⊥)
      → ((k : ℕ) → rebuilt_from p (suc k) a bytes ≡ none)
      → WayLeads ok S bytes n count gone after

module _ {p : Problem} (ok : HasStart p) {a : Simplex} {s : State} (S : Shows p a s) (bytes : List ℕ) (n : ℕ)
    (count : n ≡ S.t) where
  at_mark : (i : ℕ) → i ≤ S.t → position_at s i ≡ position p.grid (nth a i)
  at_mark i l = position_at_lem S i l

  leads_out : (i : ℕ) → way_of (num_indices p.grid) n s bytes ≡ Leaves i → i ≤ S.t → {after : After}
      → LeavesTo p a i after
      → WayLeads ok S bytes n count (position_at s i) after
  leads_out i e il (leaves_on b A m) =
      leads_on b A (by_out i e m) (λ x q. at_mark i il ∙ out-is ok a b i m x q)
  leads_out i e il (leaves_none {f} {k} h) = leads_nowhere (λ g q. facet-ends f g k q) (no-out ok S bytes n count i e h)

  leads_into : (h : ℕ) → way_of (num_indices p.grid) n s bytes ≡ Joins h → {after : After} → JoinsTo p a h after
      → WayLeads ok S bytes n count 0 after
  leads_into h e (joins_on b A m) = leads_on b A (by_into h e m) (λ x q. none_out ok a b h m x 0 q)
  leads_into h e (joins_none {f} {k} o) = leads_nowhere (λ g q. place-ends f g k q) (no_into ok S bytes n count h e o)

  pub way_leads : (w : Way) → way_of (num_indices p.grid) n s bytes ≡ w
      → WayLeads ok S bytes n count (gone_by s w) (way_after s w)
  way_leads (Leaves i) e =
      let F = (way_fits (num_indices p.grid) n s bytes).leaves i e in
      leads_out i e (omega (arith, F.0, count))
      (leave_leads ok S i (omega (arith, F.0, count)) (omega (arith, F.1, count)))
  way_leads (Joins h) e =
      let F = (way_fits (num_indices p.grid) n s bytes).joins h e in
      leads_into h e (grow_leads ok S h F.0 (sym (S.bits_t h (omega (arith, F.0, ok.sixteen_indices))) ∙ F.1))
  way_leads Nothing e = leads_nowhere (λ f q. facet-ends s f 0 q) (nothing_named ok S bytes n count e)

  -- and the move can be made
  pub way_ready : (w : Way) → way_of (num_indices p.grid) n s bytes ≡ w → CanMove s w
  way_ready w e = record {
    leaves = λ i q.
        let F = (way_fits (num_indices p.grid) n s bytes).leaves i (e ∙ q) in
        ready-leave ok S i (omega (arith, F.0, count)) (omega (arith, F.1, count));
    joins = λ h q.
        let F = (way_fits (num_indices p.grid) n s bytes).joins h (e ∙ q) in
        ready-grow ok S h F.0 (sym (S.bits_t h (omega (arith, F.0, ok.sixteen_indices))) ∙ F.1);
  }

  pub gone-low : num_points p.grid ≤ 60000 → (w : Way) → way_of (num_indices p.grid) n s bytes ≡ w
      → gone_by s w < 65536
  gone-low few (Leaves i) e =
      let F = (way_fits (num_indices p.grid) n s bytes).leaves i e in
      let il : i ≤ S.t = omega (arith, F.0, count) in
      omega (
        arith,
        at_mark i il,
        position-low ok few (nth a i)
            (on-grid_in S (nth a i) (at_in on_points [] a i (omega (arith, il, shows-long S)))),
      )
  gone-low few (Joins h) e = omega arith
  gone-low few Nothing e = omega arith
