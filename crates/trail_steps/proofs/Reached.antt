-- From a place that a state holds to the next: over a table, the move without labels goes to a place that a link leads
-- to. Assumes nothing.
use mathlib.Core.Bool.{Bool, true, false, ◌&&◌, cond}
use mathlib.Core.List.{List, [], ◌∷◌, map}
use mathlib.Core.Logic.{⊎_elim}
use mathlib.Core.Option.{Option, some}
use mathlib.Core.Path.{◌≡◌, refl, sym, ap, ◌∙◌, subst}
use Prim.Native.Nat.{ℕ, suc, ◌+◌, ◌-◌, ◌*◌, ◌/◌, ◌≤◌, ◌<◌}
use borrow.Author.Tests.{le-ltb, lt-ltb}
use lib.Dec.{eqb, leb, ltb}
use lib.ListN.{length, length-map, length-set, set}
use lib.Seq.{ext_get_or, get_or-set_other, get_or-set_same}
use native.Mathlib.Omega.{arith}
use Rattle.combinatorics.proofs.Basics.{absurd_bool, before_or_not, false_of, same_or, true_or_false}
use Rattle.combinatorics.proofs.Lists.{mapped_at}
use Rattle.combinatorics.specs.Lists.{is_in}
use Rattle.geometry.proofs.LabelledChains.{list_at}
use Rattle.geometry.proofs.Points.{nth}
use Rattle.grid_points.proofs.Points.{on_points}
use Rattle.grid_points.specs.Grid.{at, is_grid_point, num_blocks, num_indices, num_points, position, same_point}
use Rattle.place.specs.Links.{linked}
use Rattle.place.specs.Places.{Simplex, is_place, is_unlabelled_place}
use Rattle.place.specs.Problem.{Problem, label, with_labels}
use Rattle.path_laws.proofs.BlocksOfGrid.{coefficient_of, point_of}
use Rattle.path_laws.proofs.ChainLinks.{of_link}
use Rattle.path_laws.proofs.Filled.{full_place}
use Rattle.path_laws.proofs.FromChain.{T-is, back-again, coefficient_at, place_of}
use Rattle.path_laws.proofs.LinkSymmetry.{unlabelled_of}
use Rattle.path_laws.proofs.Positions.{at_in, in_at}
use Rattle.path_laws.proofs.ToChain.{index_is, index_of, label_of, points_of}
use Rattle.path_laws.specs.Demand.{HasStart}
use Rattle.positions.specs.Falls.{tail_from}
use Rattle.rules.proofs.Describes.{Came, Describes, Reached, begins, from_larger, mark_at, through}
use Rattle.rules.proofs.Follow.{reached-stands, stands-beside, stands-exchanged, stands-reads}
use Rattle.rules.proofs.Range.{nth_points_of}
use Rattle.rules.proofs.StatePoints.{point-is}
use Rattle.rules.specs.Read.{CanCompute, Exchanged, Falling, FallsBeside, above, point_in, position_at}
use Rattle.rules.specs.Moves.{State, mark, mark_position}
use Rattle.trail.proofs.OneNext.{not_there}
use Rattle.trail.proofs.Outside.{outside-none}
use Rattle.trail.proofs.Reading.{T-alike, place-alike}
use Rattle.trail.proofs.SomeLinks.{LinkOver, link-moves}
use Rattle.trail.proofs.Tables.{Labelled}
use Rattle.trail.specs.Change.{ByRule, change, outside}
use Rattle.trail.specs.Trail.{is_move}
use Rattle.trail_steps.specs.Shows.{Shows, bare}
use Rattle.moves.specs.Held.{with_marks}
use Rattle.trail_steps.proofs.Shows.{chain-over, labelled, shows-at, shows-long}
use Rattle.trail_steps.proofs.Stripped.{Likewise, strip, stripped, with_active}

-- the marks with that of the point that has come in
abbrev pub stored : State → ℕ → State
stored e come = with_marks e (cond (ltb e.rule 6) (set e.marks e.active come) e.marks)

-- what the move from the place a to b leaves in the state e
pub record Arrives (p : Problem) (a b : Simplex) (e : State) : Type 0 where
  pub place : is_unlabelled_place p b ≡ true
  pub move : is_move p a b ≡ true
  pub by_rule : (r : ℕ) × ByRule (change p a b) r
  -- the point that has come in, if any
  pub active : e.rule < 6 → e.active ≤ length e.order
  pub new : e.rule < 6 → is_in same_point (nth b e.active) a ≡ false
  pub none : 6 ≤ e.rule → outside same_point a b ≡ []
  -- it can be computed, and its position found by the marks around it
  pub reads : e.rule < 6 → CanCompute e e.active
  pub on_grid : e.rule < 6 → is_grid_point p.grid (point_in p e e.active) ≡ true
  pub point : e.rule < 6 → point_in p e e.active ≡ nth b e.active
  pub square : e.rule ≡ 1 → 0 < e.active → e.active < length e.order → Exchanged p.grid e
  pub beside : e.rule < 6 → num_points p.grid ≤ 60000 → num_blocks p.grid ≡ 1 → (tails : List ℕ)
      → ((k : ℕ) → k < num_indices p.grid → at tails k ≡ tail_from p.grid p.start k)
      → FallsBeside p.grid tails e
  -- with its mark the state holds b
  pub shows : (come : ℕ) → (e.rule < 6 → come ≡ bare p (nth b e.active)) → Shows p b (stored e come)

stripped_mark : (p : Problem) (labels : List ℕ) → num_indices p.grid ≤ 16 → (c : ℕ → ℕ)
    → strip (mark_at (with_labels p labels) c) ≡ bare p (point_of p c)
stripped_mark p labels few c =
    let l = label_of (with_labels p labels) c in
    let low : l ≤ num_indices p.grid = go (label (with_labels p labels) (point_of p c)) in
    let pos = position p.grid (point_of p c) in
    let w : (pos * 256 + suc l) / 256 ≡ pos = omega arith in
    ap (λ (n : ℕ). mark n 0) w
  where
    go : (l : ℕ) → index_of (num_indices p.grid) l ≤ num_indices p.grid
    go l = ⊎_elim
        (λ t. omega (arith, (index_is (num_indices p.grid) l t).1))
        (λ f. rw f (omega arith))
        (true_or_false (leb 1 l && leb l (num_indices p.grid)))

-- by how a place was reached: the marks, and which point is new
module _ {q : Problem} {T : ℕ → Bool} {t : ℕ} {o : ℕ → ℕ} {y : List (ℕ → ℕ)} {e : State}
    (D : Describes q T t o y e) where
  came_active : {left : Option (List (ℕ → ℕ))} → Came q T t y e left → e.active ≤ t
  came_active (begins z u r) = omega arith
  came_active (through n l z w v r b carry X C) = w
  came_active (from_larger l w r v A z X) = w

module _ {q : Problem} {T : ℕ → Bool} {t : ℕ} {o : ℕ → ℕ} {x y : List (ℕ → ℕ)} {e : State}
    (D : Describes q T t o y e) where
  came_marks : {left : Option (List (ℕ → ℕ))} → Came q T t y e left → left ≡ some x → (j : ℕ) → j ≤ t
      → (e.rule < 6 → j ≡ e.active → ⊥)
      → at e.marks j ≡ mark_at q (list_at y j)
  came_marks (begins z u r) k j l n = absurd_bool (cc)
  came_marks (through n l z w v r b carry X C) k j m ne = b j m (ne r)
  came_marks (from_larger l w r v A z X) k j m ne = A j m

  came_new : {left : Option (List (ℕ → ℕ))} → Came q T t y e left → left ≡ some x → e.rule < 6 → (f : ℕ) → f < length x
      → list_at x f ≡ list_at y e.active → ⊥
  came_new (begins z u r) k c f l m = absurd_bool (cc)
  came_new (through n l z w v r b carry X C) k c f fl m =
      let i : l ≡ x = cc in
      not_there y (rw z at D.chain.chain) (omega arith) x (rw i at X) f fl m
  came_new (from_larger l w r v A z X) k c f fl m = omega arith

  came_within : {left : Option (List (ℕ → ℕ))} → Came q T t y e left → left ≡ some x → 6 ≤ e.rule → (j : ℕ) → j ≤ t
      → (f : ℕ) × (f < length x) × (list_at x f ≡ list_at y j)
  came_within (begins z u r) k c j l = absurd (omega arith)
  came_within (through n l z w v r b carry X C) k c j m = absurd (omega arith)
  came_within (from_larger l w r v A z X) k c j m =
      let i : l ≡ x = cc in
      let v = X.4.part j m in
      (v.0, omega (arith, v.1, X.3.size, ap length i), ap (λ (c : List (ℕ → ℕ)). list_at c v.0) (sym i) ∙ v.2)

module _ {p : Problem} (ok : HasStart p) {a : Simplex} {s : State} (S : Shows p a s) {i h : ℕ} {labels : List ℕ}
    (L : Labelled p a i h labels) where
  abbrev q : Problem
  q = with_labels p labels

  -- without its labels the labelled state is the state
  pub bare-state : stripped (labelled S L) ≡ s
  bare-state = ap (with_marks s) (go S.x ∙ ap (map (bare p)) S.here ∙ sym S.marks)
    where
      go : (x : List (ℕ → ℕ)) → map strip (map (mark_at q) x) ≡ map (bare p) (points_of p x)
      go [] = refl
      go (c ∷ x) = rw (stripped_mark p labels ok.sixteen_indices c, go x)

  module _ {e f : State} {y : List (ℕ → ℕ)} (R : Reached q S.x e y) (K : Likewise e f) where
    abbrev b : Simplex
    b = points_of p y

    D : Describes q R.T R.t R.o y e
    D = R.describes

    chain_back : LinkOver p a b labels
    chain_back =
        let C = chain-over S L in
        let okq = L.full.has_start in
        let w = of_link okq _ (place_of okq C) (rw (← (back-again okq C)) at R.link) in
        record {
          from = subst (λ (c : Simplex). is_place q c ≡ true) S.here (place_of okq C);
          to = w.0;
          by = subst (λ (c : Simplex). linked q c b ≡ true) S.here w.1;
        }

    moved : (is_move p a b ≡ true) × ((r : ℕ) × ByRule (change p a b) r)
    moved = link-moves ok labels a b chain_back (full_place L.full a chain_back.from)

    place_b : is_unlabelled_place p b ≡ true
    place_b = sym (place-alike p labels b) ∙ unlabelled_of q b chain_back.to

    long_b : length b ≡ suc R.t
    long_b = length-map y (point_of p) ∙ D.chain.size

    point_b_lem : (j : ℕ) → j ≤ R.t → nth b j ≡ point_of p (list_at y j)
    point_b_lem j l = nth_points_of p y j (omega (arith, D.chain.size))

    -- after a rule by which a point came in
    module _ (r : f.rule < 6) where
      same : f ≡ stripped e
      same = K.rest ∙ ap (with_active (stripped e)) (K.active r)

      in_rule : e.rule < 6
      in_rule = subst (λ (n : ℕ). n < 6) (ap (λ (g : State). g.rule) K.rest) r

      same-active : f.active ≡ e.active
      same-active = K.active r

      active-low : f.active ≤ R.t
      active-low = rw same-active (came_active D R.came)

      here-is : point_in p f f.active ≡ nth b f.active
      here-is = rw (same) (point-is L.full D e.active (came_active D R.came))

      new-point : is_in same_point (nth b f.active) a ≡ false
      new-point = false_of _ (λ m.
          let w = in_at on_points [] (nth b f.active) a m in
          let C = chain-over S L in
          let wl : w.0 < length S.x = omega (arith, w.1, shows-long S, S.size) in
          let u : coefficient_of q (nth a w.0) ≡ list_at S.x w.0 = subst
          (λ (c : Simplex). coefficient_of q (nth c w.0) ≡ list_at S.x w.0)
          S.here (coefficient_at L.full.has_start C w.0 wl) in
          let v : coefficient_of q (nth b f.active) ≡ list_at y f.active =
          coefficient_at L.full.has_start D.chain f.active (omega (arith, active-low, D.chain.size)) in
          came_new D R.came refl in_rule w.0 wl (sym u ∙ ap (coefficient_of q) w.2 ∙ v ∙ ap (list_at y) same-active))

      computes : CanCompute f f.active
      computes = subst (λ (g : State). CanCompute g g.active) (sym same) (stands-reads L.full (reached-stands R)).0

      grid-point : is_grid_point p.grid (point_in p f f.active) ≡ true
      grid-point = subst
          (λ (g : State). is_grid_point p.grid (point_in p g g.active) ≡ true)
          (sym same) (stands-reads L.full (reached-stands R)).1

    -- positions are not changed
    kept-position : (j : ℕ) → j < length e.marks → position_at (stripped e) j ≡ position_at e j
    kept-position j l = ap mark_position (mapped_at strip 0 e.marks j l) ∙ position_strip (at e.marks j)
      where
        position_strip : (m : ℕ) → mark_position (strip m) ≡ mark_position m
        position_strip m = omega arith

    marks-long : length e.marks ≡ suc R.t
    marks-long = D.marks_length

    square_in : f.rule ≡ 1 → 0 < f.active → f.active < length f.order → Exchanged p.grid f
    square_in one more low =
        let r : f.rule < 6 = omega arith in
        let z = same r in
        let X = stands-exchanged L.full (reached-stands R) (ap (λ (g : State). g.rule) (sym z) ∙ one) (rw z at more)
        (rw z at low) in
        subst (Exchanged p.grid) (sym z) (record {
          low = X.low;
          near = X.near;
          here = X.here;
          gone = X.gone;
          far = X.far;
          to_here = X.to_here;
          to_gone = X.to_gone;
          to_far = X.to_far;
          indices = X.indices;
          near_mark = kept-position (e.active - 1) (omega (arith, marks-long, X.low, D.order_length)) ∙ X.near_mark;
          gone_mark = kept-position e.active (omega (arith, marks-long, X.low, D.order_length)) ∙ X.gone_mark;
          far_mark = kept-position (suc e.active) (omega (arith, marks-long, X.low, D.order_length)) ∙ X.far_mark;
        })

    falling_in : (tails : List ℕ) (j lag : ℕ) → Falling p.grid tails e j lag → Falling p.grid tails (stripped e) j lag
    falling_in tails j lag F = record { falls = F.falls; tail = F.tail }

    above_in : (i : ℕ) → i < length e.marks → above (stripped e) i ≡ above e i
    above_in i l = rw (kept-position i l, kept-position 0 (omega arith))

    beside_in : f.rule < 6 → num_points p.grid ≤ 60000 → num_blocks p.grid ≡ 1 → (tails : List ℕ)
        → ((k : ℕ) → k < num_indices p.grid → at tails k ≡ tail_from p.grid p.start k)
        → FallsBeside p.grid tails f
    beside_in r few one tails are =
        let z = same r in
        let B = stands-beside L.full (reached-stands R) (in_rule r) few one tails are in
        let low = came_active D R.came in
        subst (FallsBeside p.grid tails) (sym z) (record {
          near_mark = λ m. kept-position (e.active - 1) (omega (arith, marks-long, low)) ∙ B.near_mark m;
          far_mark = λ m. kept-position (suc e.active) (omega (arith, marks-long, D.order_length)) ∙ B.far_mark m;
          from_near = λ m l.
              rw (above_in (e.active - 1) (omega (arith, marks-long, low))) (falling_in tails _ _ (B.from_near m l));
          to_far = λ m l. rw (above_in (suc e.active) (omega (arith, marks-long, D.order_length)))
              (falling_in tails _ _ (B.to_far m l));
        })

    no-new : 6 ≤ f.rule → outside same_point a b ≡ []
    no-new r =
        let c : 6 ≤ e.rule = subst (λ (n : ℕ). 6 ≤ n) (ap (λ (g : State). g.rule) K.rest) r in
        outside-none on_points b a (λ z m.
        let w = in_at on_points [] z b m in
        let j : w.0 ≤ R.t = omega (arith, w.1, long_b) in
        let v = came_within D R.came refl c w.0 j in
        let k : v.0 ≤ S.t = omega (arith, v.1, S.size) in
        let y : nth a v.0 ≡ z = shows-at S v.0 k ∙ ap (point_of p) v.2 ∙ sym (point_b_lem w.0 j) ∙ w.2 in
        rw (← y) (at_in on_points [] a v.0 (omega (arith, k, shows-long S))))

    -- the marks of the points
    bare-marks : (come : ℕ) → (f.rule < 6 → come ≡ bare p (nth b f.active))
        → cond (ltb f.rule 6) (set f.marks f.active come) f.marks ≡ map (bare p) b
    bare-marks come c = ⊎_elim
        (λ (r : f.rule < 6). rw (lt-ltb f.rule 6 r)
        (ext_get_or 0 (set f.marks f.active come) (map (bare p) b)
        (length-set f.marks f.active come ∙ long_f ∙ sym (length-map b (bare p) ∙ long_b))
        (λ j l.
        let jl : j ≤ R.t = omega (arith, l, length-set f.marks f.active come, long_f) in
        ⊎_elim
        (λ (z : j ≡ f.active). rw z
        (get_or-set_same f.marks f.active come 0 (omega (arith, active-low r, long_f))
        ∙ c r
        ∙ sym (mapped_at (bare p) [] b f.active (omega (arith, active-low r, long_b)))))
        (λ n. get_or-set_other f.marks f.active j come 0 n ∙ other j jl (λ m z. n (z ∙ sym (same-active r))))
        (same_or j f.active))))
        (λ (r : 6 ≤ f.rule). rw (le-ltb f.rule 6 r)
        (ext_get_or 0 f.marks (map (bare p) b) (long_f ∙ sym (length-map b (bare p) ∙ long_b)) (λ j l.
        other j (omega (arith, l, long_f)) (λ m z. absurd (omega (arith, r, m, ap (λ (g : State). g.rule) K.rest))))))
        (before_or_not f.rule 6)
      where
        marks_f : f.marks ≡ map strip e.marks
        marks_f = ap (λ (g : State). g.marks) K.rest

        long_f : length f.marks ≡ suc R.t
        long_f = ap length marks_f ∙ length-map e.marks strip ∙ marks-long

        other : (j : ℕ) → j ≤ R.t → (e.rule < 6 → j ≡ e.active → ⊥) → at f.marks j ≡ at (map (bare p) b) j
        other j jl n = ap (λ (l : List ℕ). at l j) marks_f
            ∙ mapped_at strip 0 e.marks j (omega (arith, marks-long))
            ∙ ap strip (came_marks D R.came refl j jl n)
            ∙ stripped_mark p labels ok.sixteen_indices (list_at y j)
            ∙ ap (bare p) (sym (point_b_lem j jl))
            ∙ sym (mapped_at (bare p) [] b j (omega (arith, jl, long_b)))

    shows_with : (k : ℕ) (marks : List ℕ) → marks ≡ map (bare p) b
        → Shows p b (with_marks (with_active (stripped e) k) marks)
    shows_with k marks m = record {
      T = R.T;
      t = R.t;
      o = R.o;
      x = y;
      chain = D.chain.chain;
      size = D.chain.size;
      here = refl;
      place = place_b;
      is_t =
          let f : List ℕ → ℕ → Bool = λ u k. is_in eqb k u in
          ap f (sym (T-alike p labels b)) ∙ T-is L.full.has_start D.chain;
      round = D.round;
      order_length = D.order_length;
      order_at = D.order_at;
      first_length = D.first_length;
      first_at = D.first_at;
      coefficients_length = D.coefficients_length;
      coefficients_at = D.coefficients_at;
      bits_t = D.in_t;
      bits_u = D.in_u;
      marks = m;
    }

    pub arrives : Arrives p a b f
    arrives = record {
      place = place_b;
      move = moved.0;
      by_rule = moved.1;
      active = λ r. omega (arith, active-low r, D.order_length, ap (λ (g : State). length g.order) K.rest);
      new = new-point;
      none = no-new;
      reads = computes;
      on_grid = grid-point;
      point = here-is;
      square = square_in;
      beside = beside_in;
      shows = λ come c. subst
          (λ (g : State). Shows p b (with_marks g (cond (ltb f.rule 6) (set f.marks f.active come) f.marks)))
          (sym K.rest) (shows_with f.active _ (bare-marks come c));
    }
