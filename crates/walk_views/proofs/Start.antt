-- The walk at {v}: what the struct holds is the walk of the definitions, and how it is made. Assumes nothing.
use mathlib.Core.Bool.{true}
use mathlib.Core.List.{List, [], ◌∷◌}
use mathlib.Core.Path.{◌≡◌, refl, sym, ap, ◌∙◌}
use Prim.Native.Nat.{ℕ, ◌≤◌}
use borrow.Author.Tests.{le-leb, ne_eqb}
use lib.Dec.{eqb}
use lib.ListN.{length, replicate, take, length-replicate}
use native.Mathlib.Omega.{arith}
use Rattle.combinatorics.proofs.Lists.{eqb_self, same_self}
use Rattle.combinatorics.proofs.Fronts.{front_length, front-none, front_taken}
use Rattle.combinatorics.specs.Front.{padded}
use Rattle.grid_points.proofs.Accepted.{accepted as accepted-grid}
use Rattle.grid_points.specs.Grid.{Grid, Point, is_grid_point, num_indices}
use Rattle.grid.proofs.Fields.{made-blocks, made-indices, made-points}
use Rattle.grid.specs.Made.{IsMade, grid_of as struct_of, shape}
use Rattle.grid_points.specs.Questions.{grid_questions}
use Rattle.grid.specs.declared.Grid.{Grid as GridStruct}
use Rattle.place.specs.Problem.{Problem, label}
use Rattle.place.specs.Questions.{table_questions}
use Rattle.path_laws.proofs.Accepted.{accepted_of}
use Rattle.questions.proofs.Answers.{asked-no, both_yes}
use Rattle.questions.specs.Questions.{first_no}
use Rattle.walks.proofs.KeptForm.{grid-long}
use Rattle.walk_calls.proofs.Later.{behind_four}
use Rattle.walk_calls.specs.Asked.{later_walk_questions}
use Rattle.walks.specs.Walk.{walk_at_start}
use Rattle.walk_views.specs.Begun.{begun_of, begun_on, no_walk, start_walk, CanLabelStart}
use Rattle.walk_views.specs.declared.Begun.{Begun}
use Rattle.walk_places.proofs.Held.{kept-held, padded_taken}
use Rattle.walk_places.specs.Walks.{carried_of, walk_grid, kept_as, nowhere, place_of, walk_of, walk_on}
use Rattle.walk_places.specs.declared.Place.{Place}
use Rattle.walk_places.specs.declared.Walk.{Walk as WalkStruct}

abbrev walk_with : List ℕ → Place → List ℕ → List ℕ → ℕ → List ℕ → WalkStruct
walk_with y before divisions sizes blocks carried = record {
  places = 1;
  labels_read = 1;
  present = record { first = y; order = replicate 16 0; count = 1 };
  before = before;
  start = y;
  divisions = divisions;
  sizes = sizes;
  blocks = blocks;
  carried = carried;
}

abbrev pub begun_by : ℕ → WalkStruct → Begun
begun_by code walk = record { code = code; walk = walk }

module _ (g : Grid) (v : Point) (labels : List ℕ) where
  abbrev p : Problem
  p = begun_on g v labels

  pub refuses : (k : ℕ) → (k ≡ 0 → ⊥) → first_no (table_questions p) ≡ k → begun_by k no_walk ≡ begun_of g v labels
  unfolding begun_of
  refuses k ne e = rw (e, ne_eqb k 0 ne)

  -- a refusal by questions 1 to 4
  pub no-grid : (k : ℕ) → (k ≡ 0 → ⊥) → k ≡ first_no (grid_questions g) → begun_by k no_walk ≡ begun_of g v labels
  no-grid k ne e = refuses k ne (asked-no (grid_questions g) _ k ne (sym e))

  pub begins : first_no (table_questions p) ≡ 0 → begun_by 0 (start_walk g v (label p v)) ≡ begun_of g v labels
  unfolding begun_of
  begins e = rw e

-- "from {v} with 1 as its places so far"
module _ (g : Grid) (v : Point) (labels : List ℕ) (asked : first_no (table_questions (begun_on g v labels)) ≡ 0) where
  abbrev w : WalkStruct
  w = start_walk g v (label (p g v labels) v)

  parts : (first_no (grid_questions g) ≡ 0) × (is_grid_point g v ≡ true)
  parts = ((both_yes (grid_questions g) _ refl asked).0, (accepted_of (p g v labels) asked).has_start.start)

  pub long : length v ≡ num_indices g
  long = grid-long (p g v labels) v parts.1

  grid-is : walk_grid w ≡ g
  grid-is =
      let a = accepted-grid g parts.0 in
      let six : length g.sizes ≤ 6 = a.few_blocks in
      let s : take (length g.sizes) (padded 6 g.sizes) ≡ g.sizes = front_taken g.sizes (replicate 6 0) in
      let d : take (length g.sizes) (padded 6 g.divisions) ≡ g.divisions =
      rw (← a.same_number) (front_taken g.divisions (replicate 6 0)) in
      rw (le-leb (length g.sizes) 6 six, s, d)

  few : num_indices g ≤ 16
  few = (accepted-grid g parts.0).few_indices

  taken : take (num_indices g) (padded 16 v) ≡ v
  taken = padded_taken (num_indices g) v long

  present-is : place_of g w.present ≡ v ∷ []
  present-is =
      let z = length-replicate {A = ℕ} 16 0 in
      let l : length (padded 16 v) ≡ 16 = front_length v (replicate 16 0) (omega (arith, z, long, few)) ∙ z in
      let e : w.present ≡ kept_as (num_indices g) (padded 16 v) (replicate 16 0) 0 =
      rw (taken, front-none (replicate 16 0)) in
      ap (place_of g) e
      ∙ kept-held g (padded 16 v) (replicate 16 0) 0 few (omega arith) l (omega arith)
      ∙ ap (λ (y : Point). y ∷ []) taken

  carried-is : carried_of w ≡ label (p g v labels) v ∷ []
  unfolding carried_of
  carried-is =
      let own = label (p g v labels) v ∷ [] in
      let t : take 1 (padded 16 own) ≡ own = front_taken own (replicate 16 0) in
      rw (t, same_self eqb eqb_self (padded 16 own))

  pub at-start : walk_of w ≡ walk_at_start (p g v labels)
  at-start = ap (λ (h : Grid). walk_on h w) grid-is ∙ rw (taken, present-is, carried-is)

-- as it is made on a grid that is accepted
module _ (g : GridStruct) (made : IsMade g) (v labels : List ℕ)
    (asked : first_no (later_walk_questions g v labels) ≡ 0) where
  behind : first_no (table_questions (begun_on (shape g) v labels)) ≡ 0
  behind = behind_four g v labels made.accepted ∙ asked

  pub short : length v ≤ 16
  short = omega (arith, long (shape g) v labels behind, few (shape g) v labels behind)

  pub taken_start : (y : List ℕ) → y ≡ padded 16 v → take g.indices y ≡ v
  taken_start y e = rw (e, made-indices g made) (taken (shape g) v labels behind)

  pub can_look_up : (y : List ℕ) → y ≡ padded 16 v → CanLabelStart g y labels
  can_look_up y e =
      let ok = accepted_of (begun_on (shape g) v labels) behind in
      let z = length-replicate {A = ℕ} 16 0 in
      record {
        made = made;
        long = rw e (front_length v (replicate 16 0) (omega (arith, z, short)) ∙ z);
        on_grid = rw (taken_start y e) ok.has_start.start;
        whole = ok.table_length ∙ sym (made-points g made);
      }

  pub start-made : (y : List ℕ) → y ≡ padded 16 v → (b : Place) → b ≡ nowhere → (c : List ℕ) (l : ℕ)
      → l ≡ label (begun_on (shape g) (take g.indices y) labels) (take g.indices y) → c ≡ padded 16 (l ∷ [])
      → walk_with y b g.divisions g.sizes g.blocks c
      ≡ start_walk (shape g) v (label (begun_on (shape g) v labels) v)
  unfolding struct_of
  start-made y e b f c l is put =
      let s : g.sizes ≡ padded 6 (shape g).sizes = ap (λ (z : GridStruct). z.sizes) made.made in
      let d : g.divisions ≡ padded 6 (shape g).divisions = ap (λ (z : GridStruct). z.divisions) made.made in
      let n : g.blocks ≡ length (shape g).sizes = made-blocks g made in
      let k : l ≡ label (begun_on (shape g) v labels) v =
      is ∙ ap (λ (z : Point). label (begun_on (shape g) z labels) z) (taken_start y e) in
      ap (λ (x : List ℕ). walk_with y b x g.sizes g.blocks c) d
      ∙ ap (λ (x : List ℕ). walk_with y b (padded 6 (shape g).divisions) x g.blocks c) s
      ∙ ap (λ (x : ℕ). walk_with y b (padded 6 (shape g).divisions) (padded 6 (shape g).sizes) x c) n
      ∙ ap
      (λ (x : List ℕ).
      walk_with x b (padded 6 (shape g).divisions) (padded 6 (shape g).sizes) (length (shape g).sizes) c)
      e
      ∙ ap
      (λ (x : Place).
      walk_with (padded 16 v) x (padded 6 (shape g).divisions) (padded 6 (shape g).sizes) (length (shape g).sizes) c)
      f
      ∙ ap
      (λ (x : List ℕ). walk_with (padded 16 v) nowhere (padded 6 (shape g).divisions) (padded 6 (shape g).sizes)
      (length (shape g).sizes) x)
      (put ∙ ap (λ (x : ℕ). padded 16 (x ∷ [])) k)
