-- A grid that the constructor made: its fields are what the definitions say of its sizes and divisions, and their
-- ranges. Assumes nothing.
use mathlib.Core.List.{map}
use mathlib.Core.Path.{◌≡◌, refl, sym, ap, ◌∙◌}
use mathlib.Core.Logic.{⊎_elim}
use Prim.Native.Nat.{ℕ, zero, suc, ◌+◌, ◌≤◌, ◌<◌, pred}
use borrow.Author.Tests.{eq-eqb, leb-true}
use lib.Dec.{leb}
use lib.ListN.{length, length-map, get_or, take, replicate}
use lib.Seq.{get_or-take}
use native.Mathlib.Omega.{arith}
use Rattle.combinatorics.proofs.Binomials.{choose_one, choose-grows}
use Rattle.combinatorics.proofs.Basics.{before_or_not}
use Rattle.combinatorics.proofs.Fronts.{front_at, front-behind, front_taken}
use Rattle.combinatorics.proofs.Lists.{at_all}
use Rattle.combinatorics.proofs.Ranges.{length-up_from}
use Rattle.combinatorics.proofs.Turns.{map_at}
use Rattle.combinatorics.specs.Lists.{up_from}
use Rattle.combinatorics.specs.Front.{padded}
use Rattle.questions.specs.Questions.{first_no}
use Rattle.grid_points.proofs.Accepted.{Accepted, accepted, count-few, size-two}
use Rattle.grid_points.proofs.Round.{next_low, next-previous}
use Rattle.grid.specs.declared.Grid.{Grid as GridStruct}
use Rattle.grid.specs.declared.Made.{Made}
use Rattle.grid_points.specs.Grid.{Grid, num_blocks, num_indices, num_points, size, division, first_index, block_of, next}
use Rattle.grid_points.specs.Grid.{previous, block_count}
use Rattle.grid.specs.Made.{grid_of, made_of, shape, IsMade}
use Rattle.grid_points.specs.Questions.{grid_questions}

pub padded-at : (f : ℕ → ℕ) (n m i : ℕ) → i < m → get_or (padded n (map f (up_from 0 m))) i 0 ≡ f i
padded-at f n m i h =
    let e : length (map f (up_from 0 m)) ≡ m = length-map (up_from 0 m) f ∙ length-up_from 0 m in
    let z : 0 + i ≡ i = omega arith in
    front_at (map f (up_from 0 m)) (replicate n 0) i (rw e h) ∙ map_at f 0 m i h ∙ rw z

-- numbers of the indices that are indices are below 16, and so is 0 behind them
padded-low : (f : ℕ → ℕ) (m : ℕ) → m ≤ 16 → ((i : ℕ) → i < m → f i < m) → (h : ℕ)
    → get_or (padded 16 (map f (up_from 0 m))) h 0 < 16
padded-low f m few low h =
    let e : length (map f (up_from 0 m)) ≡ m = length-map (up_from 0 m) f ∙ length-up_from 0 m in
    ⊎_elim (λ (l : h < m). omega (arith, padded-at f 16 m h l, low h l))
    (λ (l : m ≤ h). omega (arith, front-behind (map f (up_from 0 m)) (replicate 16 0) h (omega arith), zero-at 16 h))
    (before_or_not h m)
  where
    zero-at : (n h : ℕ) → ◌≡◌ {A = ℕ} (get_or (replicate n 0) h 0) 0
    zero-at zero h = refl
    zero-at (suc n) zero = refl
    zero-at (suc n) (suc h) = zero-at n h

-- the struct that is made of an accepted grid stands for it
pub shape_of : (g : Grid) → length g.divisions ≡ num_blocks g → shape (grid_of g) ≡ g
unfolding grid_of
shape_of g e =
    let s : take (num_blocks g) (padded 6 g.sizes) ≡ g.sizes = front_taken g.sizes (replicate 6 0) in
    let d : take (num_blocks g) (padded 6 g.divisions) ≡ g.divisions =
    rw (← e) (front_taken g.divisions (replicate 6 0)) in
    rw (s, d)

pub is_made : (g : Grid) → first_no (grid_questions g) ≡ 0 → IsMade (grid_of g)
is_made g e =
    let h : shape (grid_of g) ≡ g = shape_of g (accepted g e).same_number in
    record { accepted = ap (λ z. first_no (grid_questions z)) h ∙ e; made = ap grid_of (sym h) }

-- what the constructor answers
module _ (g : Grid) (r : Made) (is : r ≡ made_of g) where
  pub made_code : r.code ≡ first_no (grid_questions g)
  unfolding made_of
  made_code = ap (λ z. z.code) is

  pub made-grid : r.code ≡ 0 → r.grid ≡ grid_of g
  unfolding made_of
  made-grid e = ap (λ z. z.grid) is ∙ rw (eq-eqb (first_no (grid_questions g)) 0 (sym made_code ∙ e))

  pub made-shape : r.code ≡ 0 → shape r.grid ≡ g
  made-shape e = ap shape (made-grid e) ∙ shape_of g (accepted g (sym made_code ∙ e)).same_number

  pub made-is : r.code ≡ 0 → IsMade r.grid
  made-is e = rw (made-grid e) (is_made g (sym made_code ∙ e))

-- the fields of a made struct
module _ (s : GridStruct) (m : IsMade s) where
  pub made-accepted : Accepted (shape s)
  made-accepted = accepted (shape s) m.accepted

  pub made-blocks : s.blocks ≡ num_blocks (shape s)
  unfolding grid_of
  made-blocks = ap (λ z. z.blocks) m.made

  pub made-indices : s.indices ≡ num_indices (shape s)
  unfolding grid_of
  made-indices = ap (λ z. z.indices) m.made

  pub made-points : s.points ≡ num_points (shape s)
  unfolding grid_of
  made-points = ap (λ z. z.points) m.made

  pub made-size : (j : ℕ) → j < s.blocks → get_or s.sizes j 0 ≡ size (shape s) j
  made-size j h = sym (get_or-take s.blocks s.sizes j 0 h)

  pub made-division : (j : ℕ) → j < s.blocks → get_or s.divisions j 0 ≡ division (shape s) j
  made-division j h = sym (get_or-take s.blocks s.divisions j 0 h)

  pub made-first : (j : ℕ) → j < s.blocks → get_or s.firsts j 0 ≡ first_index (shape s) j
  unfolding grid_of
  made-first j h = ap (λ z. get_or z.firsts j 0) m.made
      ∙ padded-at (first_index (shape s)) 6 (num_blocks (shape s)) j (omega (arith, made-blocks))

  pub made-count : (j : ℕ) → j < s.blocks → get_or s.counts j 0 ≡ block_count (shape s) j
  unfolding grid_of
  made-count j h = ap (λ z. get_or z.counts j 0) m.made
      ∙ padded-at (block_count (shape s)) 6 (num_blocks (shape s)) j (omega (arith, made-blocks))

  pub made-block : (h : ℕ) → h < s.indices → get_or s.block h 0 ≡ block_of (shape s) h
  unfolding grid_of
  made-block h l = ap (λ z. get_or z.block h 0) m.made
      ∙ padded-at (block_of (shape s)) 16 (num_indices (shape s)) h (omega (arith, made-indices))

  pub made-previous : (h : ℕ) → h < s.indices → get_or s.previous h 0 ≡ previous (shape s) h
  unfolding grid_of
  made-previous h l = ap (λ z. get_or z.previous h 0) m.made
      ∙ padded-at (previous (shape s)) 16 (num_indices (shape s)) h (omega (arith, made-indices))

  pub made-next : (h : ℕ) → h < s.indices → get_or s.next h 0 ≡ next (shape s) h
  unfolding grid_of
  made-next h l = ap (λ z. get_or z.next h 0) m.made
      ∙ padded-at (next (shape s)) 16 (num_indices (shape s)) h (omega (arith, made-indices))

  -- their ranges
  pub blocks-range : (1 ≤ s.blocks) × (s.blocks ≤ 6)
  blocks-range =
      let a = made-accepted in
      (omega (arith, made-blocks, a.some_block), omega (arith, made-blocks, a.few_blocks))

  pub indices-few : s.indices ≤ 16
  indices-few = omega (arith, made-indices, made-accepted.few_indices)

  pub points-few : s.points ≤ 60000
  points-few = omega (arith, made-points, made-accepted.few_points)

  pub size-range : (j : ℕ) → j < s.blocks → (2 ≤ size (shape s) j) × (size (shape s) j ≤ 16)
  size-range j h = size-two (shape s) made-accepted j (omega (arith, made-blocks))

  pub count-range : (j : ℕ) → j < s.blocks → block_count (shape s) j ≤ 60000
  count-range j h = count-few (shape s) made-accepted j (omega (arith, made-blocks))

  pub division-range : (j : ℕ) → j < s.blocks → (1 ≤ division (shape s) j) × (division (shape s) j ≤ 59999)
  division-range j h =
      let d = division (shape s) j in
      let n = pred (size (shape s) j) in (
        leb-true 1 d (at_all (λ d. leb 1 d) (shape s).divisions j made-accepted.divisions_one
            (omega (arith, made-blocks, made-accepted.same_number))),
        omega (
          arith,
          choose_one d,
          choose-grows d d 1 n (omega arith) (omega (arith, (size-range j h).0)),
          count-range j h,
        ),
      )

  pub previous-low : (h : ℕ) → get_or s.previous h 0 < 16
  unfolding grid_of
  previous-low h = rw (ap (λ z. get_or z.previous h 0) m.made)
      (padded-low (previous (shape s)) (num_indices (shape s)) made-accepted.few_indices
      (λ i l. (next-previous (shape s) i l).1) h)

  pub following_low : (h : ℕ) → get_or s.next h 0 < 16
  unfolding grid_of
  following_low h =
      rw (ap (λ z. get_or z.next h 0) m.made)
      (padded-low (next (shape s)) (num_indices (shape s)) made-accepted.few_indices (next_low (shape s)) h)
