-- The pieces of the recogniser together: where each is passed the conditions of a place are met, its labels apart, and
-- where one fails they are not. In order: a failure; the masks; the sources of the steps; all passed. Assumes nothing.
use mathlib.Core.Bool.{true, false, not, ◌&&◌}
use mathlib.Core.List.{List, []}
use mathlib.Core.Path.{◌≡◌, refl, sym, ap, ◌∙◌}
use Prim.Native.Nat.{ℕ, ◌+◌, ◌-◌, ◌≤◌, ◌<◌}
use borrow.Author.Tests.{eqb-true, eq-eqb, ltb-true, lt-ltb, not-true}
use Rattle.std.proofs.Common.{Option, Some, None}
use lib.Dec.{eqb, ltb}
use lib.ListN.{length, take, length-take}
use lib.Seq.{get_or-take}
use native.Mathlib.Omega.{arith}
use Rattle.combinatorics.proofs.Basics.{absurd_bool, and_both, and_left, and_right, both, false_of}
use Rattle.combinatorics.proofs.Lists.{all_in, in_all, on_numbers}
use Rattle.combinatorics.proofs.Ranges.{in_up_from, up_from_in}
use Rattle.combinatorics.specs.Lists.{is_in}
use Rattle.geometry.proofs.Definitions.{back}
use Rattle.geometry.proofs.Search.{block_back}
use Rattle.grid.proofs.Fields.{made-accepted, made-blocks, made-indices, made-next}
use Rattle.grid_points.proofs.Round.{block_at, block-fits, block_spans}
use Rattle.grid_points.specs.Grid.{Point, at, block_of, first_index, is_grid_point, num_indices, size}
use Rattle.grid.specs.Made.{IsMade, shape}
use Rattle.grid.specs.declared.Grid.{Grid as GridStruct}
use Rattle.arrays.specs.declared.holding.Held.{Held}
use Rattle.place.specs.Coefficients.{coefficients}
use Rattle.place.specs.Places.{first_back_outside}
use Rattle.place.specs.Problem.{Problem, with_labels}
use Rattle.path_laws.proofs.BlocksOfGrid.{back_below, before_same, blocks_of, outside-before}
use Rattle.path_laws.proofs.Filled.{FullyLabelled}
use Rattle.path_laws.proofs.Meaning.{free_means}
use Rattle.path_laws.proofs.Positions.{at-distinct, at_in, in_at, same_at}
use Rattle.rules.proofs.WaysRound.{back-outside, block_same}
use Rattle.rules.specs.Mask.{bit}
use Rattle.rules.specs.Ready.{IsRound}
use Rattle.rules.specs.Moves.{source as source_by}
use Rattle.rules.specs.declared.Round.{Round}
use Rattle.trail.proofs.Tables.{table, table_full}
use Rattle.walks.proofs.KeptPlace.{conditions_of, is_zero, zero_is}
use Rattle.walks.proofs.Recognised.{of_conditions}
use Rattle.walks.specs.Kept.{can_step, is_kept, zero_outside}
use Rattle.walk_recogniser.proofs.Following.{has-start-on}
use Rattle.walk_recogniser.specs.Kept.{CanRecognise, Recognised, Seen}
use Rattle.walk_recogniser.specs.Pieces.{AllFree, AreMarks, AreTandU, CanMark, NoSets, NotFree, bare_mark, beyond}
use Rattle.walk_recogniser.specs.Pieces.{filled, in_neither, positive, started_on, twice}
use Rattle.walk_recogniser.specs.declared.Sets.{Sets}

module _ {g : GridStruct} {binomials start : List ℕ} {round : Round} {n : ℕ}
    (C : CanRecognise g binomials start round n) (held : Held) where
  abbrev p : Problem
  p = started_on g start

  abbrev y : Point
  y = take g.indices held.first

  abbrev o : List ℕ
  o = take n held.order

  abbrev u : List ℕ
  u = zero_outside (shape g) o y

  made : IsMade g
  made = C.measured.made

  m_is : g.indices ≡ num_indices (shape g)
  m_is = made-indices g made

  few : num_indices (shape g) ≤ 16
  few = (made-accepted g made).few_indices

  -- some table without gaps, for the ways round the blocks
  abbrev q : Problem
  q = with_labels p (table (shape g) [] [])

  full : FullyLabelled q
  full = table_full (has-start-on g made p refl C.start_on) [] refl refl [] refl (λ l m. absurd_bool (sym m))

  long-o : length o ≡ n
  long-o = length-take n held.order ∙ omega (arith, held.order_long, C.few)

  at-o : (j : ℕ) → j < n → at o j ≡ at held.order j
  at-o j l = get_or-take n held.order j 0 l

  -- a failure
  pub off_grid : is_grid_point (shape g) y ≡ false → is_kept p y o ≡ false
  off_grid e = false_of _ (λ h. absurd_bool (sym (conditions_of p y o h).on_grid ∙ e))

  pub no_sets : NoSets held.order n g.indices → is_kept p y o ≡ false
  no_sets (beyond j l b) = false_of _ (λ h.
      let w = ltb-true (at o j) _ (all_in on_numbers (λ h. ltb h (num_indices (shape g))) o (conditions_of p y o h).below
      (at o j) (at_in on_numbers 0 o j (omega (arith, long-o)))) in
      omega (arith, w, at-o j l, m_is))
  no_sets (twice i j a l e) = false_of _ (λ h.
      let w = same_at on_numbers 0 o (conditions_of p y o h).different i j (omega (arith, long-o))
      (omega (arith, long-o)) (at-o i (omega arith) ∙ e ∙ sym (at-o j l)) in
      omega (arith, w))

  pub cannot_step : can_step (shape g) u y o ≡ false → is_kept p y o ≡ false
  cannot_step e = false_of _ (λ h. absurd_bool (sym (conditions_of p y o h).can ∙ e))

  -- the masks
  module _ {zeros t v : ℕ} (S : AreTandU held.order n g.indices zeros t v)
      (Z : (k : ℕ) → k < 16 → bit zeros k ≡ (ltb k g.indices && eqb (at held.first k) 0)) where
    pub in_T : (k : ℕ) → k < 16 → bit t k ≡ is_in eqb k o
    in_T k l = both (bit t k) (is_in eqb k o)
        (λ e. let w = S.only k l e in rw (at-o w.0 w.1 ∙ w.2) at
        (at_in on_numbers 0 o w.0 (omega (arith, w.1, long-o))))
        (λ e. let w = in_at on_numbers 0 k o e in let jl : w.0 < n = omega (arith, w.1, long-o) in
        rw (sym (at-o w.0 jl) ∙ w.2) at (S.has w.0 jl))

    pub in_U : (k : ℕ) → k < 16 → bit v k ≡ is_in eqb k u
    in_U k l = S.rest k l ∙ rw (Z k l, in_T k l)
        (both (ltb k g.indices && eqb (at held.first k) 0 && not (is_in eqb k o)) (is_in eqb k u)
        (λ e. let a = ltb k g.indices in let b = eqb (at held.first k) 0 in let d = not (is_in eqb k o) in
        let ab = and_left (a && b) d e in
        let kl = ltb-true k g.indices (and_left a b ab) in
        is_zero p o y k (omega (arith, kl, m_is)) (get_or-take g.indices held.first k 0 kl ∙ eqb-true _ 0
        (and_right a b ab)) (not-true _ (and_right (a && b) d e)))
        (λ e. let w = zero_is p o y k e in
        let kl : k < g.indices = omega (arith, w.0, m_is) in
        and_both _ _ (and_both _ _ (lt-ltb k g.indices kl)
        (eq-eqb (at held.first k) 0 (sym (get_or-take g.indices held.first k 0 kl) ∙ w.1))) (rw w.2)))

    free-index : (k : ℕ) → k < g.indices → in_neither t v k → (is_in eqb k o ≡ false) × (is_in eqb k u ≡ false)
    free-index k l w = (sym (in_T k (omega (arith, few, m_is))) ∙ w.0, sym (in_U k (omega (arith, few, m_is))) ∙ w.1)

    pub not_free : {list : List ℕ} → ((k : ℕ) → k < g.indices → at list k ≡ at (coefficients (started_on g start) y) k)
        → NotFree g list t v → is_kept p y o ≡ false
    not_free L (filled j l none) = false_of _ (λ h.
        let f = (free_means p [] o u).0 (conditions_of p y o h).free j (omega (arith, made-blocks g made)) in
        let r = up_from_in (first_index (shape g) j) (size (shape g) j) f.0 f.1 in
        let i = f.0 - first_index (shape g) j in
        let z : f.0 ≡ first_index (shape g) j + i = omega (arith, r.0) in
        let low : f.0 < g.indices = omega (arith, r.1, block-fits (shape g).sizes j, m_is) in
        none (record {
          index = f.0;
          below = low;
          block = ap (block_of (shape g)) z ∙ block_at (shape g).sizes j i (omega (arith, r.0, r.1));
          free = (in_T f.0 (omega (arith, few, m_is)) ∙ f.2, in_U f.0 (omega (arith, few, m_is)) ∙ f.3);
        }))
    not_free L (positive k l w c) = false_of _ (λ h.
        let f = free-index k l w in
        omega (arith, c, L k l, (conditions_of p y o h).zero k (omega (arith, m_is)) f.0 f.1))

    -- each step takes from document 01's b
    module _ (F : AllFree g held.coefficients t v) where
      -- with the ways on that the grid has
      is-round : IsRound (shape g) (record { previous = round.previous; next = g.next; sizes = round.sizes })
      is-round = record {
        backward = C.backward;
        forward = λ h l. made-next g made h (omega (arith, m_is));
        size = C.block_sizes;
      }

      source : (j : ℕ) → j < n → (source_by round v (at held.order j) ≡ first_back_outside (shape g) u
          (at held.order j))
          × (source_by round v (at held.order j) < g.indices) ×
          (block_of (shape g) (source_by round v (at held.order j)) ≡ block_of (shape g) (at held.order j))
      source j l =
          let h = at held.order j in
          let hl : h < num_indices (shape g) = omega (arith, S.below j l, m_is) in
          let f = F.each (block_of (shape g) h) (omega
          (arith, (block_spans (shape g).sizes h hl).0, made-blocks g made)) in
          let fl : f.index < num_indices (shape g) = omega (arith, f.below, m_is) in
          let same_block : (blocks_of q).block f.index ≡ (blocks_of q).block h = block_same q f.index fl ∙ f.block ∙ sym
          (block_same q h hl) in
          let other : (f.index ≡ h → ⊥) = λ e. absurd_bool (sym (S.has j l) ∙ (rw e at f.free.0)) in
          let free = free-index f.index f.below f.free in
          let a = outside-before q u h f.index hl same_block other free.1 in
          let b = back-outside full is-round v in_U h f.index hl same_block free.1 in
          let e : source_by round v h ≡ first_back_outside (shape g) u h = b.3 ∙ ap
          (λ (i : ℕ). back (blocks_of q).previous i h) (before_same b.2 a.1) ∙ sym a.2 in
          let low : source_by round v h < num_indices (shape g) = rw b.3 (back_below q b.0 h hl) in (
            e,
            omega (arith, low, m_is),
            sym (block_same q _ low) ∙ rw b.3 (block_back (blocks_of q) b.0 h) ∙
                block_same q h hl,
          )

      pub can-mark : is_grid_point (shape g) y ≡ true → CanMark g (source_by round v) held n
      can-mark on = record {
        few = C.few;
        on_grid = on;
        below = S.below;
        sources = λ j l. (source j l).0;
        in_block = λ j l. (source j l).2;
        sources_below = λ j l. (source j l).1;
      }

      -- all passed
      pub all_seen : is_grid_point (shape g) y ≡ true → length held.coefficients ≡ 16 →
          ((k : ℕ) → k < g.indices → at held.coefficients k ≡ at (coefficients (started_on g start) y) k)
          → {new : Held} → new.coefficients ≡ held.coefficients → AreMarks g held n new.marks
          → Seen p (bare_mark (shape g)) y o new t v
      all_seen on long L same M = record {
        kept = of_conditions p y o (record {
          on_grid = on;
          below = in_all on_numbers _ o (λ k e. let w = in_at on_numbers 0 k o e in
              let jl : w.0 < n = omega (arith, w.1, long-o) in
              lt-ltb k _ (omega (arith, S.below w.0 jl, at-o w.0 jl, w.2, m_is)));
          different = at-distinct on_numbers 0 o (λ i j a b e. let il : i < n = omega (arith, long-o) in
              let jl : j < n = omega (arith, long-o) in
              S.once i j il jl (sym (at-o i il) ∙ e ∙ at-o j jl));
          free = (free_means p [] o u).1 (λ j l. let f = F.each j (omega (arith, made-blocks g made)) in
              let w = block_spans (shape g).sizes f.index (omega (arith, f.below, m_is)) in (
                f.index,
                in_up_from (first_index (shape g) j) (size (shape g) j) f.index (rw f.block at w.1) (rw f.block at w.2),
                (free-index f.index f.below f.free).0,
                (free-index f.index f.below f.free).1,
              ));
          zero = λ k l a b. let kl : k < g.indices = omega (arith, m_is) in
              sym (L k kl) ∙ F.zero k kl (in_T k (omega (arith, few)) ∙ a, in_U k (omega (arith, few)) ∙ b);
          can = M.can;
        });
        in_t = in_T;
        in_u = in_U;
        list_long = rw same long;
        list_at = λ k l. rw same (L k (omega (arith, m_is)));
        marks_long = M.long;
        marked = λ j l. M.each j (omega (arith, long-o));
      }

-- whatever the label table
pub with_table : (g : GridStruct) (start labels : List ℕ) (marking : Point → ℕ) (y : Point) (o : List ℕ) (held : Held)
    (r : Option Sets)
    → Recognised (started_on g start) marking y o held r → Recognised (with_labels (started_on g start) labels)
    marking y o held r
unfolding is_kept coefficients
with_table g start labels marking _ _ held None e = e
with_table g start labels marking _ _ held (Some sets) S = record {
  kept = S.kept;
  in_t = S.in_t;
  in_u = S.in_u;
  list_long = S.list_long;
  list_at = S.list_at;
  marks_long = S.marks_long;
  marked = S.marked;
}
