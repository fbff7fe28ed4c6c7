-- The arrays of a grid that was made, and of a game's labels. Assumes nothing.
use mathlib.Core.List.{List}
use mathlib.Core.Path.{◌≡◌, sym, ◌∙◌, subst}
use Prim.Native.Nat.{ℕ, ◌+◌, ◌*◌, ◌≤◌, ◌<◌}
use lib.ListN.{length, get_or, length-append, length-map, take, drop, replicate, length-replicate}
use native.Mathlib.Omega.{arith}
use Rattle.combinatorics.proofs.Fronts.{front_length, front_taken}
use Rattle.combinatorics.proofs.Ranges.{length-up_from}
use Rattle.combinatorics.proofs.Turns.{map_at}
use Rattle.combinatorics.specs.Front.{front, padded}
use Rattle.end_kinds.specs.declared.Kind.{Kind}
use Rattle.grid_points.proofs.Accepted.{blocks-few}
use Rattle.grid.proofs.Fields.{made-accepted, made-blocks, made-indices, division-range, indices-few}
use Rattle.grid_points.proofs.Round.{block_spans}
use Rattle.grid_points.specs.Grid.{division, block_of, bound, num_indices, indices}
use Rattle.grid.specs.Made.{shape, IsMade}
use Rattle.grid.specs.declared.Grid.{Grid as GridStruct}
use Rattle.sheet_lines.specs.Answer.{rows, Printable}
use Rattle.sheet_lines.specs.Sheet.{end_sheet}
use Rattle.printer.specs.Printed.{index_divisions}
use Rattle.printer.specs.Run.{Prints}

-- what a call has printed, by an equal sheet
pub same-sheet : {sheet printed new : List ℕ} {n : ℕ} (old : List ℕ) → sheet ≡ printed → Prints sheet old n new
    → Prints printed old n new
same-sheet {new = new} {n = n} old e = subst (λ (s : List ℕ). Prints s old n new) e

-- as the sheet's functions say it
pub as_prints : {sheet old new : List ℕ} {n : ℕ} → (n ≡ length sheet) × (new ≡ front sheet old) → Prints sheet old n new
as_prints e = record { counted = e.0; stands = e.1 }

-- what was printed lies in the buffer
pub sheet-inside : (sheet old : List ℕ) → length sheet ≤ length (front sheet old)
unfolding front
sheet-inside sheet old = omega (arith, length-append sheet (drop (length sheet) old))

-- room in an array of zeros
pub zeros-room : (n k : ℕ) → k ≤ n → k ≤ length (replicate {A = ℕ} n 0)
zeros-room n k h = omega (arith, length-replicate {A = ℕ} n 0)

module _ (g : GridStruct) (made : IsMade g) where
  length-index_divisions : length (index_divisions (shape g)) ≡ g.indices
  length-index_divisions = length-map (indices (shape g)) (λ h. division (shape g) (block_of (shape g) h))
      ∙ length-up_from 0 (num_indices (shape g))
      ∙ sym (made-indices g made)

  positive : (h : ℕ) → h < g.indices → 1 ≤ get_or (index_divisions (shape g)) h 0
  positive h l =
      let b = (block_spans (shape g).sizes h (omega (arith, made-indices g made))).0 in
      let z : 0 + h ≡ h = omega arith in
      rw (
        map_at
            (λ h. division (shape g) (block_of (shape g) h))
            0 (num_indices (shape g)) h (omega (arith, made-indices g made)),
        z,
      ) (division-range g made (block_of (shape g) h) (omega (arith, b, made-blocks g made))).0

  -- those of the indices in theirs
  module _ (array : List ℕ) (is : array ≡ padded 16 (index_divisions (shape g))) where
    pub divisions-room : g.indices ≤ length array
    divisions-room =
        let few = indices-few g made in
        rw is (omega (
          arith,
          few,
          front_length (index_divisions (shape g)) (replicate 16 0) (omega (arith, few, length-index_divisions)),
        ))

    pub divisions_taken : take g.indices array ≡ index_divisions (shape g)
    divisions_taken = rw (is, ← length-index_divisions) (front_taken (index_divisions (shape g)) (replicate 16 0))

    -- an answer that fits can be printed, and what is printed is its sheet
    module _ (vertices : ℕ) (buffer : List ℕ) where
      pub printable : (1 ≤ vertices) × (vertices ≤ 16) × (vertices * num_indices (shape g) ≤ length buffer)
          → Printable vertices buffer (take g.indices array)
      printable f =
          let n = length-index_divisions in
          let m = made-indices g made in
          rw divisions_taken (record {
            some-vertex = f.0;
            vertices = f.1;
            some-index =
                omega (arith, n, m, blocks-few (shape g) (made-accepted g made), (made-accepted g made).some_block);
            indices = omega (arith, n, indices-few g made);
            positive = λ h l. positive h (omega (arith, n));
            whole = rw (n, m) f.2;
          })

      pub end-printed : (places read b block : ℕ) (kind : Kind) → b ≡ bound (shape g)
          → end_sheet places read b kind block (rows vertices (length (take g.indices array)) buffer)
          (take g.indices array)
          ≡ end_sheet places read (bound (shape g)) kind block (rows vertices (num_indices (shape g)) buffer)
          (index_divisions (shape g))
      end-printed places read b block kind e =
          rw (e, divisions_taken, length-index_divisions, made-indices g made)
