-- The vertices of an answer as the answer buffer holds them. Assumes nothing.
use Rattle.std.specs.Prelude.{List, map, ℕ, ◌*◌, ◌≤◌, ◌<◌, length, get_or, take, drop}
use Rattle.combinatorics.specs.Lists.{up_from}

-- "the vertices in rising coefficient sum, m 16-bit numbers each, at the front of the answer buffer": vertex k, counted
-- from 0, begins at k times m
abbrev pub rows : ℕ → ℕ → List ℕ → List (List ℕ)
rows count m buffer = map (λ k. take m (drop (k * m) buffer)) (up_from 0 count)

-- An answer that the sheet has room for: 1 to 16 vertices, 1 to 16 indices, a division of at least 1 for each index,
-- and all vertices in the buffer.
pub record Printable (count : ℕ) (buffer divisions : List ℕ) : Type 0 where
  pub some-vertex : 1 ≤ count
  pub vertices : count ≤ 16
  pub some-index : 1 ≤ length divisions
  pub indices : length divisions ≤ 16
  pub positive : (h : ℕ) → h < length divisions → 1 ≤ get_or divisions h 0
  pub whole : count * length divisions ≤ length buffer
