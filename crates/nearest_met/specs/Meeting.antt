-- What is noted of a vertex that is met, and what is kept of those met so far. No promise of a customer's call cites
-- it. Assumes nothing.
use Rattle.std.specs.Prelude.{cond, List, None, Option, Some, map, ◌≡◌, ℕ, ◌+◌, ◌≤◌, ◌<◌, eqb, ltb, leb, length, set}
use Rattle.arrays.specs.Lent.{LentBoth}
use Rattle.combinatorics.specs.Front.{front}
use Rattle.combinatorics.specs.Lists.{filter, is_in}
use Rattle.grid_points.specs.Grid.{Grid, Point, at, position}
use Rattle.rules.specs.Read.{point_on}
use Rattle.rules.specs.Moves.{State}
use Rattle.nearest_visited.specs.Distance.{distance}
use Rattle.nearest_visited.specs.Nearest.{first_least}
use Rattle.nearest_met.specs.declared.Tally.{Tally}

-- the point that has come in, if one has, and its position
abbrev pub point_come : Grid → State → Point
point_come g a = point_on g a a.active

abbrev pub come_by : ℕ → ℕ → Option ℕ
come_by rule position = cond (ltb rule 6) (Some position) None

abbrev pub vertex_come : Grid → State → Option ℕ
vertex_come g a = come_by a.rule (position g (point_come g a))

-- a vertex at a position and a distance is met for the first time: the list where it is within the given distance, and
-- what is kept
abbrev pub listed_in : ℕ → ℕ → ℕ → ℕ → List ℕ → List ℕ
listed_in given listed position away list = cond (leb away given) (set list listed position) list

abbrev pub listed_after : ℕ → ℕ → ℕ → ℕ
listed_after given listed away = cond (leb away given) (listed + 1) listed

abbrev pub noted : ℕ → Tally → ℕ → ℕ → Tally
noted given t position away = record {
  nearest = cond (ltb away t.least) position t.nearest;
  least = cond (ltb away t.least) away t.least;
  listed = listed_after given t.listed away;
}

-- what is kept, the marks of the vertices met and the list, after the vertex that has come in, if one has: only one not
-- met before is noted
abbrev pub tally_after : ℕ → Tally → ℕ → List ℕ → Option ℕ → Tally
tally_after given t away seen None = t
tally_after given t away seen (Some q) = cond (eqb (at seen q) 0) (noted given t q away) t

abbrev pub seen_after : List ℕ → Option ℕ → List ℕ
seen_after seen None = seen
seen_after seen (Some q) = cond (eqb (at seen q) 0) (set seen q 1) seen

abbrev pub list_after : ℕ → Tally → ℕ → List ℕ → List ℕ → Option ℕ → List ℕ
list_after given t away seen list None = list
list_after given t away seen list (Some q) = cond (eqb (at seen q) 0) (listed_in given t.listed q away list) list

-- there is room to note it
abbrev pub HasRoomToNote : ℕ → Tally → ℕ → List ℕ → List ℕ → Option ℕ → Type 0
HasRoomToNote given t away seen list None = length list ≡ length list
HasRoomToNote given t away seen list (Some q) = (q < 60000) × (at seen q ≡ 0 → away ≤ given → t.listed < length list)

pub record HasMet (given : ℕ) (t : Tally) (away : ℕ) (came : Option ℕ) (seen list : LentBoth) (r : Tally) : Type 0 where
  pub tally : r ≡ tally_after given t away seen.entry.now came
  pub marks : seen.exit.now ≡ seen_after seen.entry.now came
  pub written : list.exit.now ≡ list_after given t away seen.entry.now list.entry.now came

-- what is kept of the vertices met so far, l, in a list buffer that had the contents `old`
pub record Kept (g : Grid) (w : Point) (given : ℕ) (old : List ℕ) (l : List Point) (seen list : List ℕ)
    (t : Tally) : Type 0 where
  pub long : length seen ≡ 60000
  pub marks : (i : ℕ) → i < 60000 → at seen i ≡ cond (is_in eqb i (map (position g) l)) 1 0
  pub listed : t.listed ≡ length (filter (λ y. leb (distance g w y) given) l)
  pub written : list ≡ front (map (position g) (filter (λ y. leb (distance g w y) given) l)) old
  pub none : length l ≡ 0 → t.least ≡ 18446744073709551615
  pub nearest : 0 < length l → t.nearest ≡ position g (first_least (distance g w) l)
  pub least : 0 < length l → t.least ≡ distance g w (first_least (distance g w) l)
