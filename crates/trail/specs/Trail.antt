-- Request 03: what a reader rebuilds from a trail. Assumes nothing.
use Rattle.std.specs.Prelude.{Bool, true, false, not, ◌&&◌, cond, List, [], ◌∷◌, map, ℕ, zero, suc, eqb, leb, length, drop}
use Rattle.std.proofs.Math.Option.{Option, none, some}
use Rattle.combinatorics.specs.Lists.{filter, sublists, up_from}
use Rattle.grid_points.specs.Grid.{points}
use Rattle.place.specs.LabelsRead.{labels_read}
use Rattle.place.specs.Places.{Simplex, set_t, set_u, is_unlabelled_place, in_order}
use Rattle.place.specs.Problem.{Problem}
use Rattle.trail.specs.Change.{change, rules, empty, single}
use Rattle.trail.specs.Record.{record_of, start_record}

-- One point comes in, one goes out, or both: a record has room for one of each, and must not "change no point". The
-- record does not "break the first two conditions of a place", nor "change T and U otherwise than one of the seven
-- rules alone does".
unfoldable pub is_move : Problem → Simplex → Simplex → Bool
is_move p a b =
    let c = change p a b in
    is_unlabelled_place p b && leb (length c.points_in) 1 && leb (length c.points_out) 1
    && not (empty c.points_in && empty c.points_out) && single (rules c)

-- the bytes begin with those of a record
abbrev pub begins : List ℕ → List ℕ → Bool
begins [] bytes = true
begins (x ∷ r) [] = false
begins (x ∷ r) (y ∷ bytes) = eqb x y && begins r bytes

-- of all sets of grid points, those that meet "the first two conditions of a place"
unfoldable pub unlabelled_places : Problem → List Simplex
unlabelled_places p = filter (is_unlabelled_place p) (sublists (in_order p (points p.grid)))

-- The places that the record at the front of the bytes leads to. Its bytes are those of the change, so a point that it
-- brings in is on the table and not "already there", one that it takes out is there, it has not "bit 7 set or fields
-- other than the change just made and its rule", and it is not cut short.
unfoldable pub read_on : Problem → Simplex → List ℕ → List Simplex
read_on p a bytes = filter (λ b. is_move p a b && begins (record_of p a b) bytes) (unlabelled_places p)

-- the place to which n records lead from a place, if they are in order
abbrev pub go_on : (Simplex → Option Simplex) → List Simplex → Option Simplex
go_on rest [] = none
go_on rest (b ∷ bs) = rest b

abbrev pub rebuilt_from : Problem → ℕ → Simplex → List ℕ → Option Simplex
rebuilt_from p zero a bytes = some a
rebuilt_from p (suc n) a bytes = go_on (λ b. rebuilt_from p n b (drop (length (record_of p a b)) bytes)) (read_on p a bytes)

-- "A reader given grid, start, trail and a record's number, counted from 1, .. rebuilds the place at that record",
-- unless "there is no such record, or .. the records up to it do not begin with v's". The table of the problem is not
-- looked at.
unfoldable pub rebuilt : Problem → List ℕ → ℕ → Option Simplex
rebuilt p bytes zero = none
rebuilt p bytes (suc n) =
    let place = rebuilt_from p n (p.start ∷ []) (drop (length (start_record p)) bytes) in
    cond (begins (start_record p) bytes) place none

abbrev pub place_in : Option Simplex → Simplex
place_in none = []
place_in (some s) = s

-- the places that records lead to from a place, that place first and n behind it; and those of "a rebuilt trail" up to
-- a record's number
unfoldable pub places_from : Problem → ℕ → Simplex → List ℕ → List Simplex
places_from p n a bytes = map (λ i. place_in (rebuilt_from p i a bytes)) (up_from 0 (suc n))

unfoldable pub rebuilt_places : Problem → List ℕ → ℕ → List Simplex
rebuilt_places p bytes number = map (λ i. place_in (rebuilt p bytes (suc i))) (up_from 0 number)

-- the reader's answer behind questions 1 to 5: the labels read up to the record, the place's points in rising
-- coefficient sum, T and U; or 17
pub data Reading : Type 0 where
  no_record : Reading
  placed : (read : ℕ) (points : Simplex) (T U : List ℕ) → Reading

abbrev pub reading_of : Problem → ℕ → Option Simplex → Reading
reading_of p read none = no_record
reading_of p read (some s) = placed read s (set_t p s) (set_u p.grid s)

-- Request 10: "a rebuilt trail of the same path" gives the labels read, those of the places rebuilt
unfoldable pub reading : Problem → List ℕ → ℕ → Reading
reading p bytes number = reading_of p (labels_read (rebuilt_places p bytes number)) (rebuilt p bytes number)
