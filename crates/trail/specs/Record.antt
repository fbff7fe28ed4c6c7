-- Request 03: a record's bytes, and the trail of a list of places. Assumes nothing.
use Rattle.std.specs.Prelude.{List, [], ◌∷◌, ◌++◌, map, ℕ, suc, ◌+◌, ◌*◌, ◌/◌, ◌%◌}
use Rattle.combinatorics.specs.Lists.{concat_map}
use Rattle.grid_points.specs.Grid.{position}
use Rattle.place.specs.Places.{Simplex}
use Rattle.place.specs.Problem.{Problem}
use Rattle.trail.specs.Change.{Change, change, rules, ByRule, rule1, rule2, rule3, rule4, rule5, rule6, rule7}

-- "table positions, 16 bits"; document 01, "multi-byte fields little-endian"
abbrev pub bytes16 : ℕ → List ℕ
bytes16 n = n % 256 ∷ n / 256 ∷ []

-- "0 point come in, 1 point gone out (table positions, 16 bits), 2 index into T, 3 out of T, 4 into U, 5 out of U, 6
-- rule (a byte each)": the bytes of each field, in bit order; a field whose bit does not stand has none. Indices count
-- from 1.
abbrev pub fields : Change → List (List ℕ)
fields c =
    concat_map bytes16 c.points_in
    ∷ concat_map bytes16 c.points_out
    ∷ map suc c.into_t
    ∷ map suc c.out_of_t
    ∷ map suc c.into_u
    ∷ map suc c.out_of_u
    ∷ rules c
    ∷ []

-- "a bit map byte": bit 0, that of the first field, has value 1
abbrev pub bit_map : List (List ℕ) → ℕ
bit_map [] = 0
bit_map ([] ∷ fs) = 2 * bit_map fs
bit_map ((x ∷ xs) ∷ fs) = 1 + 2 * bit_map fs

-- "a bit map byte first and then only the fields whose bit stands, in bit order"
abbrev pub encoded : List (List ℕ) → List ℕ
encoded fs = bit_map fs ∷ concat_map (λ f. f) fs

-- "one record per place": that of place b, reached from place a
unfoldable pub record_of : Problem → Simplex → Simplex → List ℕ
record_of p a b = encoded (fields (change p a b))

-- "{v} has bit 0 only"
unfoldable pub start_record : Problem → List ℕ
start_record p = encoded (bytes16 (position p.grid p.start) ∷ [])

-- the records of the places that follow a
abbrev pub records_from : Problem → Simplex → List Simplex → List ℕ
records_from p a [] = []
records_from p a (b ∷ s) = record_of p a b ++ records_from p b s

-- "A run can write a trail": that of a list of places, the first of which is {v}
unfoldable pub trail_of : Problem → List Simplex → List ℕ
trail_of p [] = []
trail_of p (a ∷ s) = start_record p ++ records_from p a s

-- the records of the seven rules, written out
abbrev pub record_by : {c : Change} {r : ℕ} → ByRule c r → List ℕ
record_by (rule1 y z e) = 67 ∷ bytes16 y ++ bytes16 z ++ (1 ∷ [])
record_by (rule2 y z h e) = 83 ∷ bytes16 y ++ bytes16 z ++ (suc h ∷ 2 ∷ [])
record_by (rule3 y z h e) = 99 ∷ bytes16 y ++ bytes16 z ++ (suc h ∷ 3 ∷ [])
record_by (rule4 y h e) = 69 ∷ bytes16 y ++ (suc h ∷ 4 ∷ [])
record_by (rule5 y h e) = 101 ∷ bytes16 y ++ (suc h ∷ suc h ∷ 5 ∷ [])
record_by (rule6 z h e) = 90 ∷ bytes16 z ++ (suc h ∷ suc h ∷ 6 ∷ [])
record_by (rule7 z h e) = 74 ∷ bytes16 z ++ (suc h ∷ 7 ∷ [])
