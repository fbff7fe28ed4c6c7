-- What changes by a move, as numbers with a map. Assumes nothing.
use Rattle.std.specs.Prelude.{cond, List, [], ◌∷◌, map, ℕ, suc, eqb, replicate}
use Rattle.combinatorics.specs.Lists.{first_or}
use Rattle.trail_records.specs.Records.{differing}
use Rattle.rules.specs.Moves.{mark_position}
use Rattle.trail.specs.Change.{Change, outside}
use Rattle.trail.specs.Record.{bit_map}
use Rattle.walk_preview.specs.declared.Change.{Change as ChangeStruct}

-- "0 point come in, 1 point gone out (table positions ..), 2 index into T, 3 out of T, 4 into U, 5 out of U", the
-- indices from 1: a field that is not there is empty
abbrev pub six_fields : Change → List (List ℕ)
six_fields c = c.points_in ∷ c.points_out ∷ map suc c.into_t ∷ map suc c.out_of_t ∷ map suc c.into_u
    ∷ map suc c.out_of_u ∷ []

-- each "there or absent": a bit of the map for each field, as the record has it, and the field's number, 0 where it
-- is absent
abbrev pub changed_of : Change → ChangeStruct
changed_of c = record { map = bit_map (six_fields c); fields = map (first_or 0) (six_fields c) }

abbrev pub no_change : ChangeStruct
no_change = record { map = 0; fields = replicate 6 0 }

-- the position in the first mark of a list that is not in another
abbrev pub other_in : List ℕ → List ℕ → ℕ
other_in marks others = mark_position (first_or 0 (outside eqb others marks))

-- the first index at which T differs, or else U, as masks
abbrev pub index_from : ℕ → ℕ → ℕ → ℕ → ℕ
index_from T U T' U' = cond (eqb (differing T T') 16) (differing U U') (differing T T')

abbrev pub fields_by : ℕ → List ℕ → ChangeStruct
fields_by m xs = record { map = m; fields = xs }

-- the fields of each rule
abbrev pub change_for : ℕ → ℕ → ℕ → ℕ → ChangeStruct
change_for rule come gone h =
    cond (eqb rule 1) (fields_by 3 (come ∷ gone ∷ 0 ∷ 0 ∷ 0 ∷ 0 ∷ []))
    (cond (eqb rule 2) (fields_by 19 (come ∷ gone ∷ 0 ∷ 0 ∷ h ∷ 0 ∷ []))
    (cond (eqb rule 3) (fields_by 35 (come ∷ gone ∷ 0 ∷ 0 ∷ 0 ∷ h ∷ []))
    (cond (eqb rule 4) (fields_by 5 (come ∷ 0 ∷ h ∷ 0 ∷ 0 ∷ 0 ∷ []))
    (cond (eqb rule 5) (fields_by 37 (come ∷ 0 ∷ h ∷ 0 ∷ 0 ∷ h ∷ []))
    (cond (eqb rule 6) (fields_by 26 (0 ∷ gone ∷ 0 ∷ h ∷ h ∷ 0 ∷ []))
    (cond (eqb rule 7) (fields_by 10 (0 ∷ gone ∷ 0 ∷ h ∷ 0 ∷ 0 ∷ []))
    no_change))))))
