-- A record's bytes by masks: T and U at the place before and at the place. A mask tells which index its set gains or
-- loses. The promises of the writer and the reader cite trail/specs; proofs/ shows that these bytes are theirs.
-- Assumes nothing.
use Rattle.std.specs.Prelude.{cond, List, [], ◌∷◌, ◌++◌, ◌≡◌, ℕ, zero, suc, ◌≤◌, ◌<◌, eqb, length, replicate}
use Rattle.std.specs.Bool.{beq}
use Rattle.combinatorics.specs.Front.{front}
use Rattle.rules.specs.Mask.{bit}
use Rattle.trail.specs.Record.{bytes16}
use Rattle.trail_records.specs.declared.Record.{Record}

-- the first index from h on at which two masks differ, after at most n that are alike
unfoldable pub differing_from : ℕ → ℕ → ℕ → ℕ → ℕ
differing_from a b zero h = h
differing_from a b (suc n) h = let later = differing_from a b n (suc h) in cond (beq (bit a h) (bit b h)) later h

-- of all; 16 where they are alike
abbrev pub differing : ℕ → ℕ → ℕ
differing a b = differing_from a b 16 0

-- T and U are kept: their masks are alike
pub record SameSets (T U T' U' : ℕ) : Type 0 where
  pub in_t : differing T T' ≡ 16
  pub in_u : differing U U' ≡ 16

abbrev pub kept_record : ℕ → ℕ → List ℕ
kept_record y z = 67 ∷ bytes16 y ++ bytes16 z ++ (1 ∷ [])

-- T is kept: the point with position y comes in and that with position z goes out
abbrev pub exchanged_record : ℕ → ℕ → ℕ → ℕ → List ℕ
exchanged_record U U' y z =
    let h = differing U U' in
    cond (eqb h 16) (kept_record y z)
    (cond (bit U' h) (83 ∷ bytes16 y ++ bytes16 z ++ (suc h ∷ 2 ∷ []))
    (99 ∷ bytes16 y ++ bytes16 z ++ (suc h ∷ 3 ∷ [])))

-- index h comes into T
abbrev pub joined_record : ℕ → ℕ → ℕ → ℕ → List ℕ
joined_record U U' h y =
    cond (eqb (differing U U') 16) (69 ∷ bytes16 y ++ (suc h ∷ 4 ∷ [])) (101 ∷ bytes16 y ++ (suc h ∷ suc h ∷ 5 ∷ []))

-- index h goes out of T
abbrev pub left_record : ℕ → ℕ → ℕ → ℕ → List ℕ
left_record U U' h z =
    cond (eqb (differing U U') 16) (74 ∷ bytes16 z ++ (suc h ∷ 7 ∷ [])) (90 ∷ bytes16 z ++ (suc h ∷ suc h ∷ 6 ∷ []))

unfoldable pub record_from : ℕ → ℕ → ℕ → ℕ → ℕ → ℕ → List ℕ
record_from T U T' U' y z =
    let h = differing T T' in
    cond (eqb h 16) (exchanged_record U U' y z) (cond (bit T' h) (joined_record U U' h y) (left_record U U' h z))

-- {v}
abbrev pub first_record : ℕ → List ℕ
first_record y = 1 ∷ bytes16 y

-- a record has 3 bytes, or 5 to 7
abbrev pub HasLength : ℕ → Type 0
HasLength n = (3 ≤ n) × (n ≤ 7) × (n < 5 → n ≡ 3)

-- the bytes of a record, in its array
pub record IsRecord (bytes : List ℕ) (r : Record) : Type 0 where
  pub are : r.bytes ≡ front bytes (replicate 8 0)
  pub long : r.length ≡ length bytes
  pub sized : HasLength (length bytes)
  pub eight : length r.bytes ≡ 8
