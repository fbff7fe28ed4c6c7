-- Request 03: the change from a place to the next, and its rule. Assumes nothing.
use Rattle.std.specs.Prelude.{Bool, not, ◌&&◌, cond, List, [], ◌∷◌, map, ◌≡◌, ℕ, suc, eqb, length}
use Rattle.combinatorics.specs.Lists.{filter, is_in, same}
use Rattle.grid_points.specs.Grid.{same_point, position}
use Rattle.place.specs.Places.{Simplex, set_t, set_u}
use Rattle.place.specs.Problem.{Problem}

-- the elements of a list that are not in another
abbrev pub outside : {A : Type 0} → (A → A → Bool) → List A → List A → List A
outside eq b a = filter (λ x. not (is_in eq x b)) a

-- "0 point come in, 1 point gone out (table positions ..), 2 index into T, 3 out of T, 4 into U, 5 out of U"
pub record Change : Type 0 where
  pub points_in : List ℕ
  pub points_out : List ℕ
  pub into_t : List ℕ
  pub out_of_t : List ℕ
  pub into_u : List ℕ
  pub out_of_u : List ℕ

-- from the set a of points to the set b
unfoldable pub change : Problem → Simplex → Simplex → Change
change p a b = let g = p.grid in record {
  points_in = map (position g) (outside same_point a b);
  points_out = map (position g) (outside same_point b a);
  into_t = outside eqb (set_t p a) (set_t p b);
  out_of_t = outside eqb (set_t p b) (set_t p a);
  into_u = outside eqb (set_u g a) (set_u g b);
  out_of_u = outside eqb (set_u g b) (set_u g a);
}

-- a list has no element, or one
abbrev pub empty : {A : Type 0} → List A → Bool
empty xs = eqb (length xs) 0

abbrev pub single : {A : Type 0} → List A → Bool
single xs = eqb (length xs) 1

-- what a set of indices does, by the indices that come into it and go out of it
abbrev pub keeps : List ℕ → List ℕ → Bool
keeps into out_of = empty into && empty out_of

abbrev pub gains : List ℕ → List ℕ → Bool
gains into out_of = single into && empty out_of

abbrev pub loses : List ℕ → List ℕ → Bool
loses into out_of = empty into && single out_of

-- the seven rules as tests, in order: "Rule 1 keeps T and U; 2 keeps T and U gains; 3 keeps T and U loses; 4 takes an
-- index into T from outside U; 5 takes it from U; 6 moves an index from T to U; 7 only drops it from T". Where U is
-- kept an index that comes into T was outside it.
abbrev pub rule_tests : Change → List Bool
rule_tests c =
    (keeps c.into_t c.out_of_t && keeps c.into_u c.out_of_u)
    ∷ (keeps c.into_t c.out_of_t && gains c.into_u c.out_of_u)
    ∷ (keeps c.into_t c.out_of_t && loses c.into_u c.out_of_u)
    ∷ (gains c.into_t c.out_of_t && keeps c.into_u c.out_of_u)
    ∷ (gains c.into_t c.out_of_t && loses c.into_u c.out_of_u && same eqb c.into_t c.out_of_u)
    ∷ (loses c.into_t c.out_of_t && gains c.into_u c.out_of_u && same eqb c.out_of_t c.into_u)
    ∷ (loses c.into_t c.out_of_t && keeps c.into_u c.out_of_u)
    ∷ []

-- the numbers, from k on, of the tests that hold
abbrev pub holding : ℕ → List Bool → List ℕ
holding k [] = []
holding k (t ∷ ts) = let rest = holding (suc k) ts in cond t (k ∷ rest) rest

-- the rules that make the change, counted from 1
unfoldable pub rules : Change → List ℕ
rules c = holding 1 (rule_tests c)

-- a change by its parts
abbrev pub change_by : (points_in points_out into_t out_of_t into_u out_of_u : List ℕ) → Change
change_by points_in points_out into_t out_of_t into_u out_of_u = record {
  points_in = points_in;
  points_out = points_out;
  into_t = into_t;
  out_of_t = out_of_t;
  into_u = into_u;
  out_of_u = out_of_u;
}

-- A change by one rule alone, with the point y that comes in and the point z that goes out, by their positions, and the
-- index h that the rule is about
pub data ByRule (c : Change) : ℕ → Type 0 where
  rule1 : (y z : ℕ) → c ≡ change_by (y ∷ []) (z ∷ []) [] [] [] [] → ByRule c 1
  rule2 : (y z h : ℕ) → c ≡ change_by (y ∷ []) (z ∷ []) [] [] (h ∷ []) [] → ByRule c 2
  rule3 : (y z h : ℕ) → c ≡ change_by (y ∷ []) (z ∷ []) [] [] [] (h ∷ []) → ByRule c 3
  rule4 : (y h : ℕ) → c ≡ change_by (y ∷ []) [] (h ∷ []) [] [] [] → ByRule c 4
  rule5 : (y h : ℕ) → c ≡ change_by (y ∷ []) [] (h ∷ []) [] [] (h ∷ []) → ByRule c 5
  rule6 : (z h : ℕ) → c ≡ change_by [] (z ∷ []) [] (h ∷ []) (h ∷ []) [] → ByRule c 6
  rule7 : (z h : ℕ) → c ≡ change_by [] (z ∷ []) [] (h ∷ []) [] [] → ByRule c 7
