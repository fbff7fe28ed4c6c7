-- The seven rules exclude each other; the bytes of each one's record; the rule of the change back. Assumes nothing.
use mathlib.Core.List.{List, [], ◌∷◌}
use mathlib.Core.Path.{◌≡◌, ap}
use Prim.Native.Nat.{ℕ, zero, suc, ◌<◌, ◌≤◌}
use lib.Dec.{eqb}
use lib.ListN.{length}
use native.Mathlib.Omega.{arith}
use Rattle.combinatorics.proofs.Lists.{eqb_self}
use Rattle.place.specs.Places.{Simplex, set_t, set_u}
use Rattle.place.specs.Problem.{Problem}
use Rattle.trail.specs.Change.{Change, change, change_by, outside, rules}
use Rattle.trail.specs.Change.{ByRule, rule1, rule2, rule3, rule4, rule5, rule6, rule7}
use Rattle.trail.specs.Record.{fields, encoded, record_by}

-- the rule of the change back
abbrev pub inverse : ℕ → ℕ
inverse zero = 0
inverse (suc zero) = 1
inverse (suc (suc zero)) = 3
inverse (suc (suc (suc zero))) = 2
inverse (suc (suc (suc (suc zero)))) = 7
inverse (suc (suc (suc (suc (suc zero))))) = 6
inverse (suc (suc (suc (suc (suc (suc zero)))))) = 5
inverse (suc (suc (suc (suc (suc (suc (suc n))))))) = 4

module _ {c : Change} where
  -- one rule, and no other
  pub rules-are : {r : ℕ} → ByRule c r → rules c ≡ r ∷ []
  unfolding rules
  rules-are (rule1 y z e) = rw e
  rules-are (rule2 y z h e) = rw e
  rules-are (rule3 y z h e) = rw e
  rules-are (rule4 y h e) = rw e
  rules-are (rule5 y h e) = rw (e, eqb_self h)
  rules-are (rule6 z h e) = rw (e, eqb_self h)
  rules-are (rule7 z h e) = rw e

  -- its record
  pub recorded : {r : ℕ} (m : ByRule c r) → encoded (fields c) ≡ record_by m
  unfolding rules
  recorded (rule1 y z e) = rw e
  recorded (rule2 y z h e) = rw e
  recorded (rule3 y z h e) = rw e
  recorded (rule4 y h e) = rw e
  recorded (rule5 y h e) = rw (e, eqb_self h)
  recorded (rule6 z h e) = rw (e, eqb_self h)
  recorded (rule7 z h e) = rw e

  -- has at most 7 bytes
  pub record_short : {r : ℕ} → ByRule c r → (0 < length (encoded (fields c))) × (length (encoded (fields c)) ≤ 7)
  record_short m = let e : length (encoded (fields c)) ≡ length (record_by m) = ap length (recorded m) in
      (omega (arith, (go m).0), omega (arith, (go m).1))
    where
      go : {r : ℕ} (m : ByRule c r) → (0 < length (record_by m)) × (length (record_by m) ≤ 7)
      go (rule1 y z e) = (omega arith, omega arith)
      go (rule2 y z h e) = (omega arith, omega arith)
      go (rule3 y z h e) = (omega arith, omega arith)
      go (rule4 y h e) = (omega arith, omega arith)
      go (rule5 y h e) = (omega arith, omega arith)
      go (rule6 z h e) = (omega arith, omega arith)
      go (rule7 z h e) = (omega arith, omega arith)

  -- the change back is by the inverse rule
  pub back : {r : ℕ} → ByRule c r
      → ByRule (change_by c.points_out c.points_in c.out_of_t c.into_t c.out_of_u c.into_u) (inverse r)
  back (rule1 y z e) = rule1 z y (rw e)
  back (rule2 y z h e) = rule3 z y h (rw e)
  back (rule3 y z h e) = rule2 z y h (rw e)
  back (rule4 y h e) = rule7 y h (rw e)
  back (rule5 y h e) = rule6 y h (rw e)
  back (rule6 z h e) = rule5 z h (rw e)
  back (rule7 z h e) = rule4 z h (rw e)

-- what T and U gain and lose
pub change_sets : (p : Problem) (a b : Simplex) {i o t t' u u' : List ℕ} → change p a b ≡ change_by i o t t' u u'
    → (outside eqb (set_t p a) (set_t p b) ≡ t) × (outside eqb (set_t p b) (set_t p a) ≡ t')
    × (outside eqb (set_u p.grid a) (set_u p.grid b) ≡ u) × (outside eqb (set_u p.grid b) (set_u p.grid a) ≡ u')
unfolding change
change_sets p a b e = (
  ap (λ (c : Change). c.into_t) e,
  ap (λ (c : Change). c.out_of_t) e,
  ap (λ (c : Change). c.into_u) e,
  ap (λ (c : Change). c.out_of_u) e,
)
