-- What the table of a reading tells of the slip, case by case. Assumes nothing.
use mathlib.Core.Bool.{Bool, true, false, cond}
use mathlib.Core.List.{List, []}
use mathlib.Core.Logic.{⊎_elim}
use mathlib.Core.Path.{◌≡◌, refl, ◌∙◌}
use Prim.Native.Nat.{ℕ}
use native.Mathlib.Omega.{arith}
use Rattle.combinatorics.proofs.Basics.{true_or_false}
use Rattle.slip_fields.proofs.Laws.{labels-only}
use Rattle.slip.specs.declared.Table.{Table}
use Rattle.slip.specs.declared.Table.TheVariants.{LabelsFrom, Game, LossesFrom}
use Rattle.slip.specs.Reading.{labels_in, table_named}
use Rattle.slip_fields.specs.Slip.{stands, slip_game, field_at, question13, slip_question15}

-- what is not one of the variants named
pub not_labels : (slip : List ℕ) (t : Table) → ((begin : ℕ) → t ≡ LabelsFrom begin → ⊥) → labels_in slip t ≡ []
unfolding labels_in
not_labels slip (LabelsFrom begin) h = absurd (h begin refl)
not_labels slip (Game number) h = refl
not_labels slip (LossesFrom begin) h = refl

-- labels are named, or not
pub are-labels : (slip : List ℕ) (begin : ℕ) → table_named slip ≡ LabelsFrom begin → stands slip 2 ≡ true
are-labels slip begin e = go (stands slip 2) (stands slip 3) (field_at slip 2) (slip_game slip) (field_at slip 4) e
  where
    go : (a b : Bool) (x y z : ℕ) → cond a (LabelsFrom x) (cond b (Game y) (LossesFrom z)) ≡ LabelsFrom begin → a ≡ true
    go true b x y z e = refl
    go false true x y z e = absurd (let z : ◌≡◌ {A = ℕ} 0 1 = cc in omega arith)
    go false false x y z e = absurd (let z : ◌≡◌ {A = ℕ} 0 1 = cc in omega arith)

pub no-labels : (slip : List ℕ) (t : Table) → ((begin : ℕ) → t ≡ LabelsFrom begin → ⊥) → t ≡ table_named slip
    → stands slip 2 ≡ false
no-labels slip t h e =
    ⊎_elim (λ (two : stands slip 2 ≡ true). absurd (h (field_at slip 2) (e ∙ rw two))) (λ n. n)
    (true_or_false (stands slip 2))

-- which bit stands, by the table that the map names
module _ (slip : List ℕ) (head : (question13 slip).answered_yes ≡ true) where
  pub is-game : (number : ℕ) → table_named slip ≡ Game number
      → (stands slip 2 ≡ false) × (stands slip 3 ≡ true) × (number ≡ slip_game slip)
  is-game number e = go (stands slip 2) (stands slip 3) (field_at slip 2) (slip_game slip) (field_at slip 4) e
    where
      go : (a b : Bool) (x y z : ℕ) → cond a (LabelsFrom x) (cond b (Game y) (LossesFrom z)) ≡ Game number
          → (a ≡ false) × (b ≡ true) × (number ≡ y)
      go true b x y z e = absurd (let z : ◌≡◌ {A = ℕ} 0 1 = cc in omega arith)
      go false true x y z e = (refl, refl, cc)
      go false false x y z e = absurd (let z : ◌≡◌ {A = ℕ} 0 1 = cc in omega arith)

  pub are-losses : (begin : ℕ) → table_named slip ≡ LossesFrom begin
      → (stands slip 2 ≡ false) × (stands slip 3 ≡ false) × (begin ≡ field_at slip 4)
  are-losses begin e = go (stands slip 2) (stands slip 3) (field_at slip 2) (slip_game slip) (field_at slip 4) e
    where
      go : (a b : Bool) (x y z : ℕ) → cond a (LabelsFrom x) (cond b (Game y) (LossesFrom z)) ≡ LossesFrom begin
          → (a ≡ false) × (b ≡ false) × (begin ≡ z)
      go true b x y z e = absurd (let z : ◌≡◌ {A = ℕ} 0 1 = cc in omega arith)
      go false true x y z e = absurd (let z : ◌≡◌ {A = ℕ} 0 1 = cc in omega arith)
      go false false x y z e = (refl, refl, cc)

  -- without a game question 15 is answered yes
  pub no-game : (t : Table) → ((number : ℕ) → t ≡ Game number → ⊥) → t ≡ table_named slip
      → (slip_question15 slip).answered_yes ≡ true
  no-game t h e =
      let three : stands slip 3 ≡ false = ⊎_elim
      (λ two. (labels-only slip head two).0)
      (λ (two : stands slip 2 ≡ false). ⊎_elim
      (λ (three : stands slip 3 ≡ true). absurd (h (slip_game slip) (e ∙ rw (two, three))))
      (λ n. n)
      (true_or_false (stands slip 3)))
      (true_or_false (stands slip 2)) in
      rw three
