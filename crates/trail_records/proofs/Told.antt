-- The record of a place, as trail/specs has it, by the masks of T and U before and after and the positions of the
-- points that come in and go out. Assumes nothing.
use mathlib.Core.Bool.{true, false}
use mathlib.Core.List.{List, [], ◌∷◌}
use mathlib.Core.Logic.{⊎_elim}
use mathlib.Core.Path.{◌≡◌, refl, sym, ap, ◌∙◌}
use Prim.Native.Nat.{ℕ, ◌<◌}
use borrow.Author.Tests.{eq-eqb, ne_eqb}
use lib.Dec.{eqb}
use lib.ListN.{length, replicate, take}
use lib.Seq.{paste, take-length}
use native.Mathlib.Omega.{arith}
use Rattle.combinatorics.proofs.Basics.{absurd_bool, both, same_or}
use Rattle.combinatorics.proofs.Fronts.{front_taken}
use Rattle.combinatorics.specs.Lists.{is_in}
use Rattle.place.specs.Places.{Simplex, set_t, set_u}
use Rattle.place.specs.Problem.{Problem}
use Rattle.rules.proofs.Masks.{IsMask, bit_with, bit_without}
use Rattle.rules.specs.Mask.{bit, with_index, without_index}
use Rattle.trail.proofs.Rules.{recorded, change_sets}
use Rattle.trail.proofs.Outside.{within-other}
use Rattle.trail.proofs.Shapes.{less_of}
use Rattle.trail.specs.Change.{Change, change, outside, ByRule, rule1, rule2, rule3, rule4, rule5, rule6}
use Rattle.trail.specs.Change.{rule7}
use Rattle.trail.specs.Record.{record_of, record_by}
use Rattle.trail_records.specs.Records.{differing, record_from, IsRecord}
use Rattle.trail_records.specs.declared.Record.{Record}
use Rattle.trail_records.proofs.Differences.{only_differs, none_differs}

-- the mask of the first set, changed as the set is, has the indices of the second
module _ {a : ℕ} {u : List ℕ} (A : IsMask a u) (v : List ℕ) where
  pub kept-bits : outside eqb u v ≡ [] → outside eqb v u ≡ [] → (k : ℕ) → k < 16 → bit a k ≡ is_in eqb k v
  kept-bits e f k l = A.bits k l ∙ both _ _ (within-other u v f k) (within-other v u e k)

  pub gained_bits : {h : ℕ} → h < 16 → outside eqb u v ≡ h ∷ [] → outside eqb v u ≡ []
      → (bit a h ≡ false) × ((k : ℕ) → k < 16 → bit (with_index a h) k ≡ is_in eqb k v)
  gained_bits {h} m e f =
      let L = less_of v u e f in (
        A.bits h m ∙ L.out,
        λ k l. bit_with a h k m l
            ∙ ⊎_elim
            (λ (z : k ≡ h). rw (z, eq-eqb h h refl) (sym L.has))
            (λ n. rw (ne_eqb k h n) (A.bits k l ∙ L.rest k n))
            (same_or k h),
      )

  pub lost_bits : {h : ℕ} → outside eqb u v ≡ [] → outside eqb v u ≡ h ∷ []
      → (bit a h ≡ true) × ((k : ℕ) → k < 16 → bit (without_index a h) k ≡ is_in eqb k v)
  lost_bits {h} e f =
      let L = less_of u v f e in
      let m = A.below h L.has in (
        A.bits h m ∙ L.has,
        λ k l. bit_without a h k m l
            ∙ ⊎_elim
            (λ (z : k ≡ h). rw (z, eq-eqb h h refl) (sym L.out))
            (λ n. rw (ne_eqb k h n) (A.bits k l ∙ sym (L.rest k n)))
            (same_or k h),
      )

module _ {a b : ℕ} {u v : List ℕ} (A : IsMask a u) (B : IsMask b v) where
  pub kept : outside eqb u v ≡ [] → outside eqb v u ≡ [] → eqb (differing a b) 16 ≡ true
  kept e f = eq-eqb (differing a b) 16 (none_differs a b (λ k l. kept-bits A v e f k l ∙ sym (B.bits k l)))

  differs : {h : ℕ} → h < 16 → (bit a h ≡ bit b h → ⊥) → ((k : ℕ) → (k ≡ h → ⊥) → is_in eqb k u ≡ is_in eqb k v)
      → (eqb h 16 ≡ false) × (differing a b ≡ h)
  differs {h} l d rest = (
    ne_eqb h 16 (λ e. omega arith),
    only_differs a b h l d (λ k m n. A.bits k m ∙ rest k n ∙ sym (B.bits k m)),
  )

  pub gained : {h : ℕ} → outside eqb u v ≡ h ∷ [] → outside eqb v u ≡ []
      → (eqb h 16 ≡ false) × (differing a b ≡ h) × (bit b h ≡ true)
  gained {h} e f =
      let L = less_of v u e f in
      let l = B.below h L.has in
      let y = B.bits h l ∙ L.has in
      let w = differs l (λ q. absurd_bool (sym y ∙ sym q ∙ A.bits h l ∙ L.out)) (λ k n. L.rest k n) in
      (w.0, w.1, y)

  pub lost : {h : ℕ} → outside eqb u v ≡ [] → outside eqb v u ≡ h ∷ []
      → (eqb h 16 ≡ false) × (differing a b ≡ h) × (bit b h ≡ false)
  lost {h} e f =
      let L = less_of u v f e in
      let l = A.below h L.has in
      let y = B.bits h l ∙ L.out in
      let w = differs l (λ q. absurd_bool (sym (A.bits h l ∙ L.has) ∙ q ∙ y)) (λ k n. sym (L.rest k n)) in
      (w.0, w.1, y)

-- a record's bytes, as its array has them
pub taken_record : {bytes : List ℕ} {r : Record} → IsRecord bytes r → take r.length r.bytes ≡ bytes
taken_record {bytes} R = rw (R.are, R.long) (front_taken bytes (replicate 8 0))

-- stored from its array, or by its bytes
pub pasted : {bytes : List ℕ} {r : Record} → IsRecord bytes r → (d : List ℕ) (at : ℕ)
    → paste d at r.bytes r.length ≡ paste d at bytes (length bytes)
pasted {bytes} {r} R d at = rw (R.are, R.long, front_taken bytes (replicate 8 0), take-length bytes)

module _ (p : Problem) (a b : Simplex) {T U T' U' y z : ℕ} (t : IsMask T (set_t p a)) (t' : IsMask T' (set_t p b))
    (u : IsMask U (set_u p.grid a)) (u' : IsMask U' (set_u p.grid b))
    (come : (x : ℕ) → (change p a b).points_in ≡ x ∷ [] → y ≡ x)
    (gone : (x : ℕ) → (change p a b).points_out ≡ x ∷ [] → z ≡ x) where
  go : {r : ℕ} (m : ByRule (change p a b) r) → record_from T U T' U' y z ≡ record_by m
  unfolding record_from
  go (rule1 x w e) =
      let i = change_sets p a b e in
      let d = kept t t' i.0 i.1 in
      let f = kept u u' i.2 i.3 in
      rw (d, f, come x (ap (λ (c : Change). c.points_in) e), gone w (ap (λ (c : Change). c.points_out) e))
  go (rule2 x w h e) =
      let i = change_sets p a b e in
      let d = kept t t' i.0 i.1 in
      let f = gained u u' i.2 i.3 in
      rw (
        d,
        f.1,
        f.0,
        f.2,
        come x (ap (λ (c : Change). c.points_in) e),
        gone w (ap (λ (c : Change). c.points_out) e),
      )
  go (rule3 x w h e) =
      let i = change_sets p a b e in
      let d = kept t t' i.0 i.1 in
      let f = lost u u' i.2 i.3 in
      rw (
        d,
        f.1,
        f.0,
        f.2,
        come x (ap (λ (c : Change). c.points_in) e),
        gone w (ap (λ (c : Change). c.points_out) e),
      )
  go (rule4 x h e) =
      let i = change_sets p a b e in
      let d = gained t t' i.0 i.1 in
      let f = kept u u' i.2 i.3 in
      rw (d.1, d.0, d.2, f, come x (ap (λ (c : Change). c.points_in) e))
  go (rule5 x h e) =
      let i = change_sets p a b e in
      let d = gained t t' i.0 i.1 in
      let f = lost u u' i.2 i.3 in
      rw (d.1, d.0, d.2, f.1, f.0, come x (ap (λ (c : Change). c.points_in) e))
  go (rule6 w h e) =
      let i = change_sets p a b e in
      let d = lost t t' i.0 i.1 in
      let f = gained u u' i.2 i.3 in
      rw (d.1, d.0, d.2, f.1, f.0, gone w (ap (λ (c : Change). c.points_out) e))
  go (rule7 w h e) =
      let i = change_sets p a b e in
      let d = lost t t' i.0 i.1 in
      let f = kept u u' i.2 i.3 in
      rw (d.1, d.0, d.2, f, gone w (ap (λ (c : Change). c.points_out) e))

  -- the bytes are those of the change
  pub told : {r : ℕ} → ByRule (change p a b) r → record_from T U T' U' y z ≡ record_of p a b
  unfolding record_of
  told m = go m ∙ sym (recorded m)
