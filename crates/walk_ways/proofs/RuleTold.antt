-- The rule that masks tell is the rule of the change. Assumes nothing.
use borrow.Author.Tests.{not-true}
use mathlib.Core.Bool.{true, false, not}
use mathlib.Core.List.{List, [], ◌∷◌}
use mathlib.Core.Path.{◌≡◌, sym, ◌∙◌}
use Prim.Native.Nat.{ℕ}
use lib.Dec.{eqb}
use Rattle.combinatorics.proofs.Basics.{absurd_bool, both, false_of}
use Rattle.combinatorics.proofs.Lists.{filter_in, in_here, on_numbers}
use Rattle.combinatorics.specs.Lists.{is_in}
use Rattle.place.specs.Places.{Simplex, set_t, set_u}
use Rattle.place.specs.Problem.{Problem}
use Rattle.rules.proofs.Masks.{IsMask}
use Rattle.rules.specs.Mask.{bit}
use Rattle.trail.specs.Change.{ByRule, change, outside, rule1, rule2, rule3, rule4, rule5, rule6}
use Rattle.trail.specs.Change.{rule7}
use Rattle.trail.proofs.Rules.{change_sets}
use Rattle.trail.proofs.Outside.{within-other}
use Rattle.walk_ways.proofs.MaskTests.{alike, alike_of, mask_within, of_alike, of_within, rule_from, within_of}

one_outside : (u v : List ℕ) (h : ℕ) → outside eqb v u ≡ h ∷ [] → (is_in eqb h u ≡ true) × (is_in eqb h v ≡ false)
one_outside u v h e =
    let w = filter_in on_numbers (λ x. not (is_in eqb x v)) h u (rw e (in_here on_numbers h [])) in
    (w.0, not-true _ w.1)

module _ {a b : ℕ} {u v : List ℕ} (A : IsMask a u) (B : IsMask b v) where
  kept : outside eqb u v ≡ [] → outside eqb v u ≡ [] → alike a b ≡ true
  kept e f = alike_of a b
      (λ k l. A.bits k l
      ∙ both (is_in eqb k u) (is_in eqb k v) (within-other u v f k) (within-other v u e k)
      ∙ sym (B.bits k l))

  gained : (h : ℕ) → outside eqb u v ≡ h ∷ [] → outside eqb v u ≡ [] → (alike a b ≡ false) × (mask_within a b ≡ true)
  gained h e f =
      let w = one_outside v u h e in let l = B.below h w.0 in (
        false_of _ (λ q. absurd_bool (sym (B.bits h l ∙ w.0) ∙ sym (of_alike a b q h l) ∙ A.bits h l ∙ w.1)),
        within_of a b (λ k m t. B.bits k m ∙ within-other u v f k (sym (A.bits k m) ∙ t)),
      )

  lost : (h : ℕ) → outside eqb u v ≡ [] → outside eqb v u ≡ h ∷ [] → (alike a b ≡ false) × (mask_within a b ≡ false)
  lost h e f =
      let w = one_outside u v h f in let l = A.below h w.0 in
      let x : bit a h ≡ true = A.bits h l ∙ w.0 in let y : bit b h ≡ false = B.bits h l ∙ w.1 in (
        false_of _ (λ q. absurd_bool (sym x ∙ of_alike a b q h l ∙ y)),
        false_of _ (λ q. absurd_bool (sym x ∙ of_within a b q h l ∙ (rw (x, y)))),
      )

module _ (p : Problem) (a b : Simplex) {T U T' U' : ℕ} (t : IsMask T (set_t p a)) (t' : IsMask T' (set_t p b))
    (u : IsMask U (set_u p.grid a)) (u' : IsMask U' (set_u p.grid b)) where
  pub rule_told : {r : ℕ} → ByRule (change p a b) r → rule_from T U T' U' ≡ r
  unfolding rule_from
  rule_told (rule1 y z e) =
      let i = change_sets p a b e in
      rw (kept t t' i.0 i.1, kept u u' i.2 i.3)
  rule_told (rule2 y z h e) =
      let i = change_sets p a b e in
      let f = gained u u' h i.2 i.3 in
      rw (kept t t' i.0 i.1, f.0, f.1)
  rule_told (rule3 y z h e) =
      let i = change_sets p a b e in
      let f = lost u u' h i.2 i.3 in
      rw (kept t t' i.0 i.1, f.0, f.1)
  rule_told (rule4 y h e) =
      let i = change_sets p a b e in
      let d = gained t t' h i.0 i.1 in
      rw (d.0, d.1, kept u u' i.2 i.3)
  rule_told (rule5 y h e) =
      let i = change_sets p a b e in
      let d = gained t t' h i.0 i.1 in
      rw (d.0, d.1, (lost u u' h i.2 i.3).0)
  rule_told (rule6 z h e) =
      let i = change_sets p a b e in
      let d = lost t t' h i.0 i.1 in
      rw (d.0, d.1, (gained u u' h i.2 i.3).0)
  rule_told (rule7 z h e) =
      let i = change_sets p a b e in
      let d = lost t t' h i.0 i.1 in
      rw (d.0, d.1, kept u u' i.2 i.3)
