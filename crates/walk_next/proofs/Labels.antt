-- The search for the spare point, one point after another. Assumes nothing.
use mathlib.Core.Bool.{true, false, not, ◌&&◌, or-true}
use mathlib.Core.List.{List}
use mathlib.Core.Logic.{⊎_elim}
use mathlib.Core.Path.{◌≡◌, refl, sym, ap, ◌∙◌}
use Prim.Native.Nat.{ℕ, suc, ◌+◌, ◌-◌, ◌≤◌, ◌<◌}
use borrow.Author.Tests.{eqb-true, eq-eqb, ne_eqb, not-true}
use lib.Dec.{eqb}
use native.Mathlib.Omega.{arith}
use Rattle.combinatorics.proofs.Basics.{absurd_bool, and_left, and_right, or_cases, same_or, true_or_false}
use Rattle.rules.proofs.Masks.{bit-none, bit_with}
use Rattle.rules.specs.Mask.{bit, with_index}
use Rattle.walk_next.specs.Spares.{NotNew, SparesBelow, again, is_new, label_at, outside, unknown}

pub spares_none : (marks : List ℕ) (t : ℕ) → SparesBelow marks 0 t 0 0
spares_none marks t = record {
  known = λ h l e. absurd_bool (sym e ∙ bit-none h l);
  all = λ j h l. absurd (omega arith);
  spare = λ j l. absurd (omega arith);
}

module _ (marks : List ℕ) (k t seen point l : ℕ) (S : SparesBelow marks k t seen point) (is : l ≡ label_at marks k)
    (low : l ≤ 16) where
  pub new-parts : is_new t seen l ≡ true → (0 < l) × (bit t (l - 1) ≡ true) × (bit seen (l - 1) ≡ false)
  new-parts e =
      let x = not (eqb l 0) in
      let y = bit t (l - 1) in
      let z = not (bit seen (l - 1)) in
      let a = not-true (eqb l 0) (and_left x (y && z) e) in
      let r = and_right x (y && z) e in (
        ⊎_elim
            (λ (q : l ≡ 0). absurd_bool (sym (eq-eqb l 0 q) ∙ a))
            (λ (q : l ≡ 0 → ⊥). omega (arith, q))
            (same_or l 0),
        and_left y z r,
        not-true (bit seen (l - 1)) (and_right y z r),
      )

  pub spares_new : is_new t seen l ≡ true → SparesBelow marks (k + 1) t (with_index seen (l - 1)) point
  spares_new e =
      let w = new-parts e in
      record {
        known = λ h hl b. ⊎_elim
            (λ a. let q = eqb-true h (l - 1) a in (rw q w.1, (k, omega arith, omega (arith, is, w.0, q))))
            (λ a. let v = S.known h hl a in (v.0, (v.1.0, omega (arith, v.1.1), v.1.2)))
            (or_cases (eqb h (l - 1)) (bit seen h) (sym (bit_with seen (l - 1) h (omega arith) hl) ∙ b));
        all = λ j h jl g q b. ⊎_elim
            (λ (z : j ≡ k).
            let v : h ≡ l - 1 = omega (arith, q, is, ap (label_at marks) z) in
            rw v (bit_with seen (l - 1) (l - 1) (omega arith) (omega arith) ∙ (rw (eq-eqb (l - 1) (l - 1) refl))))
            (λ (z : j ≡ k → ⊥). bit_with seen (l - 1) h (omega arith) g
            ∙ (rw (S.all j h (omega (arith, z)) g q b) (or-true (eqb h (l - 1)))))
            (same_or j k);
        spare = λ j jl n. ⊎_elim
            (λ (z : j ≡ k). absurd (is-new (rw z at n)))
            (λ (z : j ≡ k → ⊥). let v = S.spare j (omega (arith, z)) n in (omega (arith, v.0), v.1))
            (same_or j k);
      }
    where
      is-new : NotNew marks t k → ⊥
      is-new (unknown z) = omega (arith, (new-parts e).0, is, z)
      is-new (outside h z f) =
          let q : h ≡ l - 1 = omega (arith, is, z) in
          absurd_bool (sym (new-parts e).1 ∙ ap (bit t) (sym q) ∙ f)
      is-new (again j jl z) =
          let w = new-parts e in
          let q : label_at marks j ≡ suc (l - 1) = omega (arith, z, is, w.0) in
          absurd_bool (sym (S.all j (l - 1) jl (omega arith) q w.1) ∙ w.2)

  pub spares_old : is_new t seen l ≡ false → SparesBelow marks (k + 1) t seen k
  spares_old e = record {
    known = λ h hl b. let v = S.known h hl b in (v.0, (v.1.0, omega (arith, v.1.1), v.1.2));
    all = λ j h jl g q b. ⊎_elim
        (λ (z : j ≡ k). seen_already h (sym (ap (label_at marks) z) ∙ q) b)
        (λ (z : j ≡ k → ⊥). S.all j h (omega (arith, z)) g q b)
        (same_or j k);
    spare = λ j jl n. (omega arith, old);
  }
    where
      seen_already : (h : ℕ) → label_at marks k ≡ suc h → bit t h ≡ true → bit seen h ≡ true
      seen_already h q b =
          let z : l - 1 ≡ h = omega (arith, is, q) in
          ⊎_elim
          (λ x. x)
          (λ x.
          let y : is_new t seen l ≡ true = rw (ne_eqb l 0 (λ r. absurd (omega (arith, is, q, r))), z, b, x) in
          absurd_bool (sym y ∙ e))
          (true_or_false (bit seen h))

      old : NotNew marks t k
      old = ⊎_elim
          (λ (z : l ≡ 0). unknown (sym is ∙ z))
          (λ (z : l ≡ 0 → ⊥).
          let q : label_at marks k ≡ suc (l - 1) = omega (arith, is, z) in
          ⊎_elim
          (λ b.
          let v = S.known (l - 1) (omega arith) (seen_already (l - 1) q b) in
          again v.1.0 v.1.1 (v.1.2 ∙ sym q))
          (λ b. outside (l - 1) q b)
          (true_or_false (bit t (l - 1))))
          (same_or l 0)
