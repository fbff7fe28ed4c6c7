-- The list with one entry more: it keeps the shelf one that question 21 lets pass, and changes the current one only of
-- the new sheet and of those whose current one it names. Assumes nothing.
use mathlib.Core.Bool.{true, false, ◌||◌, cond}
use mathlib.Core.List.{List}
use mathlib.Core.Logic.{⊎_elim}
use mathlib.Core.Path.{◌≡◌, refl, sym, ap, ◌∙◌}
use Prim.Native.Nat.{ℕ, zero, suc, ◌≤◌, ◌<◌}
use borrow.Author.Tests.{eq-eqb, ne_eqb}
use lib.Dec.{eqb}
use lib.ListN.{length-set, set}
use lib.Seq.{get_or-set_other, get_or-set_same}
use native.Mathlib.Omega.{arith}
use Rattle.combinatorics.proofs.Basics.{before_or_not, same_or, true_or_false}
use Rattle.shelf.proofs.Calls.{MayFile, asked_off, asked-on}
use Rattle.shelf.proofs.Currents.{current-next, last-is-current}
use Rattle.shelf.proofs.Sheets.{Shelf, none-names}
use Rattle.shelf.specs.Calls.{asking, gives}
use Rattle.shelf.specs.Shelf.{current, entry}
use Rattle.shelf.specs.declared.answers.Current.TheVariants.{Sheet}

old-entry : (list : List ℕ) (count named k : ℕ) → 1 ≤ k → k ≤ count → entry list k ≡ entry (set list count named) k
old-entry list count named zero l h = refl
old-entry list count named (suc j) l h = sym (get_or-set_other list count j named 0 (λ (e : j ≡ count). omega arith))

module _ (list : List ℕ) (count named : ℕ) (m : MayFile list count named) where
  new-entry : entry (set list count named) (suc count) ≡ named
  new-entry = get_or-set_same list count named 0 m.place

  pub new_shelf : Shelf (set list count named) (suc count)
  new_shelf =
      let after = set list count named in
      let f = m.shelf in
      record {
        few = omega (arith, m.below);
        room = omega (arith, m.place, length-set list count named);
        earlier = λ k l h. ⊎_elim
            (λ (e : k ≡ suc count). omega (arith, ap (entry after) e, new-entry, m.on_shelf))
            (λ (n : k ≡ suc count → ⊥).
            let g : k ≤ count = omega (arith, n) in
            omega (arith, old-entry list count named k l g, f.earlier k l g))
            (same_or k (suc count));
        once = λ j k l i h s. ⊎_elim
            (λ (e : k ≡ suc count).
            let g : j ≤ count = omega arith in
            let t : entry list j ≡ named = old-entry list count named j l g ∙ (s ∙ (ap (entry after) e ∙ new-entry)) in
            ⊎_elim
            (λ (z : named ≡ 0). ap (entry after) e ∙ (new-entry ∙ z))
            (λ (n : named ≡ 0 → ⊥). absurd (none-names list m.unreplaced
            (record { numbered = l; filed = g; aSheet = omega (arith, n); named = t })))
            (same_or named 0))
            (λ (n : k ≡ suc count → ⊥).
            let g : k ≤ count = omega (arith, n) in
            let o = old-entry list count named in
            sym (o k (omega arith) g) ∙ f.once j k l i g (o j l (omega arith) ∙ (s ∙ sym (o k (omega arith) g))))
            (same_or k (suc count));
      }

  pub new-current : (s : ℕ) → 1 ≤ s → s ≤ suc count
      → current (set list count named) (suc count) s
      ≡ cond (eqb s (suc count) || eqb named (current list count s)) (suc count) (current list count s)
  new-current s l h =
      let after = set list count named in
      ⊎_elim
      (λ (e : s ≡ suc count).
      rw (eq-eqb s (suc count) e) (ap (current after (suc count)) e ∙ last-is-current after new_shelf))
      (λ (n : s ≡ suc count → ⊥). rw (ne_eqb s (suc count) n)
      (current-next m.shelf new_shelf (old-entry list count named) l (omega (arith, n))
      ∙ ap (λ x. cond (eqb x (current list count s)) (suc count) (current list count s)) new-entry))
      (same_or s (suc count))

  off : (s : ℕ) → (s ≡ suc count → ⊥) → (1 ≤ s → s ≤ count → ⊥)
      → asking (set list count named) (suc count) s
      ≡ cond (gives (asking list count s) named) (Sheet (suc count)) (asking list count s)
  off s n o =
      rw (asked_off list count s m.shelf o)
      (asked_off (set list count named) (suc count) s new_shelf (λ l h. o l (omega (arith, n))))

  on : (s : ℕ) → 1 ≤ s → s ≤ count
      → asking (set list count named) (suc count) s
      ≡ cond (gives (asking list count s) named) (Sheet (suc count)) (asking list count s)
  on s l h =
      let last = current list count s in
      rw (asked-on list count s m.shelf l h)
      (asked-on (set list count named) (suc count) s new_shelf l (omega arith)
      ∙ (ap Sheet (new-current s l (omega arith))
      ∙ ⊎_elim (λ (e : eqb named last ≡ true). rw (ne_eqb s (suc count) (λ x. omega arith), e))
      (λ (e : eqb named last ≡ false). rw (ne_eqb s (suc count) (λ x. omega arith), e))
      (true_or_false (eqb named last))))

  pub new-answer : (s : ℕ)
      → asking (set list count named) (suc count) s
      ≡ cond (eqb s (suc count) || gives (asking list count s) named) (Sheet (suc count)) (asking list count s)
  new-answer s =
      let after = set list count named in
      ⊎_elim
      (λ (e : s ≡ suc count). rw (eq-eqb s (suc count) e)
      (asked-on after (suc count) s new_shelf (omega arith) (omega arith)
      ∙ ap Sheet (ap (current after (suc count)) e ∙ last-is-current after new_shelf)))
      (λ (n : s ≡ suc count → ⊥). rw (ne_eqb s (suc count) n) (⊎_elim
      (λ (h : s < 1). off s n (λ l i. omega arith))
      (λ (l : 1 ≤ s).
      ⊎_elim (λ (h : count < s). off s n (λ k i. omega arith)) (λ (h : s ≤ count). on s l h) (before_or_not count s))
      (before_or_not s 1)))
      (same_or s (suc count))
