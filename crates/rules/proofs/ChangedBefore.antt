-- One turn of a way round a block that changes the numbers it passes. Assumes nothing.
use mathlib.Core.Bool.{Bool, true, ◌&&◌}
use mathlib.Core.List.{List, [], ◌∷◌}
use mathlib.Core.Path.{◌≡◌, refl, ◌∙◌}
use Prim.Native.Nat.{ℕ, zero, suc, ◌+◌, ◌-◌, ◌≤◌, ◌<◌}
use native.Mathlib.Omega.{arith}
use borrow.Author.Tests.{eq-eqb, ne_eqb}
use lib.ListN.{set}
use Rattle.combinatorics.proofs.Basics.{and_left, and_right}
use Rattle.grid_points.specs.Grid.{at}
use Rattle.rules.proofs.FirstMet.{below}
use Rattle.rules.specs.Ready.{IndicesBelow, tested_before}
use Rattle.rules.specs.Moves.{changed_before}

-- a number that is positive stays so where one is raised
pub raised-positive : (y : List ℕ) (h b : ℕ) → 1 ≤ at y b → 1 ≤ at (set y h (at y h + 1)) b
raised-positive [] h b l = l
raised-positive (x ∷ y) zero zero l = omega arith
raised-positive (x ∷ y) zero (suc b) l = l
raised-positive (x ∷ y) (suc h) zero l = l
raised-positive (x ∷ y) (suc h) (suc b) l = raised-positive y h b l

module _ (f : ℕ → ℕ) (way : List ℕ) (b : ℕ) where
  none_left : (n h : ℕ) (c : List ℕ) → n ≡ 0 → c ≡ changed_before f way b n h c
  unfolding changed_before
  none_left zero h c e = refl
  none_left (suc n) h c e = absurd (omega arith)

  at-end : (n h : ℕ) (c : List ℕ) → h ≡ b → c ≡ changed_before f way b n h c
  unfolding changed_before
  at-end zero h c e = refl
  at-end (suc n) h c e = rw (eq-eqb h b e)

  onward : (n h : ℕ) (c : List ℕ) → 0 < n → (h ≡ b → ⊥)
      → changed_before f way b (n - 1) (at way h) (set c h (f (at c h))) ≡ changed_before f way b n h c
  unfolding changed_before
  onward zero h c l e = absurd (omega arith)
  onward (suc n) h c l e = let z : suc n - 1 ≡ n = omega arith in rw (z, ne_eqb h b e)

  tested : (q : ℕ → Bool) (n h : ℕ) (c : List ℕ) → 0 < n → (h ≡ b → ⊥) → tested_before q f way b n h c ≡ true
      → (q (at c h) && tested_before q f way b (n - 1) (at way h) (set c h (f (at c h)))) ≡ true
  unfolding tested_before
  tested q zero h c l e t = absurd (omega arith)
  tested q (suc n) h c l e t = let z : suc n - 1 ≡ n = omega arith in rw z (rw (ne_eqb h b e) at t)

-- a way from h to b, of which `left` steps are left from `here` on: they make of the present numbers c what the whole
-- way makes of the old ones, and each number that they change passes the test q
pub record Changing (q : ℕ → Bool) (f : ℕ → ℕ) (way : List ℕ) (h b : ℕ) (old c : List ℕ) (here left : ℕ) : Type 0 where
  pub same : changed_before f way b left here c ≡ changed_before f way b 16 h old
  pub passing : tested_before q f way b left here c ≡ true
  pub low : here < 16
  pub most : left ≤ 16

module _ {q : ℕ → Bool} {f : ℕ → ℕ} {way : List ℕ} {h b : ℕ} {old c : List ℕ} {here left : ℕ}
    (C : Changing q f way h b old c here left) where
  pub changed_spent : left ≡ 0 → c ≡ changed_before f way b 16 h old
  changed_spent e = none_left f way b left here c e ∙ C.same

  pub changed_all : here ≡ b → c ≡ changed_before f way b 16 h old
  changed_all e = at-end f way b left here c e ∙ C.same

  module _ (some : 0 < left) (other : here ≡ b → ⊥) where
    pub tested_here : q (at c here) ≡ true
    tested_here = and_left _ _ (tested f way b q left here c some other C.passing)

    pub changed_onward : IndicesBelow way → {v next : ℕ} → v ≡ f (at c here) → next ≡ at way here
        → Changing q f way h b old (set c here v) next (left - 1)
    changed_onward B e n = record {
      same = rw (e, n) (onward f way b left here c some other ∙ C.same);
      passing = rw (e, n) (and_right (q (at c here)) _ (tested f way b q left here c some other C.passing));
      low = rw n (below way B here);
      most = omega (arith, C.most);
    }
