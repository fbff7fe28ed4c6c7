-- One turn of a way round a block that looks for an index. Assumes nothing.
use mathlib.Core.Bool.{Bool, true, false, not, ◌&&◌, ◌||◌}
use mathlib.Core.List.{List, [], ◌∷◌}
use mathlib.Core.Path.{◌≡◌, refl, sym, ◌∙◌}
use Prim.Native.Nat.{ℕ, zero, suc, ◌-◌, ◌<◌}
use native.Mathlib.Omega.{arith}
use lib.Dec.{eqb}
use lib.ListN.{take}
use lib.Seq.{get_or-take}
use Rattle.grid_points.specs.Grid.{at}
use Rattle.rules.specs.Mask.{bit}
use Rattle.rules.specs.Ready.{IndicesBelow}
use Rattle.rules.specs.Moves.{first_met}

-- past the end of the list `at` gives 0, which is below 16 too
pub below : (way : List ℕ) → IndicesBelow way → (h : ℕ) → at way h < 16
below [] b h = omega arith
below (x ∷ way) b zero = b 0 (omega arith)
below (x ∷ way) b (suc h) = below way (λ k l. b (suc k) (omega arith)) h

-- an entry of the array is one of the list at its front
pub entry : (l : List ℕ) (n e h : ℕ) → e < n → h ≡ at l e → h ≡ at (take n l) e
entry l n e h low x = x ∙ sym (get_or-take n l e 0 low)

-- an entry that stands among the first n
pub entry-below : (l : List ℕ) (n e : ℕ) → e < n → IndicesBelow (take n l) → at l e < 16
entry-below l n e h b = rw (get_or-take n l e 0 h) at (below (take n l) b e)

-- where the ways stop
abbrev pub outside : ℕ → ℕ → Bool
outside mask k = not (bit mask k)

abbrev pub outside_or_zero : ℕ → List ℕ → ℕ → Bool
outside_or_zero mask c k = not (bit mask k) || eqb (at c k) 0

abbrev pub home_or_free : ℕ → ℕ → ℕ → ℕ → Bool
home_or_free t u h k = eqb k h || not (bit t k) && not (bit u k)

module _ (way : List ℕ) (q : ℕ → Bool) where
  met_spent : (n h : ℕ) → n ≡ 0 → h ≡ first_met way q n h
  unfolding first_met
  met_spent zero h e = refl
  met_spent (suc n) h e = absurd (omega arith)

  pub met_here : (n h : ℕ) → q h ≡ true → h ≡ first_met way q n h
  unfolding first_met
  met_here zero h e = refl
  met_here (suc n) h e = rw e

  met_onward : (n h : ℕ) → (n ≡ 0 → ⊥) → q h ≡ false → first_met way q (n - 1) (at way h) ≡ first_met way q n h
  unfolding first_met
  met_onward zero h l e = absurd (l refl)
  met_onward (suc n) h l e = let z : suc n - 1 ≡ n = omega arith in rw (z, e)

-- a way of which `left` steps are left from `here` on: they meet what the whole way meets
pub record Meeting (way : List ℕ) (q : ℕ → Bool) (whole here left : ℕ) : Type 0 where
  pub same : first_met way q left here ≡ whole
  pub low : here < 16

-- it begins at the index that the way has behind h, with the steps that h's block has
pub meets_begun : {way : List ℕ} {q : ℕ → Bool} {here left : ℕ} (sizes : List ℕ) (h : ℕ) → IndicesBelow way
    → here ≡ at way h → left ≡ at sizes h → Meeting way q (first_met way q (at sizes h) (at way h)) here left
meets_begun {way} sizes h B first steps = record { same = rw (first, steps); low = rw first (below way B h) }

module _ {way : List ℕ} {q : ℕ → Bool} {whole here left : ℕ} (M : Meeting way q whole here left) where
  pub meets_spent : left ≡ 0 → here ≡ whole
  meets_spent e = met_spent way q left here e ∙ M.same

  pub meets_here : q here ≡ true → here ≡ whole
  meets_here e = met_here way q left here e ∙ M.same

  pub meets_onward : IndicesBelow way → (left ≡ 0 → ⊥) → q here ≡ false → {next : ℕ} → next ≡ at way here
      → Meeting way q whole next (left - 1)
  meets_onward B l e n = record {
    same = rw n (met_onward way q left here l e ∙ M.same);
    low = rw n (below way B here);
  }
