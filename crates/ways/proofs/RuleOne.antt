-- Rule 1 keeps T and U: a move that ends by it leaves their masks with the same indices. Assumes nothing.
use mathlib.Core.Bool.{Bool, true, false, not, ◌&&◌}
use mathlib.Core.List.{List}
use mathlib.Core.Logic.{⊎_elim}
use mathlib.Core.Path.{◌≡◌, refl, subst}
use Prim.Native.Nat.{ℕ, zero, suc, ◌-◌, ◌<◌}
use lib.Dec.{eqb, ltb}
use lib.ListN.{length}
use native.Mathlib.Omega.{arith}
use Rattle.combinatorics.proofs.Basics.{true_or_false}
use Rattle.grid_points.specs.Grid.{at}
use Rattle.rules.proofs.FirstMet.{below}
use Rattle.rules.proofs.SameMasks.{without_none}
use Rattle.rules.specs.Mask.{bit}
use Rattle.rules.specs.Ready.{IndicesBelow}
use Rattle.rules.specs.Moves.{After, State, ends_at_facet, ends_at_place, first_met, first_outside_or_zero, goes}
use Rattle.rules.specs.Moves.{grow, is_filled, leave, leave_first, leave_last, leave_middle, shrink, source_in}
use Rattle.ways.specs.Ways.{way_after}
use Rattle.ways.specs.declared.Way.{Way}
use Rattle.ways.specs.declared.Way.TheVariants.{Joins, Leaves, Nothing}

-- two states have the same indices in T, and in U
pub record KeepsBoth (s e : State) : Type 0 where
  pub in_t : (k : ℕ) → k < 16 → bit s.T k ≡ bit e.T k
  pub in_u : (k : ℕ) → k < 16 → bit s.U k ≡ bit e.U k

abbrev KeepsAfter : State → After → Type 0
KeepsAfter s (goes e) = e.rule ≡ 1 → KeepsBoth s e
KeepsAfter s (ends_at_place e h) = ◌≡◌ {A = ℕ} 0 0
KeepsAfter s (ends_at_facet e h) = ◌≡◌ {A = ℕ} 0 0

met_below : (way : List ℕ) (q : ℕ → Bool) → IndicesBelow way → (n h : ℕ) → h < 16 → first_met way q n h < 16
unfolding first_met
met_below way q I zero h l = l
met_below way q I (suc n) h l = ⊎_elim
    (λ (e : q h ≡ true). rw e l)
    (λ (e : q h ≡ false). rw e (met_below way q I n (at way h) (below way I h)))
    (true_or_false (q h))

module _ (s : State) (I : IndicesBelow s.round.previous) where
  shrunk_else : (i e : ℕ) (into_u : Bool) → (shrink s i e into_u).rule ≡ 1 → ⊥
  unfolding shrink
  shrunk_else i e true r = omega arith
  shrunk_else i e false r = omega arith

  first-keeps : KeepsAfter s (leave_first s)
  unfolding leave_first
  first-keeps =
      let b = source_in s (at s.order 0) in
      let gone = eqb (at s.first b) 1 && not (bit s.T b) in
      ⊎_elim
      (λ e. rw e refl)
      (λ e. rw e (⊎_elim
      (λ (g : gone ≡ true). rw g (λ r. absurd (omega arith)))
      (λ (g : gone ≡ false). rw g (λ r. record { in_t = λ k l. refl; in_u = λ k l. refl }))
      (true_or_false gone)))
      (true_or_false (gone && is_filled s.round s.T s.U b))

  middle_keeps : (i : ℕ) → (leave_middle s i).rule ≡ 1 → KeepsBoth s (leave_middle s i)
  unfolding leave_middle
  middle_keeps i =
      let b = source_in s (at s.order i) in
      ⊎_elim
      (λ e. rw e (λ r. absurd (shrunk_else i (i - 1) true r)))
      (λ e. rw e (λ r. record { in_t = λ k l. refl; in_u = λ k l. refl }))
      (true_or_false (eqb (at s.order (i - 1)) b && eqb (at s.first b) 0))

  last-keeps : (leave_last s).rule ≡ 1 → KeepsBoth s (leave_last s)
  unfolding leave_last
  last-keeps =
      let t = length s.order in
      let h = at s.order (t - 1) in
      let b = first_outside_or_zero s.round s.U s.coefficients h in
      ⊎_elim
      (λ e. rw e (λ r. absurd (shrunk_else t (t - 1) true r)))
      (λ e. rw e (⊎_elim
      (λ f. rw f (λ r. absurd (shrunk_else t (t - 1) false r)))
      (λ f. rw f (⊎_elim
      (λ (u : bit s.U b ≡ true). rw u (λ r. absurd (omega arith)))
      (λ (u : bit s.U b ≡ false). rw u (λ r. record {
        in_t = λ k l. refl;
        in_u = λ k l. without_none s.U b k (met_below _ _ I _ _ (below s.round.previous I h)) l u;
      }))
      (true_or_false (bit s.U b))))
      (true_or_false (eqb (at s.coefficients h) 0))))
      (true_or_false (eqb (at s.first h) 0))

  leave-keeps : (i : ℕ) → KeepsAfter s (leave s i)
  unfolding leave
  leave-keeps i = ⊎_elim
      (λ (z : eqb i 0 ≡ true). rw z first-keeps)
      (λ (z : eqb i 0 ≡ false). rw z (⊎_elim
      (λ (l : ltb i (length s.order) ≡ true). rw l (middle_keeps i))
      (λ (l : ltb i (length s.order) ≡ false). rw l last-keeps)
      (true_or_false (ltb i (length s.order)))))
      (true_or_false (eqb i 0))

  grow-keeps : (h : ℕ) → KeepsAfter s (grow s h)
  unfolding grow
  grow-keeps h = ⊎_elim
      (λ e. rw e refl)
      (λ e. rw e (⊎_elim
      (λ (u : bit s.U h ≡ true). rw u (λ r. absurd (omega arith)))
      (λ (u : bit s.U h ≡ false). rw u (λ r. absurd (omega arith)))
      (true_or_false (bit s.U h))))
      (true_or_false (not (bit s.U h) && is_filled s.round s.T s.U h))

  way_keeps : (way : Way) → KeepsAfter s (way_after s way)
  way_keeps (Leaves i) = leave-keeps i
  way_keeps (Joins h) = grow-keeps h
  way_keeps Nothing = refl

  pub rule-one : (way : Way) (e : State) → way_after s way ≡ goes e → e.rule ≡ 1 → KeepsBoth s e
  rule-one way e q r = subst (KeepsAfter s) q (way_keeps way) r
