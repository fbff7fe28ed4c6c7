-- A game's label of a point names an index whose difference is none smaller than any other's. Assumes nothing.
use mathlib.Core.Bool.{Bool, true, false, cond}
use mathlib.Core.List.{List, []}
use mathlib.Core.Logic.{⊎_elim}
use mathlib.Core.Path.{◌≡◌, refl, sym, ap, ◌∙◌, subst}
use Prim.Native.Nat.{ℕ, zero, suc, pred, ◌+◌, ◌-◌, ◌≤◌, ◌<◌}
use borrow.Author.Tests.{le-ltb, ltb-false, ltb-true}
use lib.Dec.{ltb}
use lib.IntN.{ℤ, pos, negsuc, sub_ℕ, ◌-ℤ◌}
use lib.ListN.{length}
use lib.Signed.{lt_z}
use native.Mathlib.Omega.{arith}
use Rattle.check_simplices.specs.Simplices.{labelled_by}
use Rattle.combinatorics.proofs.Basics.{absurd_bool, true_or_false}
use Rattle.combinatorics.proofs.Lists.{mapped_at}
use Rattle.game_losses.proofs.FirstLargest.{Leads, leads_end, leads_kept, leads_start, leads_taken}
use Rattle.grid_points.proofs.Points.{in_points, position_in_lem}
use Rattle.grid_points.specs.Grid.{Grid, Point, indices, is_grid_point, num_blocks, num_indices, points, position}
use Rattle.game_losses.specs.Game.{difference, first_largest, game_label, labels, player_loss, replaced_loss}
use Rattle.place.specs.Problem.{label}
use Rattle.positions.proofs.Positions.{at-position_in}

-- among some integers one is the first largest
leads : (value : ℕ → ℤ) (n : ℕ) → (best : ℕ) × (most : ℤ) × Leads value best most (n + 1)
leads value zero = (0, value 0, leads_start value (value 0) refl)
leads value (suc n) =
    let w = leads value n in
    let i : suc n ≡ n + 1 = omega arith in
    ⊎_elim
    (λ t. (n + 1, value (n + 1), rw i (leads_taken value w.0 w.1 (value (n + 1)) (n + 1) w.2 refl t)))
    (λ f. (w.0, w.1, rw i (leads_kept value w.0 w.1 (value (n + 1)) (n + 1) w.2 refl f)))
    (true_or_false (lt_z w.1 (value (n + 1))))

pub none_larger : (value : ℕ → ℤ) (g : Grid) (k : ℕ) → k < num_indices g
    → lt_z (value (first_largest value (indices g))) (value k) ≡ false
none_larger value g k l =
    let m : ℕ = num_indices g - 1 in
    let e : m + 1 ≡ num_indices g = omega arith in
    let w = leads value m in
    let L : Leads value w.0 w.1 (num_indices g) =
    subst (λ (n : ℕ). Leads value w.0 w.1 n) e w.2 in
    subst (λ (b : ℕ). lt_z (value b) (value k) ≡ false) (sym (leads_end value w.0 w.1 (num_indices g) L)) (L.none k l)

-- differences of whole numbers, compared
difference-is : (a b : ℕ) → pos a -ℤ pos b ≡ sub_ℕ a b
difference-is a zero = rw (le-ltb a 0 (omega arith)) (ap pos (omega arith))
difference-is a (suc b) = refl

pub not_larger : (a b c d : ℕ) → lt_z (pos a -ℤ pos b) (pos c -ℤ pos d) ≡ false → c + b ≤ a + d
not_larger a b c d h = go (ltb a b) (ltb c d) refl refl (rw (difference-is a b, difference-is c d) at h)
  where
    go : (s t : Bool) → ltb a b ≡ s → ltb c d ≡ t
        → lt_z (cond s (negsuc (b - suc a)) (pos (a - b))) (cond t (negsuc (d - suc c)) (pos (c - d))) ≡ false
        → c + b ≤ a + d
    go true true e f h = omega (arith, ltb-true a b e, ltb-true c d f, ltb-false (d - suc c) (b - suc a) h)
    go true false e f h = absurd_bool h
    go false true e f h = omega (arith, ltb-false a b e, ltb-true c d f)
    go false false e f h = omega (arith, ltb-false a b e, ltb-false c d f, ltb-false (a - b) (c - d) h)

-- the label's difference is a largest
pub label_largest : (g : Grid) (losses : List ℕ) (y : Point) (h : ℕ) → game_label g losses y ≡ suc h → (k : ℕ)
    → k < num_indices g
    → player_loss g losses y k + replaced_loss g losses y h ≤ player_loss g losses y h + replaced_loss g losses y k
unfolding game_label
label_largest g losses y h e k l =
    let b : first_largest (difference g losses y) (indices g) ≡ h = ap pred e in
    not_larger (player_loss g losses y h) (replaced_loss g losses y h) (player_loss g losses y k)
    (replaced_loss g losses y k)
    (subst (λ (n : ℕ). lt_z (difference g losses y n) (difference g losses y k) ≡ false) b
    (none_larger (difference g losses y) g k l))

-- the table's label of a grid point is the game's
pub table-label : (g : Grid) (losses : List ℕ) → length g.divisions ≡ num_blocks g → (y : Point)
    → is_grid_point g y ≡ true
    → label (labelled_by g (labels g losses)) y ≡ game_label g losses y
unfolding label labels
table-label g losses even y h =
    let m = in_points g y even h in
    mapped_at (game_label g losses) [] (points g) (position g y) (position_in_lem (points g) y m)
    ∙ ap (game_label g losses) (at-position_in (points g) y m)
