-- What a point keeps of the one before it: the levels up to the first block that has changed. Assumes nothing.
use mathlib.Core.List.{List, [], ◌∷◌}
use mathlib.Core.Path.{◌≡◌, sym, ap, ◌∙◌}
use Prim.Native.Nat.{ℕ, zero, suc, ◌≤◌}
use lib.ListN.{take}
use lib.Seq.{take-take}
use native.Mathlib.Omega.{arith}
use Rattle.combinatorics.specs.Lists.{sum}
use Rattle.grid_points.specs.Grid.{Grid, Point, first_index}
use Rattle.game_weighed.proofs.Levels.{levelled-kept}
use Rattle.game_weighed.specs.Levels.{StandTo}

-- the indices before a block are before the later ones
sums-grow : (ss : List ℕ) (i l : ℕ) → i ≤ l → sum (take i ss) ≤ sum (take l ss)
sums-grow ss zero l h = omega arith
sums-grow [] (suc i) l h = omega arith
sums-grow (s ∷ ss) (suc i) zero h = absurd (omega arith)
sums-grow (s ∷ ss) (suc i) (suc l) h = omega (arith, sums-grow ss i l (omega arith))

pub levels_kept : (g : Grid) (losses : List ℕ) (y z : Point) (l n : ℕ) (levels : List ℕ) → l ≤ n
    → take (first_index g l) z ≡ take (first_index g l) y → StandTo g losses y n levels
    → StandTo g losses z l levels
levels_kept g losses y z l n levels b e stand i c h t d f =
    let low : first_index g i ≤ first_index g l = sums-grow g.sizes i l c in
    let same : take (first_index g i) y ≡ take (first_index g i) z =
    sym (take-take (first_index g i) (first_index g l) y low)
    ∙ ap (take (first_index g i)) (sym e)
    ∙ take-take (first_index g i) (first_index g l) z low in
    stand i (omega arith) h t d f ∙ levelled-kept g losses h y z i t same
