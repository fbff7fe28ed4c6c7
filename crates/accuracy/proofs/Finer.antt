-- A grid with k times the divisions of another, as the levels of a refinement are: there the amount that a player gains
-- is at most the k-th part. Assumes nothing.
use mathlib.Core.Bool.{true}
use mathlib.Core.List.{List, [], ◌∷◌, map}
use mathlib.Core.Path.{◌≡◌, refl, sym, ap, ◌∙◌, subst}
use Prim.Native.Nat.{ℕ, suc, ◌*◌, ◌/◌, ◌<◌}
use lib.Dec.{eqb, leb}
use lib.ListN.{length, get_or, length-map}
use native.Mathlib.Omega.{arith}
use Rattle.accuracy.proofs.Shares.{opponent_below, others_shares, part_of}
use Rattle.accuracy.specs.Accuracy.{share}
use Rattle.accuracy.specs.Calls.{AllowanceDivided}
use Rattle.combinatorics.proofs.Lists.{in_here, in_later, on_numbers}
use Rattle.combinatorics.specs.Lists.{all, is_in, sum}
use Rattle.game_losses.specs.Game.{opponents, product}
use Rattle.grid_points.proofs.Accepted.{accepted}
use Rattle.grid_points.specs.Grid.{Grid, division, num_blocks, size}
use Rattle.grid_points.specs.Questions.{grid_questions}
use Rattle.questions.specs.Questions.{first_no}
use Rattle.refinement_levels.proofs.Grids.{level_next, times-at}
use Rattle.refinement_levels.specs.Levels.{Refinement, grid_at, level_grid}

-- the same sizes, and k times each division
abbrev TimesFiner : ℕ → Grid → Grid → Type 0
TimesFiner k g fine = (fine.sizes ≡ g.sizes) × (length fine.divisions ≡ length g.divisions)
    × ((l : ℕ) → l < num_blocks g → division fine l ≡ k * division g l)

module _ (k : ℕ) (g fine : Grid) (F : TimesFiner k g fine) (even : length g.divisions ≡ num_blocks g)
    (some-each : all (λ d. leb 1 d) g.divisions ≡ true) (fine-each : all (λ d. leb 1 d) fine.divisions ≡ true)
  where
    same_blocks : num_blocks fine ≡ num_blocks g
    same_blocks = ap length F.0

    fine_even : length fine.divisions ≡ num_blocks fine
    fine_even = F.1 ∙ even ∙ sym same_blocks

    share-divided : (l : ℕ) → l < num_blocks g
        → product fine.divisions * share g l ≡ k * (product g.divisions * share fine l)
    share-divided l b =
        let D : ℕ = product g.divisions in
        let D' : ℕ = product fine.divisions in
        let w : ℕ = D / division g l in
        let w' : ℕ = D' / division fine l in
        let half : ℕ = size g l / 2 in
        let same : size fine l / 2 ≡ half = ap (λ (s : List ℕ). get_or s l 0 / 2) F.0 in
        let a : division g l * w ≡ D = part_of g even some-each l b in
        let c : k * division g l * w' ≡ D' = ap (λ (n : ℕ). n * w') (sym (F.2 l b))
        ∙ part_of fine fine_even fine-each l (omega (arith, same_blocks)) in
        let x : D' * (half * w) ≡ k * division g l * w' * (half * w) = ap (λ (n : ℕ). n * (half * w)) (sym c) in
        let y : D * (half * w') ≡ division g l * w * (half * w') = ap (λ (n : ℕ). n * (half * w')) (sym a) in
        let z : k * (D * (half * w')) ≡ k * (division g l * w * (half * w')) = ap (λ (n : ℕ). k * n) y in
        rw same (omega arith)

    sum-divided : (ls : List ℕ) → ((l : ℕ) → is_in eqb l ls ≡ true → l < num_blocks g)
        → product fine.divisions * sum (map (share g) ls) ≡ k * (product g.divisions * sum (map (share fine) ls))
    sum-divided [] h = omega arith
    sum-divided (l ∷ ls) h = omega (
      arith,
      share-divided l (h l (in_here on_numbers l ls)),
      sum-divided ls (λ i m. h i (in_later on_numbers i l ls m)),
    )

    pub allowance-divided : AllowanceDivided k g fine
    allowance-divided range j b =
        let same : opponents fine j ≡ opponents g j = rw same_blocks in
        let s : 2 * range * (product fine.divisions * sum (map (share g) (opponents g j)))
        ≡ 2 * range * (k * (product g.divisions * sum (map (share fine) (opponents g j)))) =
        ap (λ (n : ℕ). 2 * range * n) (sum-divided (opponents g j) (opponent_below g j)) in
        rw (others_shares g j b, others_shares fine j (omega (arith, same_blocks)), same) (omega arith)

next-finer : (g : Grid) (k i : ℕ) → TimesFiner k (grid_at g k i) (grid_at g k (suc i))
next-finer g k i = subst
    (λ (fine : Grid). TimesFiner k (grid_at g k i) fine)
    (sym (level_next g k i))
    (refl, length-map (grid_at g k i).divisions (λ x. k * x), (λ l b. times-at k (grid_at g k i).divisions l))

pub level_divided : (r : Refinement) (i : ℕ) → first_no (grid_questions (level_grid r i)) ≡ 0
    → first_no (grid_questions (level_grid r (suc i))) ≡ 0
    → AllowanceDivided r.factor (level_grid r i) (level_grid r (suc i))
level_divided r i e f =
    let a = accepted (level_grid r i) e in
    let b = accepted (level_grid r (suc i)) f in
    allowance-divided r.factor (level_grid r i) (level_grid r (suc i)) (next-finer r.grid r.factor i)
    a.same_number a.divisions_one b.divisions_one
