-- The bound fits 64 bits for every accepted grid. Assumes nothing.
use mathlib.Core.List.{map}
use mathlib.Core.Path.{◌≡◌, ap}
use Prim.Native.Nat.{ℕ, suc, ◌*◌, ◌^◌, ◌≤◌, ◌<◌}
use native.Mathlib.Nat.{mul-le-mul}
use native.Mathlib.Omega.{arith}
use Rattle.combinatorics.proofs.Terms.{terms_few}
use Rattle.combinatorics.specs.Counting.{falling}
use Rattle.combinatorics.specs.Lists.{sum, up_from}
use Rattle.questions.specs.Questions.{first_no}
use Rattle.grid_points.proofs.Accepted.{accepted}
use Rattle.grid_points.specs.Grid.{Grid, bound, num_points, num_indices, dimension}
use Rattle.grid_points.specs.Questions.{grid_questions}

pub bound-fits : (g : Grid) → first_no (grid_questions g) ≡ 0 → bound g < 2 ^ 64
unfolding bound
bound-fits g e =
    let a = accepted g e in
    let t : sum (map (falling (num_indices g)) (up_from 0 (suc (dimension g)))) ≤ 35951249665217 =
    terms_few (num_indices g) (dimension g) a.few_indices (omega (arith, a.few_indices, a.some_block)) in
    let p : num_points g * sum (map (falling (num_indices g)) (up_from 0 (suc (dimension g)))) ≤ 60000 * 35951249665217 =
    mul-le-mul a.few_points t in
    omega arith

-- the bound by the numbers that a made struct holds
pub bound_of : (g : Grid) (p m n : ℕ) → p ≡ num_points g → m ≡ num_indices g → n ≡ dimension g
    → p * sum (map (falling m) (up_from 0 (suc n))) ≡ bound g
unfolding bound
bound_of g p m n a b c = rw (a, c) (ap (λ (k : ℕ). num_points g * sum (map (falling k) (up_from 0 (suc (dimension g))))) b)
