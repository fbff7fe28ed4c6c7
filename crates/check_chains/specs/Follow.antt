-- The coefficients of z with p as the start, where they are 0s and 1s: on one block, and on all. Assumes nothing.
use Rattle.std.specs.Prelude.{false, cond, Option, Some, None, ◌≡◌, ℕ, suc, ◌+◌, ◌≤◌, ◌<◌, ltb, length}
use Rattle.grid_points.specs.Grid.{Grid, Point, at, num_indices}
use Rattle.rules.specs.Mask.{bit}
use Rattle.check_simplices.specs.Chains.{coefficients_from, zero_or_one}
use Rattle.check_chains.specs.Sets.{bit_number, ClearFrom, IsSet}

-- 0s and 1s at the indices from `first` up to `end`, a block, with "y_h = v_h + c_h - c_(h+1) for every h, h + 1 taken
-- round the block": at `end` the first number stands again
pub record GoesRound (p z : Point) (first end : ℕ) (f : ℕ → ℕ) : Type 0 where
  pub small : (k : ℕ) → first ≤ k → k ≤ end → f k ≤ 1
  pub rule : (k : ℕ) → first ≤ k → k < end → at z k + f (suc k) ≡ at p k + f k
  pub round : f end ≡ f first

-- "at least one zero in each block"
abbrev pub HasZero : ℕ → ℕ → (ℕ → ℕ) → Type 0
HasZero first end f = (k : ℕ) × (first ≤ k) × (k < end) × (f k ≡ 0)

-- numbers on a block, and the first once more at the end
abbrev pub closed : ℕ → ℕ → (ℕ → ℕ) → ℕ → ℕ
closed first end f k = cond (ltb k end) (f k) (f first)

-- the coefficients can be followed over a block of indices of both points, and the set so far has indices before it
pub record CanFollow (p z : Point) (first end old : ℕ) : Type 0 where
  pub some : first < end
  pub few : end ≤ 16
  pub of_start : end ≤ length p
  pub of_point : end ≤ length z
  pub clear : ClearFrom first old

-- the set on a block, added to a set of indices before it
pub record Added (p z : Point) (first end old set : ℕ) : Type 0 where
  pub kept : (k : ℕ) → k < first → bit set k ≡ bit old k
  pub clear : ClearFrom end set
  pub below : set < 65536
  pub goes : GoesRound p z first end (closed first end (bit_number set))

-- what is found where the first number is to be c
abbrev pub FollowedFrom : Point → Point → ℕ → ℕ → ℕ → ℕ → Option ℕ → Type 0
FollowedFrom p z first end c old (Some set) = Added p z first end old set × (bit_number set first ≡ c)
FollowedFrom p z first end c old None = (f : ℕ → ℕ) → f first ≡ c → GoesRound p z first end f → ⊥

-- what is found on a block
abbrev pub FoundOnBlock : Point → Point → ℕ → ℕ → ℕ → Option ℕ → Type 0
FoundOnBlock p z first end old (Some set) = Added p z first end old set × HasZero first end (bit_number set)
FoundOnBlock p z first end old None = (f : ℕ → ℕ) → GoesRound p z first end f → ⊥

-- what is found of the whole list
abbrev pub FoundOf : Grid → Point → Point → Option ℕ → Type 0
FoundOf g p z (Some set) = IsSet (num_indices g) (coefficients_from g p z) set
FoundOf g p z None = zero_or_one g (coefficients_from g p z) ≡ false
