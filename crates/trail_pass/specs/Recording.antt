-- What the pass that writes a trail asks and gives. The writer's own promise does not cite it. Assumes nothing.
use Rattle.std.specs.Prelude.{Bool, true, cond, List, ◌≡◌, ℕ, ◌≤◌, length, take}
use Rattle.combinatorics.specs.Front.{front}
use Rattle.path_pass.specs.declared.Finish.{Finish}
use Rattle.path_pass.specs.declared.Finish.TheVariants.{Ended, Spent, Unknown as UnknownLabel}
use Rattle.place.specs.Path.{path}
use Rattle.place.specs.Problem.{Problem}
use Rattle.trail.specs.Record.{trail_of}

-- the whole trail of the path has room, where the pass writes
abbrev pub HasRoomForTrail : Problem → Bool → ℕ → Type 0
HasRoomForTrail p writes room = writes ≡ true → length (trail_of p (path p).visited) ≤ room

-- the trail buffer once the pass has left `n` places behind it
abbrev pub left_behind : Problem → Bool → List ℕ → ℕ → List ℕ
left_behind p writes old n = cond writes (front (trail_of p (take n (path p).visited)) old) old

-- what a pass of at most `budget` places leaves in the trail, and counts: at the path's end the whole trail and its
-- bytes; else the records of the places visited, and no bytes, since there is no whole trail
abbrev pub Recorded : Problem → Bool → ℕ → List ℕ → List ℕ → ℕ → Finish → Type 0
Recorded p writes budget old new bytes (Ended kind places h s labels) =
    let whole = trail_of p (path p).visited in (bytes ≡ length whole) × (new ≡ cond writes (front whole old) old)
Recorded p writes budget old new bytes (UnknownLabel places place) =
    (bytes ≡ 0) × (new ≡ left_behind p writes old places)
Recorded p writes budget old new bytes Spent = (bytes ≡ 0) × (new ≡ left_behind p writes old budget)
