-- Request 14, "Backwards", of paths that reach an end: the way back from the last place, and the ways out of each
-- place. Assumes nothing.
use Rattle.std.specs.Prelude.{true, List, [], ◌∷◌, reverse, ◌≡◌, ℕ, suc, pred, ◌≤◌, ◌<◌, length}
use Rattle.std.proofs.Math.Option.{some}
use Rattle.place.specs.Ends.{ways}
use Rattle.place.specs.Links.{linked, links}
use Rattle.place.specs.Places.{Simplex, is_place}
use Rattle.place.specs.Problem.{Problem}
use Rattle.path_laws.specs.Demand.{place_at, left_at, last_place}

-- A list that begins with a given place, goes on "moving by links and never to the place just left", and cannot be
-- continued so: whatever place is linked to its last one is the place just left. Ends are not looked at.
pub record MovesFrom (p : Problem) (first : Simplex) (s : List Simplex) : Type 0 where
  pub nonempty : 0 < length s
  pub begins : place_at s 0 ≡ first
  pub places : (i : ℕ) → suc i < length s → is_place p (place_at s (suc i)) ≡ true
  pub links : (i : ℕ) → suc i < length s → linked p (place_at s i) (place_at s (suc i)) ≡ true
  pub onward : (i : ℕ) → suc (suc i) < length s → place_at s i ≡ place_at s (suc (suc i)) → ⊥
  pub stops : (x : Simplex) → is_place p x ≡ true → linked p (last_place s) x ≡ true → left_at s (pred (length s)) ≡ some x

-- of the places s of a path that reached an end, which may be {v} alone
pub record Backwards (p : Problem) (s : List Simplex) : Type 0 where
  -- "From the last place .. one visits the same places in opposite order": one can, and in no other way,
  pub opposite : MovesFrom p (last_place s) (reverse s)
  pub only : (t : List Simplex) → MovesFrom p (last_place s) t → t ≡ reverse s
  -- "and stops at {v}"
  pub stops : (t : List Simplex) → MovesFrom p (last_place s) t → last_place t ≡ p.start ∷ []
  -- "Except {v}, which has at most one link,": {v} is the first place of the path,
  pub start : place_at s 0 ≡ p.start ∷ []
  pub start_links : length (links p (p.start ∷ [])) ≤ 1
  -- and "every place on such a path has exactly two ways out, a way being a link or an end": every later one
  pub two : (i : ℕ) → suc i < length s → length (ways p (place_at s (suc i))) ≡ 2
