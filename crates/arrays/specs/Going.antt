-- What moving the first point on or back by a step asks of what is held, and what it leaves there. Assumes nothing.
use Rattle.std.specs.Prelude.{true, ◌≡◌, ℕ, suc, pred, ◌≤◌, ◌<◌, drop, ltb, take}
use Rattle.combinatorics.specs.Edits.{rotate_left, rotate_right}
use Rattle.grid_points.specs.Grid.{at}
use Rattle.rules.specs.Ready.{IndicesBelow, tested_before}
use Rattle.rules.specs.Moves.{shifted, changed_before}
use Rattle.rules.specs.declared.Round.{Round}
use Rattle.arrays.specs.declared.holding.Held.{Held}

-- n steps at the front of the order, with their marks, can move on by a step at h that takes from b
pub record CanGo (round : Round) (n h b : ℕ) : Type 0 where
  pub some : 1 ≤ n
  pub few : n ≤ 15
  pub index : h < 16
  pub source : b < 16
  pub below : IndicesBelow round.previous

-- the second point can be the first
pub record CanGoForward (round : Round) (held : Held) (h b : ℕ) : Type 0 where
  pub fits : at held.first h < 65535
  pub positive : 1 ≤ at held.first b
  pub raised : tested_before (λ x. ltb x 65535) suc round.previous b 16 h held.coefficients ≡ true

pub record GoesForward (round : Round) (old new : Held) (n h b : ℕ) : Type 0 where
  pub point : new.first ≡ shifted old.first h b
  pub list : new.coefficients ≡ changed_before suc round.previous b 16 h old.coefficients
  pub steps : take n new.order ≡ rotate_left (take n old.order)
  pub marked : take (suc n) new.marks ≡ rotate_left (take (suc n) old.marks)
  pub behind_steps : drop n new.order ≡ drop n old.order
  pub behind_marks : drop (suc n) new.marks ≡ drop (suc n) old.marks

-- and back
pub record CanGoBack (round : Round) (held : Held) (h b : ℕ) : Type 0 where
  pub fits : at held.first b < 65535
  pub positive : 1 ≤ at held.first h
  pub lowered : tested_before (λ x. ltb 0 x) pred round.previous b 16 h held.coefficients ≡ true

pub record GoesBack (round : Round) (old new : Held) (n h b : ℕ) : Type 0 where
  pub point : new.first ≡ shifted old.first b h
  pub list : new.coefficients ≡ changed_before pred round.previous b 16 h old.coefficients
  pub steps : take n new.order ≡ rotate_right (take n old.order)
  pub marked : take (suc n) new.marks ≡ rotate_right (take (suc n) old.marks)
  pub behind_steps : drop n new.order ≡ drop n old.order
  pub behind_marks : drop (suc n) new.marks ≡ drop (suc n) old.marks
