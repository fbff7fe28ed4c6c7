-- Centres worked out. Assumes nothing.
use mathlib.Core.Path.{◌≡◌, refl}
use mathlib.Core.List.{[], ◌∷◌}
use Rattle.rounding.specs.Centre.{is_nearest, rounded, centre}

-- "0.5 ten-thousandths prints 0 and 1.5 prints 2", and 2.5 prints 2: of one vertex, and of two. A third and two thirds,
-- whose divisor is odd. 312.5 and 937.5, the halves with the least divisor.
pub worked
    : centre 1 1 20000 ∷ centre 3 1 20000 ∷ centre 5 1 20000 ∷ centre 1 2 10000 ∷ centre 3 2 10000 ∷ centre 5 2 10000 ∷
    centre 1 1 3 ∷ centre 2 1 3 ∷ centre 1 1 32 ∷ centre 3 1 32 ∷ []
    ≡ 0 ∷ 2 ∷ 2 ∷ 0 ∷ 2 ∷ 2 ∷
    3333 ∷ 6667 ∷ 312 ∷ 938 ∷ []
unfolding is_nearest rounded centre
worked = refl
