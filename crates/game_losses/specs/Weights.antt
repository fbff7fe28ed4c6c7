-- What the functions within a labelling work out: rows of losses weighed by mixes. Assumes nothing.
use Rattle.std.specs.Prelude.{Bool, List, [], ◌∷◌, map, ℕ, zero, suc, ◌*◌, ltb, length, drop}
use Rattle.combinatorics.specs.Lists.{all, concat_map}
use Rattle.grid_points.specs.Grid.{Grid, Point, size}
use Rattle.game_losses.specs.Game.{dot, mix, opponents}

-- each of the first n rows of values, as long as the weights, becomes the sum of its values weighed
abbrev pub weighed : ℕ → List ℕ → List ℕ → List ℕ
weighed zero weights values = []
weighed (suc n) weights values = dot weights values ∷ weighed n weights (drop (length weights) values)

-- each entry of one list times each of the other
abbrev pub spread : List ℕ → List ℕ → List ℕ
spread xs ys = concat_map (λ x. map (λ y. x * y) ys) xs

-- the products of the mixes at all profiles, in lexicographic order
abbrev pub weights : List (List ℕ) → List ℕ
weights [] = 1 ∷ []
weights (x ∷ xs) = spread x (weights xs)

-- each value fits 32 bits
abbrev pub fit : List ℕ → Bool
fit values = all (λ v. ltb v 4294967296) values

-- the losses of player j's strategies against the opponents' mixes, out of the losses of player j
abbrev pub strategy_losses : Grid → Point → ℕ → List ℕ → List ℕ
strategy_losses g y j losses = weighed (size g j) (weights (map (mix g y) (opponents g j))) losses
