-- A number in decimal, as bytes. Assumes nothing.
use Rattle.std.specs.Prelude.{cond, List, [], ◌∷◌, ◌++◌, ℕ, zero, suc, ◌+◌, ◌/◌, ◌%◌, ltb}

-- the byte of the last digit of n; 48 is the byte of the digit 0
abbrev pub digit : ℕ → ℕ
digit n = 48 + n % 10

-- The digits of n by at most `left` divisions by ten. `others` is bound first because a call's arguments are computed
-- even where they are not used.
unfoldable pub digits : ℕ → ℕ → List ℕ
digits zero n = digit n ∷ []
digits (suc left) n =
    let others = digits left (n / 10) in
    cond (ltb n 10) [] others ++ (digit n ∷ [])

-- "Numbers are decimal": n divisions are enough for n
unfoldable pub decimal : ℕ → List ℕ
decimal n = digits n n
