-- Binomials, products of falling factors, products of binomials, and how far apart two numbers stand. Assumes nothing.
use Rattle.std.specs.Prelude.{List, [], ◌∷◌, ℕ, zero, suc, pred, ◌+◌, ◌-◌, ◌*◌}

abbrev pub choose : ℕ → ℕ → ℕ
choose n zero = 1
choose zero (suc k) = 0
choose (suc n) (suc k) = choose n k + choose n (suc k)

-- m (m - 1) .., k factors
abbrev pub falling : ℕ → ℕ → ℕ
falling m zero = 1
falling m (suc k) = m * falling (m - 1) k

-- of sizes s_j and divisions d_j "the product over j of the binomials d_j + n_j choose n_j", n_j = s_j - 1
abbrev pub binomial_product : List ℕ → List ℕ → ℕ
binomial_product [] ds = 1
binomial_product (s ∷ ss) [] = 0
binomial_product (s ∷ ss) (d ∷ ds) = choose (d + pred s) (pred s) * binomial_product ss ds

-- how far apart two whole numbers stand: a difference stops at 0, so one of the two is 0
abbrev pub apart : ℕ → ℕ → ℕ
apart a b = (a - b) + (b - a)
