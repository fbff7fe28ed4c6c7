-- Document 01: "Numbers are decimal and multi-byte fields little-endian". A byte that is not there counts as 0.
-- Assumes nothing.
use Rattle.std.specs.Prelude.{List, [], ◌∷◌, map, ℕ, zero, suc, ◌+◌, ◌*◌, ◌/◌, ◌%◌, get_or}
use Rattle.combinatorics.specs.Lists.{concat_map, up_from}

-- the number that k bytes from a position on make
unfoldable pub number : ℕ → List ℕ → ℕ → ℕ
number zero bytes at = 0
number (suc k) bytes at = get_or bytes at 0 + 256 * number k bytes (at + 1)

-- 16-bit numbers one behind the other, from a position on
unfoldable pub words : ℕ → List ℕ → ℕ → List ℕ
words count bytes from = map (λ i. number 2 bytes (from + 2 * i)) (up_from 0 count)

-- the bytes of 16-bit numbers one behind the other
unfoldable pub bytes_of : List ℕ → List ℕ
bytes_of numbers = concat_map (λ x. x % 256 ∷ x / 256 ∷ []) numbers
