-- A set of at most 16 indices as a mask of 16 bits. Assumes nothing.
use Rattle.std.specs.Prelude.{Bool, ℕ, ◌-◌, ◌*◌, ◌/◌, ◌%◌, ◌^◌, eqb}
use Rattle.std.specs.Int.Bits.{bit_or, bit_and}

-- index h belongs to the mask
unfoldable pub bit : ℕ → ℕ → Bool
bit mask h = eqb (mask / 2 ^ h % 2) 1

-- the mask with index h
unfoldable pub with_index : ℕ → ℕ → ℕ
with_index mask h = bit_or mask (1 * 2 ^ h % 65536)

-- the mask without index h
unfoldable pub without_index : ℕ → ℕ → ℕ
without_index mask h = bit_and mask (65535 - 1 * 2 ^ h % 65536)
