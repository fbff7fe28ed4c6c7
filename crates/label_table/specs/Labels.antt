-- What a look at a label table answers. Assumes nothing.
use Rattle.std.specs.Prelude.{cond, ℕ, eqb, Option, Some, None}

-- Request 02, "Looking up a label may therefore answer that there is none": of the byte that stands in the table
abbrev pub label_of : ℕ → Option ℕ
label_of byte = cond (eqb byte 0) None (Some byte)

-- the byte by which a label, or that there is none, is kept
abbrev pub label_byte : Option ℕ → ℕ
label_byte (Some byte) = byte
label_byte None = 0
