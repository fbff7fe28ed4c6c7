-- The byte of a label, and what is read of a byte. Assumes nothing.
use Rattle.std.proofs.Common.{true, false, ⊎_elim, ◌≡◌, ap, sym, ◌∙◌, ℕ, eqb, Option, Some, arith}
use borrow.Author.Tests.{eqb-true}
use Rattle.combinatorics.proofs.Basics.{true_or_false}
use Rattle.label_table.specs.Labels.{label_byte, label_of}

-- a byte tells its label
pub byte_read : (byte : ℕ) → label_byte (label_of byte) ≡ byte
byte_read byte = ⊎_elim (λ (e : eqb byte 0 ≡ true). rw e (sym (eqb-true byte 0 e)))
    (λ (e : eqb byte 0 ≡ false). rw e) (true_or_false (eqb byte 0))

pub byte_told : (byte : ℕ) (l : Option ℕ) → label_of byte ≡ l → label_byte l ≡ byte
byte_told byte l e = sym (ap label_byte e) ∙ byte_read byte

-- a byte with a label is not 0
pub byte_some : (byte l : ℕ) → label_of byte ≡ Some l → byte ≡ 0 → ⊥
byte_some byte l e z =
    let f : label_of 0 ≡ Some l = rw z at e in
    let n : ◌≡◌ {A = ℕ} 0 1 = cc in
    omega arith

-- the byte of a label that is read is not 0
pub label-some : (l : Option ℕ) (byte : ℕ) → l ≡ label_of (label_byte l) → l ≡ Some byte → byte ≡ 0 → ⊥
label-some l byte e f z = byte_some byte byte (sym (rw f at e)) z
