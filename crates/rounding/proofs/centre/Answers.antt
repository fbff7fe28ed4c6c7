-- `centre` meets its contract: its products fit, its divisor is not 0, and the quotient or one more is nearest, as no
-- other number is. Assumes nothing.
use Prim.Native.Nat.{ℕ, ◌-◌, ◌*◌, ◌/◌, ◌≤◌, ◌<◌}
use native.Mathlib.Nat.{add-le-add, div-add-mod', div-le_self, div-mul-le_self, le_refl, mod-lt, mul-le-mul, mul-pos}
use native.Mathlib.Omega.{arith}
use mir.Facts.{Fits-le}
use Rattle.rounding.specs.Centre.{centre as centre_of}
use Rattle.rounding.proofs.Rounding.{nearest-above, nearest-below, nearest-only}
use Rattle.rounding.proofs.centre.Goals as goal

-- the divisor's bound
product : (n d : ℕ) → n ≤ 16 → d ≤ 65535 → n * d ≤ 1048560
product n d p q = mul-le-mul p q

pub overflow_mul-divisor : goal.overflow_mul-divisor
overflow_mul-divisor c = omega (arith, product c.args.count c.from.result (omega arith) (omega arith))

pub nonzero_div-number : goal.nonzero_div-number
nonzero_div-number c = mul-pos (omega arith) (omega arith)

pub overflow_mul-rest : goal.overflow_mul-rest
overflow_mul-rest c = Fits-le (div-mul-le_self _ _) (omega arith)

pub overflow_sub-rest : goal.overflow_sub-rest
overflow_sub-rest c = div-mul-le_self _ _

pub overflow_add-rest : goal.overflow_add-rest
overflow_add-rest c = omega (arith, product c.args.count c.from.result (omega arith) (omega arith))

pub overflow_add-result : goal.overflow_add-result
overflow_add-result c = Fits-le (add-le-add (div-le_self _ _) (le_refl _)) (omega arith)

-- the quotient with its rest is the whole, and the rest is below the divisor
pub returns-then-divisor-rest : goal.returns-then-divisor-rest
unfolding centre_of
returns-then-divisor-rest c =
    let a = c.args in
    let d = c.from.result in
    let b = a.count * d in
    let parts = 10000 * a.total in
    let positive : 0 < b = mul-pos {m = a.count} {n = d} (omega arith) (omega arith) in
    let whole = div-add-mod' parts b in
    let below = mod-lt parts positive in
    rw (← c.from.ensures) (nearest-only parts b positive _
    (nearest-above parts b (parts / b) (parts - parts / b * b) (omega arith) (omega arith) (omega arith)))

pub returns-else-divisor-rest : goal.returns-else-divisor-rest
unfolding centre_of
returns-else-divisor-rest c =
    let a = c.args in
    let d = c.from.result in
    let b = a.count * d in
    let parts = 10000 * a.total in
    let positive : 0 < b = mul-pos {m = a.count} {n = d} (omega arith) (omega arith) in
    let whole = div-add-mod' parts b in
    rw (← c.from.ensures) (nearest-only parts b positive _
    (nearest-below parts b (parts / b) (parts - parts / b * b) (omega arith) (omega arith)))
