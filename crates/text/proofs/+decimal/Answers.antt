-- `decimal` meets its contract: a digit, and where there are more the digits before it. Assumes nothing.
use native.Mathlib.Omega.{arith}
use Rattle.text.proofs.Decimals.{decimal-one, decimal_more, decimal-length}
use Rattle.text.proofs.Parts.{part_join}
use Rattle.text.proofs.+decimal.Goals as goal

pub returns-then-n-lt10 : goal.returns-then-n-lt10
returns-then-n-lt10 t c =
    rw (decimal-one c.args.n (omega arith)) (c.byte.ensures, omega (arith, c.byte.ensures.behind))

pub returns-else-n-lt10 : goal.returns-else-n-lt10
returns-else-n-lt10 t c =
    let n = c.args.n in
    let written =
    rw (← decimal_more n (omega arith)) at (part_join c.decimal-next.ensures.0 c.byte-else-n-lt10.ensures) in
    (written, omega (arith, decimal-length 19 n (omega arith), written.behind))
