-- The measure of `decimal` is the number, which a division by ten makes smaller. Assumes nothing.
use Rattle.text.proofs.+decimal.Given as goal

abbrev pub decreases-decimal : goal.decreases-decimal
decreases-decimal l = l.n
