-- The numbers of the reader tell its answer. Assumes nothing.
use Rattle.combinatorics.proofs.Basics.{absurd_bool}
use Rattle.trail_reader.specs.declared.answers.ReadAnswer.TheVariants.{Place, Refused}
use Rattle.trail_reader_exports.specs.Read.{ReadNumbersTell}

pub read-numbers_tell : ReadNumbersTell
read-numbers_tell (Refused n) (Refused m) e f = cc
read-numbers_tell (Refused n) (Place points t u read) e f = absurd_bool (cc)
read-numbers_tell (Place points t u read) (Refused m) e f = absurd_bool (cc)
read-numbers_tell (Place points t u read) (Place many s v labels) e f = cc
