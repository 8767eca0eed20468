-- `maybe` meets its contract: an empty field is missing, any other is told.
use Rattle.std.proofs.Common.{arith}
use Rattle.std.proofs.lemmas.Bool.Decides.{nat_tests}
use Rattle.form.specs.Got.{maybe_of}
use Rattle.form.proofs.got.maybe.Goals as goal

pub returns-then-is_empty : goal.returns-then-is_empty
unfolding maybe_of
returns-then-is_empty c = grind (arith, nat_tests)

pub returns : goal.returns
unfolding maybe_of
returns c = grind (arith, nat_tests)
