use Rattle.std.proofs.Common.{arith}
use Rattle.std.proofs.lemmas.Bool.Decides.{nat_tests}
use Rattle.form_number.specs.Number.{below_of}
use Rattle.form_number.proofs.read.less.Goals as goal

pub returns : goal.returns
unfolding below_of
returns c = grind (arith, nat_tests)
