-- `within` meets its contract: a number is kept where the test of the definition holds.
use Rattle.std.proofs.Common.{arith, rules}
use Rattle.std.proofs.lemmas.Bool.Decides.{nat_tests}
use Rattle.form.specs.Got.{within_of}
use Rattle.form.proofs.got.within.Goals as goal

pub returns : goal.returns
unfolding within_of
returns c = grind (arith, nat_tests, rules)
