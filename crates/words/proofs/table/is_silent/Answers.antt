use Rattle.std.proofs.Common.{arith}
use Rattle.std.proofs.lemmas.Bool.Decides.{nat_tests}
use Rattle.words.proofs.TableLaws.{not-passed}
use Rattle.words.specs.Table.{is_silent}
use Rattle.words.proofs.table.is_silent.Goals as goal

pub returns-in-Name : goal.returns-in-Name
unfolding is_silent
returns-in-Name c = rw (not-passed c.in-Name.is) (grind (arith, nat_tests))

pub returns-in-Passed : goal.returns-in-Passed
unfolding is_silent
returns-in-Passed c = rw c.in-Passed.is (grind (arith, nat_tests))
