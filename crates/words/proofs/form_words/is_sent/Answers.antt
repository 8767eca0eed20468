use Rattle.std.proofs.Common.{arith}
use Rattle.std.proofs.lemmas.Bool.Decides.{nat_tests}
use Rattle.words.specs.Forms.{is_sent}
use Rattle.words.proofs.form_words.is_sent.Goals as goal

pub returns-then-f-lt97 : goal.returns-then-f-lt97
unfolding is_sent
returns-then-f-lt97 c = grind (arith, nat_tests)

pub returns-else-f-lt97 : goal.returns-else-f-lt97
unfolding is_sent
returns-else-f-lt97 c = grind (arith, nat_tests)
