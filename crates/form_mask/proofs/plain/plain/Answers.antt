use Rattle.std.proofs.Common.{arith}
use Rattle.std.proofs.lemmas.Bool.Decides.{nat_tests}
use Rattle.form_mask.specs.Rates.{plain_of}
use Rattle.form_mask.proofs.plain.plain.Goals as goal

pub returns-then-f-eq48 : goal.returns-then-f-eq48
unfolding plain_of
returns-then-f-eq48 c = grind (arith, nat_tests)

pub returns : goal.returns
unfolding plain_of
returns c = grind (arith, nat_tests)
