use Rattle.std.proofs.Common.{arith}
use Rattle.std.proofs.lemmas.Bool.Decides.{nat_tests}
use Rattle.form_mask.specs.Masks.{hex_digits_of}
use Rattle.form_mask.proofs.read.hex_digits.Goals as goal

pub returns-then-s-lo : goal.returns-then-s-lo
unfolding hex_digits_of
returns-then-s-lo c = grind (arith, nat_tests)

pub returns : goal.returns
unfolding hex_digits_of
returns c = grind (arith, nat_tests)
