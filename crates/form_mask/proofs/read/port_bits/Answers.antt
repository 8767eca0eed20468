use Rattle.std.proofs.Common.{arith}
use Rattle.std.proofs.lemmas.Bool.Decides.{nat_tests}
use Rattle.form_mask.specs.Masks.{port_mask_of}
use Rattle.form_mask.proofs.read.port_bits.Goals as goal

pub returns : goal.returns
unfolding port_mask_of
returns c = grind (arith, nat_tests)
