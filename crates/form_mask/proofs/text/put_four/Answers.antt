-- The first two, then the last two.
use Rattle.form_mask.specs.Masks.{print_hex}
use Rattle.put.proofs.Chain.{◌⨾◌}
use Rattle.form_mask.proofs.text.put_four.Goals as goal

pub returns : goal.returns
unfolding print_hex
returns c = c.put_two-a.ensures ⨾ c.put_two.ensures
