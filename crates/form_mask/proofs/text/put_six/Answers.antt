-- The first two, then the last four.
use Rattle.form_mask.specs.Masks.{print_hex}
use Rattle.put.proofs.Chain.{◌⨾◌}
use Rattle.form_mask.proofs.text.put_six.Goals as goal

pub returns : goal.returns
unfolding print_hex
returns c = c.put_two-a.ensures ⨾ c.put_four.ensures
