-- The first four, then the last four.
use Rattle.form_mask.specs.Masks.{print_hex}
use Rattle.put.proofs.Chain.{◌⨾◌}
use Rattle.form_mask.proofs.text.put_eight.Goals as goal

pub returns : goal.returns
unfolding print_hex
returns c = c.put_four-a.ensures ⨾ c.put_four.ensures
