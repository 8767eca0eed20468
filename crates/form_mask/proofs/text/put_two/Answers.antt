-- Two digits.
use Rattle.form_mask.specs.Masks.{print_hex}
use Rattle.put.proofs.Chain.{◌⨾◌}
use Rattle.form_mask.proofs.text.put_two.Goals as goal

pub returns : goal.returns
unfolding print_hex
returns c =
    (rw c.digit.ensures at c.put-a.ensures) ⨾ (rw c.digit-2.ensures at c.put.ensures)
