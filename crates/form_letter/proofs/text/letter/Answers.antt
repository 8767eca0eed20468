-- A comma, then the byte.
use Rattle.put.proofs.Chain.{◌⨾◌, a-field}
use Rattle.form_letter.proofs.text.letter.Goals as goal

pub returns : goal.returns
returns c = a-field (c.put-a.ensures ⨾ c.put.ensures)
