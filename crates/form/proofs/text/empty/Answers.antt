-- A comma alone.
use Rattle.put.proofs.Chain.{a-field}
use Rattle.form.proofs.text.empty.Goals as goal

pub returns : goal.returns
returns c = a-field c.put.ensures
