use Rattle.words.proofs.TableLaws.{no-form}
use Rattle.words.specs.Table.{step_taken}
use Rattle.words.proofs.table.taken.Goals as goal

pub returns-in-Form : goal.returns-in-Form
unfolding step_taken
returns-in-Form c = rw c.in-Form.is c.taken.ensures

pub returns-in-Name : goal.returns-in-Name
unfolding step_taken
returns-in-Name c = rw (no-form c.in-Name.is)
