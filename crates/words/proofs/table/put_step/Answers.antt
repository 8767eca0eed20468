use Rattle.put.proofs.Chain.{nothing_put}
use Rattle.words.proofs.TableLaws.{no-form}
use Rattle.words.specs.Table.{step_text}
use Rattle.words.proofs.table.put_step.Goals as goal

pub returns-in-Form : goal.returns-in-Form
unfolding step_text
returns-in-Form c = rw c.in-Form.is c.put_value.ensures

pub returns-then-is_silent : goal.returns-then-is_silent
unfolding step_text
returns-then-is_silent c = rw (no-form c.in-Name.is, ← c.is_silent.ensures, c.if-is_silent.true) (nothing_put _)

pub returns-else-is_silent : goal.returns-else-is_silent
unfolding step_text
returns-else-is_silent c = rw (no-form c.in-Name.is, ← c.is_silent.ensures, c.if-is_silent.false) c.put.ensures
