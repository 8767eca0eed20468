use borrow.Author.Tests.{eq-eqb, ne_eqb}
use Rattle.words.proofs.TableLaws.{no-form}
use Rattle.words.specs.Table.{step_state}
use Rattle.words.proofs.table.state.Goals as goal

pub returns-then-is_sent : goal.returns-then-is_sent
unfolding step_state
returns-then-is_sent c = rw (c.in-Form.is, ← c.is_sent.ensures, c.if-is_sent.true)

pub returns-else-is_sent : goal.returns-else-is_sent
unfolding step_state
returns-else-is_sent c = rw (c.in-Form.is, ← c.is_sent.ensures, c.if-is_sent.false)

pub returns-then-b-eq37 : goal.returns-then-b-eq37
unfolding step_state
returns-then-b-eq37 c = rw (no-form c.in-Name.is, eq-eqb _ _ c.if-b-eq37.true)

pub returns-then-is_silent : goal.returns-then-is_silent
unfolding step_state
returns-then-is_silent c = rw (no-form c.in-Name.is, ne_eqb _ _ c.if-b-eq37.false, ← c.is_silent.ensures, c.if-is_silent.true)

pub returns-else-is_silent : goal.returns-else-is_silent
unfolding step_state
returns-else-is_silent c = rw (no-form c.in-Name.is, ne_eqb _ _ c.if-b-eq37.false, ← c.is_silent.ensures, c.if-is_silent.false)
