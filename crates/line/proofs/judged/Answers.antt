-- `judged` meets its contract, by cases.
use Rattle.line.proofs.judged.Goals as goal

pub returns-then-not-good : goal.returns-then-not-good
returns-then-not-good c = rw c.if-not-good.true

pub returns-then-gives : goal.returns-then-gives
returns-then-gives c = rw (c.if-not-good.false, c.if-gives.true)

pub returns-else-gives : goal.returns-else-gives
returns-else-gives c = rw (c.if-not-good.false, c.if-gives.false)
