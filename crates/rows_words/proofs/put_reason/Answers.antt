-- Nothing of a line that was read; else the row between its blanks and its LF.
use Rattle.put.proofs.Chain.{◌⨾◌, nothing_put}
use borrow.Author.Tests.{eq-eqb, ne_eqb}
use Rattle.rows_words.specs.Worded.{reason_row}
use Rattle.rows_words.proofs.put_reason.Goals as goal

pub returns-then-no-eq0 : goal.returns-then-no-eq0
unfolding reason_row
returns-then-no-eq0 c = rw (eq-eqb _ 0 c.if-no-eq0.true) (nothing_put _)

pub returns : goal.returns
unfolding reason_row
returns c =
    rw (ne_eqb _ 0 c.if-no-eq0.false) (c.put_bytes-a0.ensures ⨾ c.put_reason-a1.ensures ⨾ c.put.ensures)
