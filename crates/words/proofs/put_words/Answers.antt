-- The rows of the kind, then those of the satellites, if it is GSV.
use borrow.Author.Tests.{eq-eqb, ne_eqb}
use Rattle.put.proofs.Chain.{◌⨾◌, nothing_put}
use Rattle.words.specs.Words.{words_text}
use Rattle.words.proofs.put_words.Goals as goal

pub returns-then-kind-eq4 : goal.returns-then-kind-eq4
unfolding words_text
returns-then-kind-eq4 c =
    rw (eq-eqb _ _ c.if-kind-eq4.true) ((rw (c.nth_of-table.ensures, c.talkers.ensures) at c.put_table-a.ensures)
    ⨾ (rw c.whole_at.ensures at c.put_entries.ensures))

pub returns : goal.returns
unfolding words_text
returns c =
    rw (ne_eqb _ _ c.if-kind-eq4.false) ((rw (c.nth_of-table.ensures, c.talkers.ensures) at c.put_table-a.ensures) ⨾ nothing_put _)
