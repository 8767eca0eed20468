use Rattle.std.proofs.Common.{◌∙◌}
use Rattle.exhibits_lists.proofs.Rows.{row-blank, row_more, row-two}
use Rattle.exhibits_lists.proofs.body.Goals as goal

pub returns-then-t-a : goal.returns-then-t-a
returns-then-t-a c = row-blank _ _ c.blanks-a.ensures.count c.if-t-a.true

pub returns-then-e-t : goal.returns-then-e-t
returns-then-e-t c = row_more _ _ c.blanks-a.ensures.count _ _ _ _ c.if-t-a.false
    c.width.ensures.count c.blanks.ensures.count c.width-2.ensures.count c.blanks-2.ensures.count c.if-e-t.true

pub returns : goal.returns
returns c = c.pair.ensures ∙ rw (c.parse.ensures, c.parse-2.ensures)
    (row-two _ _ c.blanks-a.ensures.count _ _ _ _ c.if-t-a.false
    c.width.ensures.count c.blanks.ensures.count c.width-2.ensures.count c.blanks-2.ensures.count c.if-e-t.false)
