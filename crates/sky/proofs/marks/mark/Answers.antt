-- `mark` meets its contract: a number that is not used leaves the marks.
use Rattle.sky.proofs.marks.mark.Goals as goal

pub returns-then-not-used : goal.returns-then-not-used
returns-then-not-used c = (rw c.if-not-used.true, rw c.if-not-used.true)

pub bounds-seen-i : goal.bounds-seen-i
bounds-seen-i c = c.requires c.if-not-used.false

pub bounds-seen-i-2 : goal.bounds-seen-i-2
bounds-seen-i-2 c = c.requires c.if-not-used.false

pub returns : goal.returns
returns c =
    (rw c.if-not-used.false, rw c.if-not-used.false)
