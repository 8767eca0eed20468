-- `flaw_of` meets its contract: each way out is the first part that fails, those before it having held; the end has its own.
use mathlib.Core.Path.{sym, ◌∙◌}
use native.Mathlib.Omega.{arith}
use borrow.Author.Tests.{le-leb, lt-leb, ne_eqb}
use Rattle.digits.proofs.Parts.{rest}
use Rattle.line.proofs.Laws.{body-part}
use Rattle.line_flaw.specs.Flaw.{first_failing, flaw_of}
use Rattle.line_flaw.proofs.Laws.{flaw-end}
use Rattle.line_flaw.proofs.flaw_of.Goals as goal

pub returns-then-n-lt7 : goal.returns-then-n-lt7
unfolding flaw_of first_failing
returns-then-n-lt7 c = rw (lt-leb 7 _ c.if-n-lt7.true)

pub returns-then-n-gt82 : goal.returns-then-n-gt82
unfolding flaw_of first_failing
returns-then-n-gt82 c = rw (le-leb 7 _ c.if-n-lt7.false, lt-leb _ 82 c.if-n-gt82.true)

pub returns-then-line-ne36 : goal.returns-then-line-ne36
unfolding flaw_of first_failing
returns-then-line-ne36 c =
    rw (le-leb 7 _ c.if-n-lt7.false, le-leb _ 82 c.if-n-gt82.false, ne_eqb _ _ c.if-line-ne36.true)

pub returns : goal.returns
returns c =
    (rw (rest, c.forbidden_in-at.ensures, body-part c.args.line.now) at c.end_flaw.ensures) ∙ sym (flaw-end c.args.line.now (omega arith) (omega arith) c.if-line-ne36.false)
