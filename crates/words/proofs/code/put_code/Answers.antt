-- By whether it is a mask.
use borrow.Author.Tests.{eq-eqb, ne_eqb}
use Rattle.words.specs.Codes.{code_text}
use Rattle.words.proofs.code.put_code.Goals as goal

pub returns-then-w-eq0 : goal.returns-then-w-eq0
unfolding code_text
returns-then-w-eq0 c = rw (
  ← c.width-w.ensures,
  eq-eqb _ _ c.if-w-eq0.true,
) (rw (
  c.nth_of-letters.ensures,
  c.nth_of.ensures,
  c.find-k.ensures,
) at c.put_meant.ensures)

pub returns : goal.returns
unfolding code_text
returns c = rw (← c.width-w.ensures, ne_eqb _ _ c.if-w-eq0.false)
    c.put_hex.ensures
