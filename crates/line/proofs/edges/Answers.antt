-- `edges` meets its contract: each way out is one of the edges' own, by the law of that name.
use mathlib.Core.Path.{sym, ◌∙◌}
use native.Mathlib.Omega.{arith}
use borrow.Author.Tests.{ne_eqb}
use Rattle.digits.proofs.Parts.{rest}
use Rattle.line.proofs.Laws.{edges-end, edges-long, edges-other, edges-short}
use Rattle.line.proofs.edges.Goals.{then-n-lt7-via-then-n-lt7, then-n-lt7-via-else-n-lt7+then-n-gt82}
use Rattle.line.proofs.edges.Goals as goal

pub returns-then-n-lt7 : goal.returns-then-n-lt7
returns-then-n-lt7 c = elim c.then-n-lt7.branch [
  | then-n-lt7-via-then-n-lt7 w ↦ sym (edges-short _ w.if-n-lt7.true)
  | then-n-lt7-via-else-n-lt7+then-n-gt82 w ↦ sym (edges-long _ (omega arith) w.if-n-gt82.true)
]

pub returns-then-line-eq36 : goal.returns-then-line-eq36
returns-then-line-eq36 c =
    (rw rest at c.end_form.ensures) ∙ sym (edges-end _ (omega arith) (omega arith) c.if-line-eq36.true)

pub returns-else-line-eq36 : goal.returns-else-line-eq36
returns-else-line-eq36 c = ne_eqb _ _ c.if-line-eq36.false ∙ sym (edges-other _ (omega arith) (omega arith) c.if-line-eq36.false)
