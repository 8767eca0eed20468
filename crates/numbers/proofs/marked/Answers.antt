-- The bits of 1 are those of no other number.
use borrow.Author.Rules.{rules}
use Rattle.numbers.proofs.Fitting.{there-is}
use Rattle.numbers.proofs.marked.Goals as goal

pub returns : goal.returns
returns c = there-is c.args.mark (search rules)
