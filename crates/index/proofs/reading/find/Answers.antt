-- Where the bytes are an index, what was found on the way is what there is to find.
use mathlib.Core.Path.{sym, ap, ◌∙◌}
use borrow.Author.Tests.{not-true, not-false}
use Rattle.index.specs.Index.{read_index}
use Rattle.index.specs.Answers.{found_in}
use Rattle.index.proofs.Answering.{scan-none}
use Rattle.index.proofs.reading.find.Goals as goal

pub returns-then-not-scanned : goal.returns-then-not-scanned
returns-then-not-scanned c = let none = scan-none (read_index c.args.s.now) c.walk-walked.result.scanned c.walk-walked.ensures.goes (not-true _ c.if-not-scanned.true) in
    c.finding.ensures ∙ sym (ap (found_in c.args.number) none)

pub returns : goal.returns
returns c = c.walk-walked.ensures.finds (not-false _ c.if-not-scanned.false)
