-- The part from behind dividing byte n up to the next.
use Rattle.words.proofs.NthLaws.{nth-length, the-nth}
use Rattle.words.proofs.nth.nth_of.Goals as goal

pub slice_bounds-result-end : goal.slice_bounds-result-end
slice_bounds-result-end c = nth-length c.args.d
    c.args.s.now c.start-from.result
    c.args.n _ c.start-from.ensures.1 c.find-width.ensures

pub returns : goal.returns
returns c = the-nth c.args.d c.args.s.now
    c.start-from.result c.args.n _
    c.start-from.ensures.1 c.find-width.ensures
