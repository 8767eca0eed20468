-- A line that is found, or the bytes of one, lie within what is in the buffer.
use Rattle.std.proofs.Common.{rules, take}
use Rattle.finder.proofs.SliceLines.{slice-within}
use Rattle.exhibits_walks.proofs.lines.Lines.find.Goals as goal

pub returns-clause-order : goal.returns-clause-order
returns-clause-order g c =
    rw c.next_line.ensures (slice-within (take c.args.self.now.end c.args.self.now.buf) c.args.self.now.at (search rules)).1

pub returns-clause-inside : goal.returns-clause-inside
returns-clause-inside g c =
    let w = slice-within (take c.args.self.now.end c.args.self.now.buf) c.args.self.now.at (search rules) in
    rw c.next_line.ensures (let i = w.2 in search rules)
