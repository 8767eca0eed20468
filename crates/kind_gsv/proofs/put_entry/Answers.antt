-- Four fields, where the entry is used.
use Rattle.put.specs.Wrote.{held}
use Rattle.put.proofs.Chain.{◌then◌, no_field}
use Rattle.kind_gsv.proofs.put_entry.Goals as goal

pub returns-then-not-used : goal.returns-then-not-used
returns-then-not-used c =
    rw c.if-not-used.true (no_field (held c.args.at c.args.out.now))

pub returns : goal.returns
returns c =
    rw c.if-not-used.false
    (c.two-a0.ensures then c.two-a1.ensures then c.three-a2.ensures then c.two.ensures)
