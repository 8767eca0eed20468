-- Fewer than 254 numbers are refused, then an unknown talker; else the table that they say is written.
use Rattle.host.proofs.Puts.{short, unknown, table}
use Rattle.host.proofs.groups.write_numbers.Goals as goal

pub returns-then-numbers-lt254 : goal.returns-then-numbers-lt254
returns-then-numbers-lt254 c = let said = short c.args.numbers.now c.args.out.now c.if-numbers-lt254.true c.refuse.ensures in
    record {
      value = said.0;
      out_after = said.1;
    }

pub returns-then-n-gt4 : goal.returns-then-n-gt4
returns-then-n-gt4 c = let said = unknown c.args.numbers.now c.args.out.now c.if-numbers-lt254.false c.whole_at-n.ensures c.if-n-gt4.true
    c.refuse-then-n-gt4.ensures in
    record {
      value = said.0;
      out_after = said.1;
    }

pub returns : goal.returns
returns c = let said = table c.args.numbers.now c.args.out.now c.if-numbers-lt254.false c.whole_at-n.ensures c.if-n-gt4.false
    c.talker_of.ensures c.table_at.ensures c.write.ensures in
    record {
      value = said.0;
      out_after = said.1;
    }
