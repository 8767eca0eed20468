-- What writing comes to is known before the first byte is put; so the entries are in order, and there is room.
use Rattle.index.proofs.Answering.{written-puts, write-refused, write-all}
use Rattle.index.proofs.writing.write.Goals as goal

pub put_all-requires : goal.put_all-requires
put_all-requires c = written-puts c.args.entries.now c.args.out.now c.planned-written.ensures c.if-written-eq0.true

pub returns-then-written-eq0 : goal.returns-then-written-eq0
returns-then-written-eq0 c = let said = write-all c.args.entries.now c.args.out.now c.planned-written.ensures c.if-written-eq0.true c.put_all.ensures in
    record {
      value = said.0;
      out_after = said.1;
    }

pub returns-else-written-eq0 : goal.returns-else-written-eq0
returns-else-written-eq0 c = let said = write-refused c.args.entries.now c.args.out.now c.planned-written.ensures c.if-written-eq0.false in
    record {
      value = said.0;
      out_after = said.1;
    }
