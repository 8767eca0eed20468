-- Whether the bytes are an index, and whether there is room, are known before the first number is laid.
use native.Mathlib.Omega.{arith}
use borrow.Author.Tests.{not-true, not-false}
use Rattle.index.specs.Index.{read_index}
use Rattle.index.proofs.Answering.{scan-none, scan-whole, read_none, read-full, read-room, read_all}
use Rattle.index.proofs.reading.read.Goals as goal

pub returns-then-not-scanned : goal.returns-then-not-scanned
returns-then-not-scanned c = let said = read_none (read_index c.args.s.now) c.args.entries.now
    (scan-none (read_index c.args.s.now) c.scan-scanned.result c.scan-scanned.ensures (not-true _ c.if-not-scanned.true)) c.listing.ensures in
    record {
      value = said.0;
      entries_after = said.1;
    }

pub returns-then-entries-scanned : goal.returns-then-entries-scanned
returns-then-entries-scanned c = let x = scan-whole (read_index c.args.s.now) c.scan-scanned.result c.scan-scanned.ensures (not-false _ c.if-not-scanned.false) in
    let said = read-full (read_index c.args.s.now) c.args.entries.now x.reads (omega
    (arith, x.count, c.if-entries-scanned.true)) c.listing-then-entries-scanned.ensures in
    record {
      value = said.0;
      entries_after = said.1;
    }

pub lay_all-requires : goal.lay_all-requires
lay_all-requires c = let x = scan-whole (read_index c.args.s.now) c.scan-scanned.result c.scan-scanned.ensures (not-false _ c.if-not-scanned.false) in
    record {
      inside = omega arith;
      whole = x.reads;
      room = omega (
        arith,
        read-room (read_index c.args.s.now) c.args.entries.now x.reads (omega
            (arith, x.count, c.if-entries-scanned.false)),
      );
    }

pub returns : goal.returns
returns c = let x = scan-whole (read_index c.args.s.now) c.scan-scanned.result c.scan-scanned.ensures (not-false _ c.if-not-scanned.false) in record {
  value = read_all (read_index c.args.s.now) c.args.entries.now x.reads (omega (arith, x.count, c.if-entries-scanned.false)) x.count
      c.listing-2.ensures;
  entries_after = c.lay_all.ensures;
}
