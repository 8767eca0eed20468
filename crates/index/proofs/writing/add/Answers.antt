-- Whether the bytes are an index, whether the entry fits and whether there is room are known before the first byte is put.
use mathlib.Core.Path.{◌∙◌, sym}
use borrow.Author.Tests.{not-false, not-true}
use lib.ListN.{take}
use Rattle.index.specs.Index.{read_index}
use Rattle.index.proofs.Answering.{add-all, add-full, add_none, add-over, add-unfit, scan-front, scan-none, scan-whole}
use Rattle.index.proofs.writing.add.Goals as goal

pub returns-then-index-used : goal.returns-then-index-used
returns-then-index-used c = let a = add-over c.args.index.now c.args.used
    c.args.e c.if-index-used.true c.refuse.ensures in record {
      value = a.answers;
      index_after = a.leaves;
    }

pub returns-then-not-scanned : goal.returns-then-not-scanned
returns-then-not-scanned c = let none = scan-none (read_index (take c.args.used
    c.args.index.now)) c.scan-scanned.result
    (scan-front c.args.used
    c.args.index.now c.scan-scanned.result
    c.scan-scanned.ensures) (not-true _ c.if-not-scanned.true) in
    let a = add_none c.args.index.now
    c.args.used
    c.args.e
    c.if-index-used.false none c.refuse-then-not-scanned.ensures in
    record {
      value = a.answers;
      index_after = a.leaves;
    }

pub returns-then-not-fits : goal.returns-then-not-fits
returns-then-not-fits c = let x = scan-whole
    (read_index (take c.args.used
    c.args.index.now))
    c.scan-scanned.result
    (scan-front c.args.used
    c.args.index.now
    c.scan-scanned.result c.scan-scanned.ensures)
    (not-false _ c.if-not-scanned.false) in
    let a = add-unfit c.args.index.now
    c.args.used
    c.args.e
    c.if-index-used.false x.reads
    c.scan-scanned.result.last x.last
    (sym c.fits.ensures ∙ c.if-not-fits.true) c.refuse-then-not-fits.ensures in
    record {
      value = a.answers;
      index_after = a.leaves;
    }

pub returns-then-index-used-2 : goal.returns-then-index-used-2
returns-then-index-used-2 c = let x = scan-whole
    (read_index (take c.args.used c.args.index.now)) c.scan-scanned.result
    (scan-front c.args.used c.args.index.now c.scan-scanned.result
    c.scan-scanned.ensures)
    (not-false _ c.if-not-scanned.false) in
    let a = add-full c.args.index.now c.args.used c.args.e
    c.if-index-used.false x.reads
    c.scan-scanned.result.last x.last
    (sym c.fits.ensures ∙ c.if-not-fits.false)
    c.size-n.result c.size-n.ensures c.if-index-used-2.true c.refuse-then-index-used-2.ensures in
    record {
      value = a.answers;
      index_after = a.leaves;
    }

pub returns : goal.returns
returns c = let x = scan-whole
    (read_index (take c.args.used
    c.args.index.now)) c.scan-scanned.result (scan-front c.args.used
    c.args.index.now c.scan-scanned.result c.scan-scanned.ensures)
    (not-false _ c.if-not-scanned.false) in
    let a = add-all c.args.index.now
    c.args.used c.args.e
    c.if-index-used.false x.reads c.scan-scanned.result.last x.last (sym c.fits.ensures ∙ c.if-not-fits.false)
    c.size-n.result
    c.size-n.ensures c.if-index-used-2.false
    c.put_longer.ensures c.wrote.ensures in
    record {
      value = a.answers;
      index_after = a.leaves;
    }
