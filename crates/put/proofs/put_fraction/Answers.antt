-- No thousandths, tenths, hundredths or thousandths, by the tests in their order.
use Rattle.put.proofs.Chain.{as-text, nothing_put, ◌⨾◌}
use Rattle.put.specs.Wrote.{held}
use Rattle.put.proofs.PlainLaws.{no_fraction, tenths, hundredths, all_three}
use Rattle.put.proofs.put_fraction.Goals as goal

pub returns-then-m-eq0 : goal.returns-then-m-eq0
returns-then-m-eq0 c =
    as-text (no_fraction c.args.m c.if-m-eq0.true) (nothing_put (held c.args.at c.args.out.now))

pub returns-then-m-eq0-2 : goal.returns-then-m-eq0-2
returns-then-m-eq0-2 c =
    as-text (tenths c.args.m c.if-m-eq0.false c.if-m-eq0-2.true) (c.put-a.ensures ⨾ c.put_one.ensures)

pub returns-then-m-eq0-3 : goal.returns-then-m-eq0-3
returns-then-m-eq0-3 c =
    as-text (hundredths c.args.m c.if-m-eq0.false c.if-m-eq0-2.false c.if-m-eq0-3.true) (c.put-a.ensures ⨾ c.put_two.ensures)

pub returns : goal.returns
returns c =
    as-text (all_three c.args.m c.if-m-eq0.false c.if-m-eq0-2.false c.if-m-eq0-3.false) (c.put-a.ensures ⨾ c.put_three.ensures)
