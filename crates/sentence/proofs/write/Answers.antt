-- `write` meets its contract: the count of its kind decides first, then the address; a refusal leaves the output.
use mathlib.Core.Path.{sym, ◌∙◌}
use native.Mathlib.Omega.{arith}
use Rattle.sentence.proofs.Numbered.{too_few, enough}
use Rattle.sentence.proofs.Handing.{written_is, handed, few-over, enough-over}
use Rattle.sentence.proofs.write.Goals as goal

pub returns-then-numbers-count_of : goal.returns-then-numbers-count_of
returns-then-numbers-count_of c =
    let few = too_few c.args.kind c.args.numbers.now _ c.count_of.ensures c.if-numbers-count_of.true in
    let said = written_is c.args.kind c.args.numbers.now _ few _ (few-over c.args.kind c.args.numbers.now (rw c.count_of.ensures at c.if-numbers-count_of.true)) c.args.out.now
    (handed 5 (λ z. omega (arith, z)) _ _ c.refuse.ensures) in
    record {
      value = said.0;
      out_after = said.1;
    }

pub returns-in-Standard : goal.returns-in-Standard
returns-in-Standard c =
    let a =
    sym c.in-Standard.is ∙ (rw c.whole_at.ensures at c.address_at-address.ensures) in
    let rest = enough c.args.kind c.args.numbers.now _ c.count_of.ensures _ a c.if-numbers-count_of.false in
    let said = written_is c.args.kind c.args.numbers.now _ rest _ (enough-over c.args.kind c.args.numbers.now _ a (rw c.count_of.ensures at c.if-numbers-count_of.false)) c.args.out.now
    c.standard.ensures in
    record {
      value = said.0;
      out_after = said.1;
    }

pub returns-in-Maker : goal.returns-in-Maker
returns-in-Maker c =
    let a =
    sym c.in-Maker.is ∙ (rw c.whole_at.ensures at c.address_at-address.ensures) in
    let rest = enough c.args.kind c.args.numbers.now _ c.count_of.ensures _ a c.if-numbers-count_of.false in
    let said = written_is c.args.kind c.args.numbers.now _ rest _ (enough-over c.args.kind c.args.numbers.now _ a (rw c.count_of.ensures at c.if-numbers-count_of.false)) c.args.out.now
    c.maker.ensures in
    record {
      value = said.0;
      out_after = said.1;
    }

pub returns-in-Unknown : goal.returns-in-Unknown
returns-in-Unknown c =
    let a =
    sym c.in-Unknown.is ∙ (rw c.whole_at.ensures at c.address_at-address.ensures) in
    let rest = enough c.args.kind c.args.numbers.now _ c.count_of.ensures _ a c.if-numbers-count_of.false in
    let said = written_is c.args.kind c.args.numbers.now _ rest _ (enough-over c.args.kind c.args.numbers.now _ a (rw c.count_of.ensures at c.if-numbers-count_of.false)) c.args.out.now
    (handed 3 (λ z. omega (arith, z)) _ _ c.refuse-in-Unknown.ensures) in
    record {
      value = said.0;
      out_after = said.1;
    }
