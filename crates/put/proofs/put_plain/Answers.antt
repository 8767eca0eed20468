-- Each number of digits, by the tests in their order.
use Rattle.put.proofs.Chain.{as-text}
use Rattle.put.proofs.PlainLaws.{plain-one, plain-two, plain-three, plain-four, plain-five, plain-six}
use Rattle.put.proofs.put_plain.Goals as goal

pub returns-then-v-lt10 : goal.returns-then-v-lt10
returns-then-v-lt10 c =
    as-text (plain-one c.args.v c.if-v-lt10.true) c.put_one.ensures

pub returns-then-v-lt100 : goal.returns-then-v-lt100
returns-then-v-lt100 c =
    as-text (plain-two c.args.v c.if-v-lt10.false c.if-v-lt100.true) c.put_two.ensures

pub returns-then-v-lt1000 : goal.returns-then-v-lt1000
returns-then-v-lt1000 c =
    as-text (plain-three c.args.v c.if-v-lt10.false c.if-v-lt100.false c.if-v-lt1000.true) c.put_three.ensures

pub returns-then-v-lt10000 : goal.returns-then-v-lt10000
returns-then-v-lt10000 c =
    as-text (plain-four c.args.v c.if-v-lt10.false c.if-v-lt100.false c.if-v-lt1000.false c.if-v-lt10000.true) c.put_four.ensures

pub returns-then-v-lt100000 : goal.returns-then-v-lt100000
returns-then-v-lt100000 c =
    as-text (plain-five c.args.v c.if-v-lt10.false c.if-v-lt100.false c.if-v-lt1000.false c.if-v-lt10000.false c.if-v-lt100000.true)
    c.put_five.ensures

pub returns : goal.returns
returns c =
    as-text (plain-six c.args.v c.if-v-lt10.false c.if-v-lt100.false c.if-v-lt1000.false c.if-v-lt10000.false c.if-v-lt100000.false)
    c.put_six.ensures
