-- `read_body` meets its contract: the address decides, and up to 20 ends give all fields.
use mathlib.Core.Path.{ap}
use native.Mathlib.Omega.{arith}
use Rattle.numbers.proofs.Rows.{tells_as}
use Rattle.sentence.specs.Sentence.{Sentence}
use Rattle.sentence.specs.ToHost.{handed}
use Rattle.fields.proofs.AllFields.{some}
use Rattle.sentence.proofs.BodyLaws.{read-few, read-few-maker, read-many, read-many-maker, read-unknown}
use Rattle.sentence.proofs.Telling.{refused_as}
use Rattle.sentence.proofs.read_body.Goals as goal

pub returns-in-Standard : goal.returns-in-Standard
returns-in-Standard c =
    refused_as _ _ 4 _ c.refuse.ensures (λ z. omega (arith, z))
    (read-many _ _ _ c.requires _ c.address_of-address.ensures c.if-count-gt20.true _ _ c.in-Standard.is)

pub returns-in-Maker : goal.returns-in-Maker
returns-in-Maker c =
    refused_as _ _ 4 _ c.refuse-in-Maker.ensures (λ z. omega (arith, z))
    (read-many-maker _ _ _ c.requires _ c.address_of-address.ensures c.if-count-gt20.true _
    c.in-Maker.is)

pub returns-in-Unknown : goal.returns-in-Unknown
returns-in-Unknown c =
    refused_as _ _ 3 _ c.refuse-in-Unknown.ensures (λ z. omega (arith, z))
    (read-unknown _ _ _ c.requires _ c.address_of-address.ensures c.in-Unknown.is)

pub overflow_sub-n : goal.overflow_sub-n
overflow_sub-n c =
    omega (arith, c.requires.fields, some c.args.s.now)

pub returns-in-Standard-address : goal.returns-in-Standard-address
returns-in-Standard-address c =
    tells_as c.standard.ensures (ap (λ (x : Sentence). handed x c.args.out.now)
    (read-few _ _ _ c.requires _ c.address_of-address.ensures c.if-count-gt20.false _ _ c.in-Standard-address.is))

pub returns-in-Maker-address : goal.returns-in-Maker-address
returns-in-Maker-address c =
    tells_as c.maker.ensures (ap (λ (x : Sentence). handed x c.args.out.now)
    (read-few-maker _ _ _ c.requires _ c.address_of-address.ensures c.if-count-gt20.false _ c.in-Maker-address.is))

pub returns-in-Unknown-address : goal.returns-in-Unknown-address
returns-in-Unknown-address c =
    refused_as _ _ 3 _ c.refuse-in-Unknown-address.ensures (λ z. omega (arith, z))
    (read-unknown _ _ _ c.requires _ c.address_of-address.ensures c.in-Unknown-address.is)
