-- The tests in their order.
use mathlib.Core.Path.{◌∙◌, refl, sym}
use Rattle.frame.proofs.Sealing.{fault-none}
use Rattle.sky.proofs.MarkLaws.{marks-none}
use Rattle.sky_write.proofs.FaultLaws.{good-out, over-many, rest_out, used-out}
use Rattle.sky_write.proofs.faults.fault.Goals as goal

pub returns-then-r-gt36 : goal.returns-then-r-gt36
returns-then-r-gt36 c = over-many c.args.r c.if-r-gt36.true c.refuse.ensures

pub used_fault-fault-requires : goal.used_fault-fault-requires
used_fault-fault-requires c = (c.if-r-gt36.false, (refl, marks-none))

pub returns-then-fault-ne0 : goal.returns-then-fault-ne0
returns-then-fault-ne0 c =
    used-out c.args.r c.if-r-gt36.false c.used_fault-fault.ensures c.if-fault-ne0.true

pub returns-then-rest_blank : goal.returns-then-rest_blank
returns-then-rest_blank c =
    good-out c.args.r c.if-r-gt36.false c.used_fault-fault.ensures c.if-fault-ne0.false c.rest_blank.ensures c.if-rest_blank.true
    (c.fault.ensures ∙ sym (fault-none 0 refl))

pub returns : goal.returns
returns c =
    rest_out c.args.r c.if-r-gt36.false c.used_fault-fault.ensures c.if-fault-ne0.false c.rest_blank.ensures c.if-rest_blank.false
    c.refuse-2.ensures
