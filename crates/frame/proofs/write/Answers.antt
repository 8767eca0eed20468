-- The four ways out, in their order.
use native.Mathlib.Omega.{arith}
use Rattle.put.proofs.Chain.{put_whole}
use Rattle.frame.proofs.Sealing.{fault-out, line-length, line-out, long-out, short-out}
use Rattle.frame.proofs.write.Goals as goal

pub returns-then-fault-ne0 : goal.returns-then-fault-ne0
returns-then-fault-ne0 c =
    fault-out c.args.fault c.args.body.now c.args.out.now c.if-fault-ne0.true

pub returns-then-body-gt76 : goal.returns-then-body-gt76
returns-then-body-gt76 c =
    rw c.refuse.ensures (long-out c.args.fault c.args.body.now c.args.out.now c.if-fault-ne0.false c.if-body-gt76.true)

pub returns-then-out-length : goal.returns-then-out-length
returns-then-out-length c =
    rw c.refuse-then-out-length.ensures (short-out c.args.fault c.args.body.now c.args.out.now c.if-fault-ne0.false c.if-body-gt76.false
    c.if-out-length.true)

pub returns : goal.returns
returns c = rw c.done.ensures
    (line-out c.args.fault
    c.args.body.now
    c.args.out.now
    c.if-fault-ne0.false c.if-body-gt76.false
    c.if-out-length.false (put_whole c.seal.ensures (omega (
      arith,
      line-length c.args.body.now,
      c.if-out-length.false,
    ))))
