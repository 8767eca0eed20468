-- One byte: stored where there is room.
use Rattle.put.proofs.Chain.{put-room, put_full}
use Rattle.put.proofs.put.Goals as goal

pub returns-then-at-out : goal.returns-then-at-out
returns-then-at-out c = put-room c.args.at c.args.out.now c.args.b c.if-at-out.true

pub returns : goal.returns
returns c = put_full c.args.at c.args.out.now c.args.b c.if-at-out.false
