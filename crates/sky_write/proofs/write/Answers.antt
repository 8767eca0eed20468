-- The table's fault, then the room, then the lines.
use mathlib.Core.Path.{◌≡◌}
use borrow.Author.Rules.{rules}
use lib.ListN.{length}
use Rattle.sky_write.proofs.Counts.{length-mapped}
use Rattle.sky_write.proofs.PutLaws.{fault-out, few, group-out, ready, short-out}
use Rattle.sky_write.proofs.write.Goals as goal

pub returns-then-fault-ne0 : goal.returns-then-fault-ne0
returns-then-fault-ne0 c =
    fault-out c.args.t c.args.r c.args.out.now c.fault-fault.ensures c.if-fault-ne0.true

pub room-room-requires : goal.room-room-requires
room-room-requires c =
    let full : length c.args.r.entries ≡ 36 = search (rules, length-mapped) in
    few c.args.t c.args.r
    c.args.out.now c.fault-fault.ensures full c.if-fault-ne0.false

pub returns-then-out-room : goal.returns-then-out-room
returns-then-out-room c =
    let full : length c.args.r.entries ≡ 36 = search (rules, length-mapped) in
    short-out c.args.t
    c.args.r
    c.args.out.now
    c.fault-fault.ensures full c.if-fault-ne0.false
    c.room-room.ensures c.if-out-room.true c.refuse.ensures

pub put_lines-length-requires : goal.put_lines-length-requires
put_lines-length-requires c =
    let full : length c.args.r.entries ≡ 36 = search (rules, length-mapped) in
    ready c.args.t
    c.args.r
    c.args.out.now
    c.fault-fault.ensures full c.if-fault-ne0.false
    c.room-room.ensures c.if-out-room.false

pub returns : goal.returns
returns c =
    let full : length c.args.r.entries ≡ 36 =
    search (rules, length-mapped) in
    group-out c.args.t
    c.args.r
    c.args.out.now
    c.fault-fault.ensures full
    c.if-fault-ne0.false c.room-room.ensures
    c.if-out-room.false c.put_lines-length.ensures
