-- The body in the scratch is the record's; what the line around it comes to follows.
use lib.Dec.{lit<}
use Rattle.frame.proofs.Sealing.{body-put, sealed}
use Rattle.frame.proofs.record.write_maker.Goals as goal

pub returns : goal.returns
returns g c =
    rw (← c.fault.ensures)
    (sealed c.fault.result c.args.out.now (lit< tt) (body-put c.put_bytes-a.ensures c.put_fields-n.ensures) c.finish.ensures)
