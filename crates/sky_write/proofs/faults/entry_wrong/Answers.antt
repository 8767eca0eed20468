-- The first wrong field of an entry that is used and stands before all else.
use Rattle.form.specs.Wrong.{first_wrong}
use Rattle.sky.specs.Table.{entry_wrong}
use Rattle.sky_write.proofs.faults.entry_wrong.Goals as goal

pub returns : goal.returns
unfolding entry_wrong first_wrong
returns c = c.entry_wrong.ensures
