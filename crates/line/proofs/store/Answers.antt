-- `store` meets its contract: past the end nothing is stored, and the definition stores nothing there.
use mathlib.Core.Path.{sym}
use lib.Seq.{set_out}
use Rattle.line.proofs.store.Goals as goal

pub returns-else-n-p : goal.returns-else-n-p
returns-else-n-p c = sym (set_out c.args.p.now c.args.n c.args.i c.if-n-p.false)
