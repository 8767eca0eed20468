use Prim.Native.Nat.{◌≤◌}
use mathlib.Core.Path.{◌∙◌}
use lib.ListN.{length}
use Rattle.exhibits_lists.proofs.Rows.{body-front, body-within}
use borrow.Author.Rules.{rules}
use Rattle.exhibits_lists.proofs.read_row.Goals as goal

pub slice_bounds-body-end : goal.slice_bounds-body-end
slice_bounds-body-end c = let i : c.body_length-n.result ≤ length c.args.s.now = rw c.body_length-n.ensures
    (body-within c.args.s.now) in search rules
