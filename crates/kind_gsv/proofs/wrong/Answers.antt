-- The first wrong field is found from the last on, as the definition says.
use mathlib.Core.Path.{◌∙◌}
use Rattle.kind_gsv.proofs.Firsts.{gsv-wrong}
use Rattle.kind_gsv.proofs.wrong.Goals as goal

pub returns : goal.returns
returns c =
    c.near.ensures ∙ rw (
      c.within-3.ensures,
      c.near-w2.ensures,
      c.within-2.ensures,
      c.near-w3.ensures,
      c.within.ensures,
      c.entry_wrong-w4.ensures,
      c.entry_wrong-w8.ensures,
      c.entry_wrong-w12.ensures,
      c.entry_wrong-w16.ensures,
    ) (gsv-wrong c.args.r)
