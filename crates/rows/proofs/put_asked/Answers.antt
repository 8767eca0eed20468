-- By whether the numbers are asked for.
use mathlib.Core.Bool.{Bool}
use mathlib.Core.Path.{ap, sym}
use Rattle.put.specs.Wrote.{held}
use Rattle.put.proofs.Chain.{as-text, nothing_put}
use Rattle.rows.specs.Row.{asked_text}
use Rattle.rows.proofs.put_asked.Goals as goal

pub returns : goal.returns
returns c =
    as-text (ap (λ (b : Bool). asked_text b c.args.kind c.args.numbers.now) (sym c.if-asked.false))
    (nothing_put (held c.args.at c.args.out.now))
