-- The quotient without its sign.
use mathlib.Core.Path.{◌∙◌}
use lib.Dec.{lit<}
use Rattle.digits.proofs.Splitting.{degrees-fit, degrees-size}
use borrow.Author.Rules.{rules}
use Rattle.form_position.proofs.split.degrees.Goals as goal

pub nonzero_div-z : goal.nonzero_div-z
nonzero_div-z c = (lit< tt, degrees-fit c.args.z (search rules))

pub returns : goal.returns
returns c = c.size.ensures ∙ degrees-size c.args.z (search rules)
