-- The quotient without its sign.
use mathlib.Core.Path.{◌∙◌}
use lib.Dec.{lit<}
use Rattle.digits.proofs.Splitting.{hours-fit, hours-size}
use borrow.Author.Rules.{rules}
use Rattle.form_date.proofs.split.hours.Goals as goal

pub nonzero_div-z : goal.nonzero_div-z
nonzero_div-z c = (lit< tt, hours-fit c.args.z (search rules))

pub returns : goal.returns
returns c = c.size.ensures ∙ hours-size c.args.z (search rules)
