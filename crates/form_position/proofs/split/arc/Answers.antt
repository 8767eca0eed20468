-- The remainder without its sign.
use mathlib.Core.Path.{◌∙◌}
use lib.Dec.{lit<}
use Rattle.digits.proofs.Splitting.{degrees-fit, left-size}
use borrow.Author.Rules.{rules}
use Rattle.form_position.proofs.split.arc.Goals as goal

pub nonzero_rem-z : goal.nonzero_rem-z
nonzero_rem-z c = (lit< tt, degrees-fit c.args.z (search rules))

pub returns : goal.returns
returns c = c.size.ensures ∙ left-size c.args.z (search rules) 600000
