-- The value without its sign, in its range.
use mathlib.Core.Path.{◌∙◌}
use mir.Syntax.{w32}
use mir.Facts.{to_z-of_z}
use Rattle.form.specs.Values.{signed_wrong}
use borrow.Author.Rules.{rules}
use Rattle.form.proofs.range.signed.Goals as goal

pub returns : goal.returns
unfolding signed_wrong
returns c = c.maybe.ensures ∙ rw (c.size-value.ensures, to_z-of_z {w = w32} {z = c.args.z} (search rules))
