-- The number at the place, handed on as it is.
use mathlib.Core.Path.{ap, ◌∙◌}
use borrow.Author.Rules.{rules}
use mir.Syntax.{w32, w64}
use mir.Facts.{to_z-of_z}
use Rattle.numbers.specs.Numbers.{signed_of}
use Rattle.numbers.proofs.signed_at.Goals as goal

pub returns : goal.returns
returns c =
    to_z-of_z {w = w32} {z = c.signed.result} (search rules)
    ∙ c.signed.ensures
    ∙ ap signed_of (to_z-of_z {w = w64} {z = c.at.result} (search rules) ∙ c.at.ensures)
