-- The number at the place, handed on as it is.
use mathlib.Core.Path.{ap, ◌∙◌}
use borrow.Author.Rules.{rules}
use mir.Syntax.{w64}
use mir.Facts.{to_z-of_z}
use Rattle.numbers.specs.Numbers.{whole_of}
use Rattle.numbers.proofs.whole_at.Goals as goal

pub returns : goal.returns
returns c =
    c.whole.ensures
    ∙ ap whole_of (to_z-of_z {w = w64} {z = c.at.result} (search rules) ∙ c.at.ensures)
