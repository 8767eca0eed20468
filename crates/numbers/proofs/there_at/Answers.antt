-- The number at the place, handed on as it is.
use mathlib.Core.Path.{ap, ◌∙◌}
use borrow.Author.Rules.{rules}
use mir.Syntax.{w64}
use mir.Facts.{to_z-of_z}
use Rattle.numbers.specs.Numbers.{is_there}
use Rattle.numbers.proofs.there_at.Goals as goal

pub returns : goal.returns
returns c =
    c.marked.ensures
    ∙ ap is_there (to_z-of_z {w = w64} {z = c.at.result} (search rules) ∙ c.at.ensures)
