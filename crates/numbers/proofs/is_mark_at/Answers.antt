-- The number at the place, handed on as it is.
use mathlib.Core.Path.{ap, ◌∙◌}
use borrow.Author.Rules.{rules}
use mir.Syntax.{w64}
use mir.Facts.{to_z-of_z}
use Rattle.numbers.specs.Numbers.{is_mark}
use Rattle.numbers.proofs.is_mark_at.Goals as goal

pub returns : goal.returns
returns c =
    c.is_mark.ensures
    ∙ ap is_mark (to_z-of_z {w = w64} {z = c.at.result} (search rules) ∙ c.at.ensures)
