-- The number at the place, handed on as it is.
use mathlib.Core.Path.{ap, ◌∙◌}
use borrow.Author.Rules.{rules}
use mir.Syntax.{w64}
use mir.Facts.{to_z-of_z}
use Rattle.numbers.specs.Numbers.{is_whole}
use Rattle.numbers.proofs.is_whole_at.Goals as goal

pub returns : goal.returns
returns c =
    c.is_whole.ensures
    ∙ ap is_whole (to_z-of_z {w = w64} {z = c.at.result} (search rules) ∙ c.at.ensures)
