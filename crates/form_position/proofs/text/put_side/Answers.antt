-- By whether the value is less than zero.
use mir.Syntax.{w32}
use mir.Facts.{to_z-of_z}
use mathlib.Core.List.{[], ◌∷◌}
use Rattle.put.proofs.Chain.{as-text}
use Rattle.form_position.proofs.Texts.{side-minus, side-plus}
use borrow.Author.Rules.{rules}
use Rattle.form_position.proofs.text.put_side.Goals as goal

pub returns-then-z-lt0 : goal.returns-then-z-lt0
returns-then-z-lt0 c = as-text (side-minus (c.args.plus ∷ [])
    (c.args.minus ∷ []) c.args.z
    (rw (to_z-of_z {w = w32} {z = c.args.z} (search rules)) at
    c.if-z-lt0.true)) c.put.ensures

pub returns : goal.returns
returns c = as-text (side-plus (c.args.plus ∷ [])
    (c.args.minus ∷ []) c.args.z
    (rw (to_z-of_z {w = w32} {z = c.args.z} (search rules)) at
    c.if-z-lt0.false)) c.put-2.ensures
