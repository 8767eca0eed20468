-- `at` meets its contract: each value is the one at its place.
use mir.Syntax.{w32}
use mir.Facts.{to_z-of_z}
use borrow.Author.Rules.{rules}
use Rattle.kind_pir_datum.specs.Reply.{pirta_layout, pirta_row}
use Rattle.kind_pir_datum.proofs.reply.at.Goals as goal

pub returns : goal.returns
unfolding pirta_layout pirta_row
returns c = rw (c.whole_at.ensures, to_z-of_z {w = w32} {z = c.signed_at.result} (search rules), c.signed_at.ensures)
