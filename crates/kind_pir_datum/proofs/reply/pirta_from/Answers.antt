-- `pirta_from` meets its contract: the first wrong field is found from the last on, as the definition says; without one the record is made.
use borrow.Author.Rules.{rules}
use mir.Syntax.{w32}
use mir.Val.{SFits}
use mir.Facts.{to_z-of_z}
use Rattle.form.proofs.Told.{tells-right, tells-wrong}
use Rattle.kind_pir_datum.specs.Reply.{pirta_row}
use Rattle.kind_pir_datum.proofs.reply.pirta_from.Goals.{Start}
use Rattle.kind_pir_datum.proofs.reply.pirta_from.Goals as goal

zone-fits : (c : Start) → SFits w32 c.args.zone.value
zone-fits c = search rules

pub returns-then-w1-ne0 : goal.returns-then-w1-ne0
unfolding pirta_row
returns-then-w1-ne0 c =
    tells-wrong _ _ _ _ c.near-w1.result c.refuse.ensures
    (rw (← c.needed_int-zone_wrong.ensures, ← c.near-w2.ensures, ← c.near-w1.ensures)) c.if-w1-ne0.true

pub returns : goal.returns
unfolding pirta_row
returns c =
    tells-right _ _ _ _ _ c.lay.ensures (rw (← c.needed_int-zone_wrong.ensures, ← c.near-w2.ensures, ← c.near-w1.ensures)
    c.if-w1-ne0.false) (rw (to_z-of_z (zone-fits (goal.at.returns c).Start)))
