-- Each setting is the number in its place.
use mir.Syntax.{w32}
use mir.Facts.{to_z-of_z}
use borrow.Author.Rules.{rules}
use Rattle.receiver_numbers.specs.Numbers.{settings_layout}
use Rattle.receiver_numbers.proofs.at.Goals as goal

pub returns : goal.returns
unfolding settings_layout
returns c =
    rw c.whole_at.ensures
    (rw c.whole_at-2.ensures
    (rw c.whole_at-3.ensures
    (rw c.whole_at-4.ensures
    (rw c.whole_at-5.ensures
    (rw (c.whole_at-6.ensures, c.whole_at-7.ensures)
    (rw (to_z-of_z {w = w32} {z = c.signed_at.result} (search rules))
    (rw (c.signed_at.ensures, c.whole_at-8.ensures, c.whole_at-9.ensures)
    (rw c.whole_at-10.ensures))))))))
