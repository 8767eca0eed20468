-- `read` meets its contract: the count decides, then each field's form.
use Prim.Native.Nat.{◌+◌, ℕ}
use mathlib.Core.Path.{◌≡◌, refl}
use mathlib.Core.List.{List}
use lib.IntN.{ℤ}
use Rattle.address.specs.declared.Talker.{Talker}
use Rattle.form.specs.Wrong.{near_of}
use Rattle.form_letter.specs.Letters.{letter, selections}
use Rattle.form_number.specs.Forms.{exact, number}
use Rattle.form.proofs.Told.{tells-count}
use Rattle.numbers.proofs.Rows.{tells_as}
use Rattle.form.specs.Kind.{answer_by, read_by}
use Rattle.kind_gsa.specs.Row.{gsa_from, gsa_row, gsa_told, twelve_of, twelve_row}
use Rattle.kind_gsa.proofs.read.Goals as goal

-- What the fields come to, part by part, is what the row says.
by_parts : (out : List ℤ) (t : Talker) (field : ℕ → List ℕ)
    → gsa_from out t ((letter selections).got field) ((exact 1 1 3).got (λ k. field (1 + k)))
    (twelve_of (twelve_row.got field 2) (near_of 14 (number.got (λ k. field (14 + k))).wrong
    (near_of 15 (number.got (λ k. field (15 + k))).wrong (near_of 16 (number.got (λ k. field (16 + k))).wrong 0))))
    (number.got (λ k. field (14 + k))) (number.got (λ k. field (15 + k))) (number.got (λ k. field (16 + k)))
    ≡ gsa_told out t 17 field
unfolding read_by answer_by gsa_row gsa_from twelve_of
by_parts out t field = refl

pub returns-then-f-ne17 : goal.returns-then-f-ne17
unfolding gsa_row
returns-then-f-ne17 c = tells-count _ _ _ _ _ c.refuse.ensures c.if-f-ne17.true

pub returns : goal.returns
returns c =
    tells_as c.gsa_from.ensures (rw (
      c.if-f-ne17.false,
      c.active_in-active.ensures,
      c.near-w15.ensures,
      c.near-w16.ensures,
      c.near-w17.ensures,
      c.number-vdop.ensures,
      c.number-hdop.ensures,
      c.number-pdop.ensures,
      c.exact-fix.ensures,
      c.letter-selection.ensures,
      c.at.ensures.holds,
      c.at-2.ensures.holds,
      c.at-3.ensures.holds,
      c.at-4.ensures.holds,
      c.at-5.ensures.holds,
    ) (by_parts _ _ _))
