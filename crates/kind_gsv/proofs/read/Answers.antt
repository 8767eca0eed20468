-- `read` meets its contract: the number of entries decides, then each field's form.
use Prim.Native.Nat.{ℕ}
use mathlib.Core.Path.{◌∙◌, ap}
use borrow.Author.Tests.{le-ltb, lt-ltb}
use Rattle.fields.specs.Parts.{parts_of}
use Rattle.numbers.proofs.Rows.{tells_as, tells-refused}
use Rattle.kind_gsv.proofs.Places.{gsv_by, with-few, with-many}
use Rattle.kind_gsv.proofs.read.Goals as goal

pub returns-then-count-gt4 : goal.returns-then-count-gt4
returns-then-count-gt4 c =
    let field = parts_of c.args.f in
    tells-refused c.refuse.ensures (with-many c.args.out.now c.args.t c.entries_of-count.result field (lt-ltb _ _ c.if-count-gt4.true)
    ∙ ap (λ (count : ℕ). gsv_by c.args.out.now c.args.t count field) c.entries_of-count.ensures)

pub returns : goal.returns
returns c =
    let field = parts_of c.args.f in
    tells_as c.gsv_from.ensures (rw (
      c.entry_in-e4.ensures,
      c.entry_in-e3.ensures,
      c.entry_in-e2.ensures,
      c.entry_in-e1.ensures,
      c.exact-satellites.ensures,
      c.exact-line.ensures,
      c.exact-lines.ensures,
      c.at.ensures.holds,
      c.at-2.ensures.holds,
      c.at-3.ensures.holds,
    ) (with-few c.args.out.now c.args.t c.entries_of-count.result field (le-ltb _ _ c.if-count-gt4.false))
    ∙ ap (λ (count : ℕ). gsv_by c.args.out.now c.args.t count field) c.entries_of-count.ensures)
