-- `maker` meets its contract: a GPS mask that does not fit is refused; else each of the maker's sentences has its record and its writer.
use mathlib.Core.Path.{sym, ◌∙◌}
use Rattle.sentence.specs.Back.{maker_at}
use Rattle.sentence.proofs.Handing.{refused_over, kept}
use Rattle.sentence.proofs.writing.maker.Goals as goal

pub returns-then-over : goal.returns-then-over
returns-then-over c =
    refused_over (maker_at c.args.k c.args.n.now) c.args.out.now _ (sym c.over.ensures ∙ c.if-over.true) _
    c.refuse.ensures

pub returns-in-Pr : goal.returns-in-Pr
returns-in-Pr c =
    kept (maker_at c.args.k c.args.n.now) c.args.out.now _ (sym c.over.ensures ∙ c.if-over.false)
    (rw (c.in-Pr.is, ← c.at.ensures) c.write.ensures)

pub returns-in-Tr : goal.returns-in-Tr
returns-in-Tr c =
    kept (maker_at c.args.k c.args.n.now) c.args.out.now _ (sym c.over.ensures ∙ c.if-over.false)
    (rw (c.in-Tr.is, ← c.at-in-Tr.ensures) c.write-in-Tr.ensures)

pub returns-in-Sr : goal.returns-in-Sr
returns-in-Sr c =
    kept (maker_at c.args.k c.args.n.now) c.args.out.now _ (sym c.over.ensures ∙ c.if-over.false)
    (rw (c.in-Sr.is, ← c.at-in-Sr.ensures) c.write-in-Sr.ensures)

pub returns-in-Er : goal.returns-in-Er
returns-in-Er c =
    kept (maker_at c.args.k c.args.n.now) c.args.out.now _ (sym c.over.ensures ∙ c.if-over.false)
    (rw c.in-Er.is c.write-in-Er.ensures)

pub returns-in-Pa : goal.returns-in-Pa
returns-in-Pa c =
    kept (maker_at c.args.k c.args.n.now) c.args.out.now _ (sym c.over.ensures ∙ c.if-over.false)
    (rw (c.in-Pa.is, ← c.at-in-Pa.ensures) c.write-in-Pa.ensures)

pub returns-in-Ta : goal.returns-in-Ta
returns-in-Ta c =
    kept (maker_at c.args.k c.args.n.now) c.args.out.now _ (sym c.over.ensures ∙ c.if-over.false)
    (rw (c.in-Ta.is, ← c.at-in-Ta.ensures) c.write-in-Ta.ensures)

pub returns-in-Sa : goal.returns-in-Sa
returns-in-Sa c =
    kept (maker_at c.args.k c.args.n.now) c.args.out.now _ (sym c.over.ensures ∙ c.if-over.false)
    (rw (c.in-Sa.is, ← c.at-in-Sa.ensures) c.write-in-Sa.ensures)

pub returns-in-Ea : goal.returns-in-Ea
returns-in-Ea c =
    kept (maker_at c.args.k c.args.n.now) c.args.out.now _ (sym c.over.ensures ∙ c.if-over.false)
    (rw (c.in-Ea.is, ← c.at-in-Ea.ensures) c.write-in-Ea.ensures)
