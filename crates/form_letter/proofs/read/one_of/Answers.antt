-- `one_of` meets its contract: one byte, which stands in the set or not.
use lib.ListN.{get_or}
use Rattle.std.proofs.Common.{arith}
use Rattle.std.proofs.lemmas.Bool.Decides.{nat_tests}
use Rattle.form_letter.proofs.LetterLaws.{letter-one, letter-other, list_any-in}
use Rattle.form_letter.proofs.read.one_of.Goals as goal

pub returns-then-f-ne1 : goal.returns-then-f-ne1
returns-then-f-ne1 c =
    grind (
      arith,
      nat_tests,
      letter-one c.args.set.now c.args.f.now,
      letter-other c.args.set.now c.args.f.now,
      list_any-in (get_or c.args.f.now 0 0) c.args.set.now,
    )

pub returns : goal.returns
returns c =
    grind (
      arith,
      nat_tests,
      letter-one c.args.set.now c.args.f.now,
      list_any-in (get_or c.args.f.now 0 0) c.args.set.now,
    )
