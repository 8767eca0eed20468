use Rattle.words.proofs.FormLaws.{no-digits, more-digits}
use Rattle.words.proofs.code.+put_hex.Goals as goal

pub returns-then-width-eq0 : goal.returns-then-width-eq0
returns-then-width-eq0 t c = no-digits _ c.args.width c.args.v c.if-width-eq0.true

pub returns : goal.returns
returns t c =
    more-digits c.args.width c.args.v _ c.if-width-eq0.false c.hex_of.ensures c.put_hex-a.ensures c.put.ensures
