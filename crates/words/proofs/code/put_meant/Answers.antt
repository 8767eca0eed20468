-- The letter, then its meaning.
use Rattle.put.proofs.Chain.{◌⨾◌}
use Rattle.words.specs.Codes.{meant_words}
use Rattle.words.proofs.code.put_meant.Goals as goal

pub returns : goal.returns
unfolding meant_words
returns c = (rw c.byte_of-b.ensures at
    c.put-a.ensures) ⨾ (rw (
      c.nth_of-meaning.ensures,
      c.find.ensures,
      c.byte_of-b.ensures,
    ) at c.put_bytes.ensures)
