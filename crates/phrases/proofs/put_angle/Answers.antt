-- Degrees, minutes, the point, four digits.
use Rattle.put.proofs.Chain.{◌⨾◌}
use Rattle.phrases.specs.Phrases.{angle_words}
use Rattle.phrases.proofs.put_angle.Goals as goal

pub returns : goal.returns
unfolding angle_words
returns c = c.put_counted-a0.ensures ⨾ (rw c.from.ensures at c.put_number-a1.ensures) ⨾
    (c.put-a2.ensures ⨾ c.put_four.ensures)
