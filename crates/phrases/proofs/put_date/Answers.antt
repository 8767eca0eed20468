-- Year, month, day.
use Rattle.put.proofs.Chain.{◌⨾◌}
use Rattle.phrases.specs.Phrases.{date_words}
use Rattle.phrases.proofs.put_date.Goals as goal

pub returns : goal.returns
unfolding date_words
returns c = c.put_four-a0.ensures ⨾
    c.put_pair-a1.ensures ⨾ c.put_pair.ensures
