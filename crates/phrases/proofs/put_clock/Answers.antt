-- Hours, minutes, seconds, hundredths.
use Rattle.put.proofs.Chain.{◌⨾◌}
use Rattle.phrases.specs.Phrases.{clock_words}
use Rattle.phrases.proofs.put_clock.Goals as goal

pub returns : goal.returns
unfolding clock_words
returns c = c.put_two-a0.ensures ⨾ c.put_pair-a1.ensures ⨾
    c.put_pair-a2.ensures ⨾ c.put_pair.ensures
