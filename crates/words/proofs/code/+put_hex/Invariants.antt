-- The digits before the last, put by the function itself for one digit less; then the last.
use Rattle.words.proofs.code.+put_hex.Given as goal

abbrev pub decreases-put_hex : goal.decreases-put_hex
decreases-put_hex l = l.width
