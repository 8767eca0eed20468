-- The digits before the last are put by the function itself for the tenth of the number, which is smaller; then the last.
use Rattle.text.proofs.+put_number.Given as goal

abbrev pub decreases-put_number : goal.decreases-put_number
decreases-put_number l = l.n
