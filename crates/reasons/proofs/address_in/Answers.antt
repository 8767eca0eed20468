-- Up to the first comma, or all.
use mathlib.Core.Path.{sym}
use lib.Seq.{length-take-le}
use Rattle.digits.proofs.Finding.{find-le}
use Rattle.reasons.proofs.address_in.Goals as goal

pub slice_bounds-result-end : goal.slice_bounds-result-end
slice_bounds-result-end c =
    sym (length-take-le _ _ (rw c.find-n.ensures (find-le 44 c.args.body.now)))
