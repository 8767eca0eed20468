-- Each place before that of the loop holds the value that stands there.
use Rattle.std.proofs.Common.{◌≡◌, ℕ, ◌*◌, ◌+◌, ◌<◌, length, get_or}
use Rattle.kind_gsv.specs.Blank.{blank_entry}
use Rattle.kind_gsv.specs.Row.{entry_layout}
use Rattle.kind_gsv.proofs.four.Given as goal

abbrev pub invariant-loop-i : goal.invariant-loop-i
invariant-loop-i l = (length l.s ≡ 4) × ((k : ℕ) → k < l.i → get_or l.s k blank_entry ≡ entry_layout.at l.n (5 + 7 * k))
