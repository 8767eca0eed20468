-- Each place before that of the loop holds the value that stands there.
use Rattle.std.proofs.Common.{◌≡◌, ℕ, ◌*◌, ◌+◌, ◌<◌, length, get_or}
use Rattle.form.specs.Numbers.{maybe_layout}
use Rattle.form.specs.Values.{no_maybe}
use Rattle.kind_gsa.proofs.twelve_at.Given as goal

abbrev pub invariant-loop-i : goal.invariant-loop-i
invariant-loop-i l = (length l.s ≡ 12) × ((k : ℕ) → k < l.i → get_or l.s k no_maybe ≡ maybe_layout.at l.n (3 + 2 * k))
