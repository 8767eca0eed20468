-- `answer_lines` is safe and ends: it goes on where no line is open, at the end of each line found.
use Rattle.std.proofs.Common.{◌-◌, ◌≤◌, ◌≡◌, [], length, take}
use Rattle.finder.specs.Finder.{open_line}
use Rattle.standin.proofs.Standin.answer_lines.Given as goal

abbrev pub invariant-loop-found : goal.invariant-loop-found
invariant-loop-found g l = record { inside : l.at ≤ length l.s; shut : open_line (take l.at l.s) ≡ [] }

abbrev pub decreases-loop-found : goal.decreases-loop-found
decreases-loop-found g l = length l.s - l.at
