-- `list_lines` is safe and ends: it goes on where no line is open, at the end of each line found.
use Rattle.std.proofs.Common.{◌-◌, ◌≤◌, ◌≡◌, [], length, take}
use Rattle.finder.specs.Finder.{open_line}
use Rattle.listing.proofs.Listing.list_lines.Given as goal

abbrev pub invariant-loop-self : goal.invariant-loop-self
invariant-loop-self g l = record { inside : l.at ≤ length l.s; shut : open_line (take l.at l.s) ≡ [] }

abbrev pub decreases-loop-self : goal.decreases-loop-self
decreases-loop-self g l = length l.s - l.at
