-- The runs of a log (request 7 of document 02), each claim under a plain sentence. A run is what the program skies and the Rust crate read
-- as a group; the lines are those that the finder gives out, in order.
use Prim.Native.Nat.{ℕ}
use mathlib.Core.List.{[], ◌++◌, ◌∷◌, List}
use mathlib.Core.Path.{◌≡◌}
use native.Mathlib.Omega.{arith}
use Rattle.lines.specs.Cut.{cut_lines}
use Rattle.address.specs.declared.Talker.{Talker}
use Rattle.kind_gsv.specs.declared.Entry.{Entry}
use Rattle.sky.specs.Group.{group_of, whole}
use Rattle.runs.specs.Runs.{AllSized, gsv_lines, Line, lines_of, runs_of}
use Rattle.runs.specs.Step.{none_open, runs_by}
use Rattle.runs.proofs.Folded as Folded
use Rattle.runs.proofs.Laws as Laws
use Rattle.runs.proofs.Whole as Whole

-- Every line that reads as GSV stands in exactly one run, in order; no line is lost, and none else stands in one.
pub runs-lines : (ls : List Line) → lines_of (runs_of ls) ≡ gsv_lines ls
runs-lines ls = Laws.lines_from 0 [] ls

-- A run has one to nine lines.
pub runs-sized : (ls : List Line) → AllSized (runs_of ls)
runs-sized ls = Laws.sized-from 0 [] ls (omega arith)

-- The step, carried from line to line, gives just these runs.
pub runs-stepped : (ls : List Line) → runs_by none_open [] ls ≡ runs_of ls
runs-stepped ls = Folded.folded ls

-- The lines of a whole group that stand one after another are one run of just those lines, whatever stands before and after; and what
-- stands before and after is cut as if it stood alone.
pub runs-whole : (g : List ℕ) (t : Talker) (es : List Entry) → group_of g ≡ whole t es → (ls ms : List Line)
    → runs_of (ls ++ (cut_lines g ++ ms)) ≡ runs_of ls ++ (cut_lines g ∷ runs_of ms)
runs-whole g t es e ls ms = Whole.whole_run g t es e ls ms
