-- The cut as a step, line by line, for one who keeps of the open run how many lines it has and the number that its first line announced.
use Rattle.std.specs.Prelude.{◌+◌, ℕ, ◌&&◌, ◌||◌, Bool, false, true, [], ◌++◌, ◌∷◌, List, eqb, leb, ltb, None, Option, Some}
use Rattle.digits.specs.Pick.{pick}
use Rattle.sentence.specs.Lines.{read_line}
use Rattle.runs.specs.declared.Open.{Open}
use Rattle.runs.specs.declared.Says.{Says}
use Rattle.runs.specs.declared.Stepped.{Stepped}
use Rattle.runs.specs.Runs.{Line, Run, says_of}

abbrev pub open_of : ℕ → ℕ → Open
open_of lines last = record { lines = lines; last = last }

abbrev pub none_open : Open
none_open = open_of 0 0

-- The run that a line numbered k goes to, as it is before the line: the open one, or a new one, of which the line announces the last.
unfoldable pub run_for : Open → ℕ → ℕ → Open
run_for o k n = pick (eqb o.lines 0 || eqb k 1) (open_of 0 n) o

abbrev pub stepped : Bool → Bool → Bool → Open → Stepped
stepped before joins ends next = record { before = before; joins = joins; ends = ends; next = next }

unfoldable pub joined_to : Bool → Open → ℕ → Stepped
joined_to before run k =
    pick (eqb k run.last || leb 8 run.lines) (stepped before true true none_open)
    (stepped before true false (open_of (run.lines + 1) run.last))

abbrev pub step_of : Open → Option Says → Stepped
step_of o None = stepped (ltb 0 o.lines) false false none_open
step_of o (Some s) = joined_to (ltb 0 o.lines && eqb s.number 1) (run_for o s.number s.last) s.number

-- The runs by the step: the open run is closed where the step says that it ends before the line, the line is put behind what is open then,
-- and that is closed where the step says that it ends with the line.
abbrev pub closed_if : Bool → Run → List Run
closed_if b run = pick b (run ∷ []) []

abbrev pub held_by : Stepped → Run → Line → Run
held_by s held l = pick s.joins (pick s.before [] held ++ (l ∷ [])) []

abbrev pub step_on : Stepped → Run → Line → (Open → Run → List Run) → List Run
step_on s held l go =
    closed_if s.before held ++ (closed_if s.ends (held_by s held l) ++ go s.next (pick s.ends [] (held_by s held l)))

unfoldable pub runs_by : Open → Run → List Line → List Run
runs_by o held [] = closed_if (ltb 0 o.lines) held
runs_by o held (l ∷ ls) = step_on (step_of o (says_of (read_line l))) held l (λ o held. runs_by o held ls)
