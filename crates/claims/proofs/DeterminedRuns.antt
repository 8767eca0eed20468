-- The cut into runs and what is printed of a run: any two results that a contract permits are equal.
use Prim.Native.Nat.{ℕ}
use mathlib.Core.List.{List}
use Rattle.sentence.specs.Lines.{read_line}
use Rattle.sky.specs.Group.{group_of}
use Rattle.runs.specs.declared.Open.{Open}
use Rattle.runs.specs.Runs.{says_of}
use Rattle.runs.specs.Step.{open_of, step_of}
use Rattle.skies_rows.specs.Rows.{run_text}
use Rattle.claims.proofs.Determined.{One, one}
use Rattle.claims.proofs.DeterminedWriting.{one-put, OnePut}

-- runs
pub run_step : (was : Open) (line : List ℕ) → One (step_of was (says_of (read_line line)))
run_step was line = one

-- skies_rows
pub run-rows : (d : List ℕ) (at number offset : ℕ) (run : List ℕ) → OnePut d at (run_text number offset (group_of run))
run-rows d at number offset run = one-put d at (run_text number offset (group_of run))

-- host
pub host-run-step : (lines last : ℕ) (line : List ℕ)
    → One (step_of (open_of lines last) (says_of (read_line line))).joins × One (step_of (open_of lines last) (says_of (read_line line))).before
    × One (step_of (open_of lines last) (says_of (read_line line))).ends
    × One (step_of (open_of lines last) (says_of (read_line line))).next.lines
    × One (step_of (open_of lines last) (says_of (read_line line))).next.last
host-run-step lines last line = (one, one, one, one, one)
