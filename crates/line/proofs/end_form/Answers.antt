-- `end_form` meets its contract: the code is the test of the definition.
use Rattle.std.proofs.Common.{rules, tests}
use Rattle.line.specs.Line.{end_form}
use Rattle.line.proofs.end_form.Goals.{else-is_hex, else-is_hex-2, else-t-eq42, then-is_hex, then-is_hex-2, then-t-eq42}
use Rattle.line.proofs.end_form.Goals as goal

pub returns-then-t-eq13 : goal.returns-then-t-eq13
unfolding end_form
returns-then-t-eq13 c = search (rules, tests)

pub returns-else-t-eq13 : goal.returns-else-t-eq13
unfolding end_form
returns-else-t-eq13 c = elim c.if-is_hex-2.branch [
  | then-is_hex-2 w ↦ search (rules, tests)
  | else-is_hex-2 w ↦ elim c.if-is_hex.branch [
    | then-is_hex v ↦ search (rules, tests)
    | else-is_hex v ↦ elim c.if-t-eq42.branch [
      | then-t-eq42 u ↦ search (rules, tests)
      | else-t-eq42 u ↦ search (rules, tests)
    ]
  ]
]
