-- The class receiver on the numbers of its settings. Fewer than eleven, and a GPS mask that 32 bits do not hold, are refused before all
-- else, as a setting out of range is: 5 with line 0 and field 0.
use Rattle.std.specs.Prelude.{ℕ, cond, List, eqb, ltb, ℤ, length}
use Rattle.receiver.specs.declared.Counts.{Counts}
use Rattle.receiver.specs.Command.{answer_of, Outcome, outcome_of, output_after, settings_after}
use Rattle.receiver.specs.Settings.{counts_of}
use Rattle.frame.specs.declared.Written.{Written}
use Rattle.digits.specs.Pick.{pick}
use Rattle.frame.specs.Written.{refused}
use Rattle.numbers.specs.Numbers.{laid}
use Rattle.receiver_numbers.specs.Numbers.{said, setting_numbers, settings_at}

-- At start: 8 where there is no room for eleven numbers.
abbrev pub start_no : List ℤ → ℕ
start_no numbers = cond (ltb (length numbers) 11) 8 0

-- What a command comes to: its answer, the numbers of the settings after it, and the output after it.
pub record Stepped : Type 0 where
  pub answer : Written
  pub numbers : List ℤ
  pub out : List ℕ

-- The settings after a command are laid where it is answered; a refusal leaves the numbers.
abbrev pub carried : List ℤ → Outcome → List ℕ → Stepped
carried numbers o out =
    record {
      answer = answer_of o (length out);
      numbers =
          pick (eqb (answer_of o (length out)).no 0)
          (laid (setting_numbers (settings_after (settings_at numbers) o (length out))) numbers)
          numbers;
      out = output_after o out;
    }

unfoldable pub stepped : List ℤ → ℕ → List ℕ → List ℕ → Stepped
stepped numbers arrival line out =
    pick (said numbers)
    (carried numbers (outcome_of (settings_at numbers) arrival line) out)
    (record { answer = refused 5 0 0; numbers = numbers; out = out })

-- How many satellites the settings allow.
unfoldable pub counts_at : List ℤ → Counts
counts_at numbers =
    pick (said numbers)
    (counts_of (settings_at numbers))
    (record { no = 5; line = 0; field = 0; gps = 0; glonass = 0 })
