-- A group read to numbers and written from numbers.
use Rattle.std.specs.Prelude.{ℕ, cond, List, ltb, ℤ, length}
use Rattle.address.specs.declared.Talker.{Talker}
use Rattle.frame.specs.declared.Written.{Written}
use Rattle.digits.specs.Pick.{pick}
use Rattle.frame.specs.Written.{refused}
use Rattle.sky.specs.declared.Table.{Table}
use Rattle.sky.specs.Group as G
use Rattle.sky.specs.Sky.{table_of}
use Rattle.sky.specs.Table.{left_group, written_group}
use Rattle.numbers.specs.Numbers.{laid, talker_of}
use Rattle.numbers.specs.Layout.{whole}
use Rattle.sky_numbers.specs.Numbers.{sky_numbers, table_at}

-- What reading a group hands over: number, line and field of the refusal, and the numbers.
pub record Handed : Type 0 where
  pub no : ℕ
  pub line : ℕ
  pub field : ℕ
  pub numbers : List ℤ

-- A whole sky is laid into the numbers, 8 where they are fewer than 254; a refusal leaves them.
abbrev pub handed : G.Answer → List ℤ → Handed
handed (G.whole t es) out =
    record { no = cond (ltb (length out) 254) 8 0; line = 0; field = 0; numbers = laid (sky_numbers t (table_of es)) out }
handed (G.refused n k f) out = record { no = n; line = k; field = f; numbers = out }

-- What writing a group comes to: its answer, and the output after it.
pub record Put : Type 0 where
  pub answer : Written
  pub out : List ℕ

abbrev pub refusing : ℕ → List ℕ → Put
refusing n out = record { answer = refused n 0 0; out = out }

abbrev pub table_put : Talker → Table → List ℕ → Put
table_put t r out = record { answer = written_group t r (length out); out = left_group t r out }

-- 5 for fewer than 254 numbers, then 3 for a talker's number that is none, both with line 0 and field 0; then what writing the table that
-- they say comes to.
unfoldable pub group_put : List ℤ → List ℕ → Put
group_put numbers out =
    pick (ltb (length numbers) 254) (refusing 5 out)
    (pick (ltb 4 (whole.at numbers 0)) (refusing 3 out) (table_put (talker_of (whole.at numbers 0)) (table_at numbers) out))
