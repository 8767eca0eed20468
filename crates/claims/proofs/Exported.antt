-- Point 1 of the functions that a host calls: a refusal leaves every lent number and byte but the places of the refusal, which are its
-- number, its line and its field. Each is said of what the function's own contract says.
use Prim.Native.Nat.{ℕ}
use mathlib.Core.Path.{◌≡◌, ap, refl}
use mathlib.Core.Bool.{Bool, cond, false, true}
use mathlib.Core.List.{List}
use native.Mathlib.Omega.{arith}
use borrow.Author.Tests.{ltb-true, ne_eqb}
use lib.Dec.{ltb}
use lib.IntN.{ℤ}
use lib.ListN.{length}
use Rattle.digits.specs.Pick.{pick}
use Rattle.address.specs.declared.Talker.{Talker}
use Rattle.frame.specs.Written.{left_of, refused}
use Rattle.kind_gsv.specs.declared.Entry.{Entry}
use Rattle.numbers.specs.Layout.{standard_numbers}
use Rattle.numbers.specs.Numbers.{laid, talker_of}
use Rattle.numbers.specs.Layout.{whole}
use Rattle.numbers.proofs.Laying.{laid-not}
use Rattle.numbers.proofs.Layouts.{◌⊗◌}
use Rattle.numbers.proofs.Values.{lawful-talker, numbers-many}
use Rattle.sentence.specs.FromHost.{left_as, written_as}
use Rattle.sentence.specs.Lines.{read_line}
use Rattle.sentence.specs.ToHost.{laid_for, told_for}
use Rattle.sentence_laws.proofs.HostBack.{refusal-leaves}
use Rattle.sentence_laws.proofs.Refusals.{line-numbered, Numbered}
use Rattle.lines.specs.Caught.{Caught}
use Rattle.lines.specs.Cut.{cut_lines}
use Rattle.lines.specs.Edit.{OneByte}
use Rattle.sky.proofs.Damage.{damage-caught}
use Rattle.sky.specs.Group as G
use Rattle.sky.specs.Group.{group_of}
use Rattle.sky.specs.Sky.{table_of}
use Rattle.sky.specs.Table.{left_group}
use Rattle.sky_numbers.specs.Numbers.{sky_numbers, table_at, table_layout}
use Rattle.sky_numbers.proofs.Back.{lawful-table}
use Rattle.receiver.specs.Command.{outcome_of}
use Rattle.receiver.specs.Settings.{at_start}
use Rattle.receiver_numbers.specs.Numbers.{said, setting_numbers, settings_at, settings_layout}
use Rattle.host.specs.Answer.{set_at}
use Rattle.host.specs.Command.{carried, counts_at, start_no, Stepped, stepped}
use Rattle.host.specs.Group.{group_put, handed, Put, refusing, table_put}
use Rattle.claims.proofs.Commands.{refused-output}

-- Refusals are what they say: the number of a refused line is 1 to 5, never 0, and it has a field only beside 5.
pub refusal-numbered : (l : List ℕ) → Numbered (read_line l)
refusal-numbered = line-numbered

-- A number lent for an answer.
pub place-left : (n value stood : ℕ) → (n ≡ 0 → ⊥) → set_at n value stood ≡ stood
place-left n value stood h = rw (ne_eqb n 0 h)

-- Reading a line leaves the numbers, and the place of the kind.
pub read-leaves : (l : List ℕ) (numbers : List ℤ) (kind : ℕ) → ((told_for (read_line l) numbers).no ≡ 0 → ⊥)
    → (set_at (told_for (read_line l) numbers).no (told_for (read_line l) numbers).kind kind ≡ kind) × (laid_for (read_line l) numbers ≡ numbers)
read-leaves l numbers kind h = (place-left _ _ kind h, refusal-leaves (read_line l) numbers h)

-- Writing a record leaves the output, and the place of its length.
pub write-leaves : (kind : ℕ) (numbers : List ℤ) (out : List ℕ) (stood : ℕ) → ((written_as kind numbers out).no ≡ 0 → ⊥)
    → (set_at (written_as kind numbers out).no (written_as kind numbers out).length stood ≡ stood) × (left_as kind numbers out ≡ out)
unfolding left_of
write-leaves kind numbers out stood h = (place-left _ _ stood h, rw (ne_eqb (written_as kind numbers out).no 0 h))

-- So many numbers are not laid where there is no room, by the law of all layouts.
sky-numbers : (t : Talker) (es : List Entry) → length (sky_numbers t (table_of es)) ≡ 254
unfolding standard_numbers table_layout
sky-numbers t es = numbers-many (lawful-talker ⊗ lawful-table) (t, table_of es)

-- Reading a group leaves the numbers.
pub group-read-leaves : (s : List ℕ) (numbers : List ℤ) → ((handed (group_of s) numbers).no ≡ 0 → ⊥)
    → (handed (group_of s) numbers).numbers ≡ numbers
group-read-leaves s numbers = go (group_of s)
  where
    go : (a : G.Answer) → ((handed a numbers).no ≡ 0 → ⊥) → (handed a numbers).numbers ≡ numbers
    go (G.refused n k f) h = refl
    go (G.whole t es) h = by (ltb (length numbers) 254) refl h
      where
        by : (b : Bool) → ltb (length numbers) 254 ≡ b → (◌≡◌ {A = ℕ} (cond b 8 0) 0 → ⊥)
            → laid (sky_numbers t (table_of es)) numbers ≡ numbers
        by true e i = laid-not _ numbers (omega (arith, ltb-true (length numbers) 254 e, sky-numbers t es))
        by false e i = absurd (i refl)

-- Writing a group leaves the output, and the place of its length.
pub group-write-leaves : (numbers : List ℤ) (out : List ℕ) (stood : ℕ) → ((group_put numbers out).answer.no ≡ 0 → ⊥)
    → (set_at (group_put numbers out).answer.no (group_put numbers out).answer.length stood ≡ stood) × ((group_put numbers out).out ≡ out)
unfolding group_put left_group
group-write-leaves numbers out stood h = (place-left _ _ stood h, go (ltb (length numbers) 254) (ltb 4 (whole.at numbers 0)) h)
  where
    put : Put
    put = table_put (talker_of (whole.at numbers 0)) (table_at numbers) out

    go : (a b : Bool) → ((pick a (refusing 5 out) (pick b (refusing 3 out) put)).answer.no ≡ 0 → ⊥)
        → (pick a (refusing 5 out) (pick b (refusing 3 out) put)).out ≡ out
    go true b i = refl
    go false true i = refl
    go false false i = rw (ne_eqb put.answer.no 0 i)

-- The step leaves the settings and the output, and the place of the reply's length.
pub step-leaves : (numbers : List ℤ) (arrival : ℕ) (line out : List ℕ) (stood : ℕ)
    → ((stepped numbers arrival line out).answer.no ≡ 0 → ⊥)
    → (set_at (stepped numbers arrival line out).answer.no (stepped numbers arrival line out).answer.length stood ≡ stood)
    × (((stepped numbers arrival line out).numbers ≡ numbers) × ((stepped numbers arrival line out).out ≡ out))
unfolding stepped
step-leaves numbers arrival line out stood h = (place-left _ _ stood h, go (said numbers) h)
  where
    taken : Stepped
    taken = carried numbers (outcome_of (settings_at numbers) arrival line) out

    left : Stepped
    left = record { answer = refused 5 0 0; numbers = numbers; out = out }

    go : (a : Bool) → ((pick a taken left).answer.no ≡ 0 → ⊥) → ((pick a taken left).numbers ≡ numbers) × ((pick a taken left).out ≡ out)
    go true i = (rw (ne_eqb taken.answer.no 0 i), refused-output (outcome_of (settings_at numbers) arrival line) out i)
    go false i = (refl, refl)

-- The settings at start are laid whole or not at all.
pub start-leaves : (settings : List ℤ) → (start_no settings ≡ 0 → ⊥) → laid (setting_numbers at_start) settings ≡ settings
unfolding settings_layout
start-leaves settings = go (ltb (length settings) 11) refl
  where
    go : (b : Bool) → ltb (length settings) 11 ≡ b → (◌≡◌ {A = ℕ} (cond b 8 0) 0 → ⊥)
        → laid (setting_numbers at_start) settings ≡ settings
    go true e i = laid-not (setting_numbers at_start) settings (omega (arith, ltb-true (length settings) 11 e))
    go false e i = absurd (i refl)

-- The counts leave both places.
pub counts-leaves : (settings : List ℤ) (gps glonass : ℕ) → ((counts_at settings).no ≡ 0 → ⊥)
    → (set_at (counts_at settings).no (counts_at settings).gps gps ≡ gps)
    × (set_at (counts_at settings).no (counts_at settings).glonass glonass ≡ glonass)
counts-leaves settings gps glonass h = (place-left _ _ gps h, place-left _ _ glonass h)

-- Point 3 of what reading a group answers: one byte changed, dropped or added anywhere in the bytes of a whole group, and the host is told
-- 1 or 2 at the first line that is new or no longer as it was, with its numbers as they were.
pub group-damage-told : {g h : List ℕ} (t : Talker) (es : List Entry) → OneByte g h → group_of g ≡ G.whole t es → (numbers : List ℤ)
    → Caught (λ n k f. record { no = n; line = k; field = f; numbers = numbers }) (cut_lines g) (cut_lines h) (handed (group_of h) numbers)
group-damage-told t es one e numbers =
    let c = damage-caught t es one e in
    record {
      line = c.line;
      first = c.first;
      counted = c.counted;
      no = c.no;
      of-rule = c.of-rule;
      one-or-two = c.one-or-two;
      answers = ap (λ (a : G.Answer). handed a numbers) c.answers;
    }
