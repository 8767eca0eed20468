-- What the parts of the group reader promise one another. Nothing here is needed to know what a group is.
use Rattle.std.specs.Prelude.{◌+◌, ◌-◌, ◌≤◌, ℕ, Bool, true, ◌++◌, List, ◌≡◌, eqb, ltb, get_or, length, replicate}
use Rattle.std.specs.Prelude.{Err, None, Ok, Option, Result, Some}
use Rattle.std.proofs.Math.Option as Math
use Rattle.digits.specs.Pick.{pick}
use Rattle.lines.specs.Reader.{next, Step, stop}
use Rattle.kind_gsv.specs.Blank.{blank_entry}
use Rattle.kind_gsv.specs.declared.Entry.{Entry}
use Rattle.kind_gsv.specs.declared.Gsv.{Gsv}
use Rattle.sentence.specs.Lines.{read_line}
use Rattle.sentence.specs.Sentence as S
use Rattle.sky.specs.Group.{entries_of, follows, repeats, rule, Seen, seen, used_of}
use Rattle.sky.specs.Marks.{Marks}
use Rattle.sky.specs.Sky.{refused_sky}
use Rattle.sky.specs.declared.Sky.{Sky}
use Rattle.sky_read.specs.declared.Head.{Head}
use Rattle.sky_read.specs.declared.Stop.{Stop}
use Rattle.sky_read.specs.declared.Taken.{Taken}

-- What holds of a record that was read.
pub record Sound (v : Gsv) : Type 0 where
  pub from_one : 1 ≤ v.line
  pub line-nine : v.line ≤ 9
  pub lines-nine : v.lines ≤ 9
  pub satellites : v.satellites ≤ 99
  pub few : v.count ≤ 4
  pub four : length v.entries ≡ 4
  pub numbers : (j : ℕ) → ltb j v.count ≡ true → (get_or v.entries j blank_entry).number ≤ 99
  pub rest : v.entries ≡ used_of v ++ replicate (4 - v.count) blank_entry

pub record Checks (v : Gsv) (before : List ℕ) (answer : Bool) (left : List ℕ) : Type 0 where
  pub kept : length left ≡ length before
  pub finds : (es : List Entry) → Marks es before → answer ≡ repeats es (used_of v)
  pub marks : (es : List Entry) → Marks es before → Marks (es ++ used_of v) left

-- What the lines before said: nothing, or the head and the entries.
abbrev pub seen_of : Option Head → List Entry → Math.Option Seen
seen_of None es = Math.none
seen_of (Some h) es = Math.some (record { talker = h.talker; lines = h.lines; satellites = h.satellites; entries = es })

-- A line that was taken, or the number and the field that end the group.
abbrev pub step_of : Result Taken Stop → Math.Option Seen → Step (Math.Option Seen)
step_of (Ok t) q = next (Math.some (seen q t.talker t.gsv))
step_of (Err s) q = stop s.no s.field

pub record IsTaken (h : Option Head) (k : ℕ) (l : List ℕ) (t : Taken) (es : List Entry) (left : List ℕ) : Type 0 where
  pub read : read_line l ≡ S.Gsv t.talker t.gsv
  pub fits : follows (seen_of h es) k t.talker t.gsv ≡ true
  pub marks : Marks (es ++ used_of t.gsv) left

-- For any entries of the lines before that are marked.
abbrev pub Before : Option Head → List Entry → List ℕ → Type 0
Before h es seen = (entries_of (seen_of h es) ≡ es) × Marks es seen

pub record Steps (h : Option Head) (k : ℕ) (l before : List ℕ) (r : Result Taken Stop) (left : List ℕ) : Type 0 where
  pub kept : length left ≡ length before
  pub ruled : (es : List Entry) → Before h es before → step_of r (seen_of h es) ≡ rule (seen_of h es) k l
  pub taken : (es : List Entry) → Before h es before → (t : Taken) → r ≡ Ok t → IsTaken h k l t es left

-- Where the lines end, before line k.
abbrev pub sky_end : Option Head → ℕ → List Entry → Sky
sky_end None k entries = refused_sky 6 k 0
sky_end (Some h) k entries =
    pick (eqb (h.lines + 1) k)
    (record { no = 0; line = 0; field = 0; talker = Some h.talker; table = record { count = h.satellites; entries = entries } })
    (refused_sky 6 k 0)
