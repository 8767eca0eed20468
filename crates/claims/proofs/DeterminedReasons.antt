-- Why a line was refused, and what a log holds beside its lines: any two results that a contract permits are equal.
use Prim.Native.Nat.{ℕ}
use mathlib.Core.List.{List}
use Rattle.line.specs.Line.{body_byte, xor_of}
use Rattle.line_flaw.specs.Flaw.{flaw_of}
use Rattle.numbers.specs.declared.Told.{Told}
use Rattle.words.specs.Nth.{nth}
use Rattle.words.specs.Fields.{count_text, field_text}
use Rattle.reasons.specs.Reasons.{reason_text}
use Rattle.rows_words.specs.Worded.{told_worded}
use Rattle.tally.specs.declared.Tally.{Tally}
use Rattle.tally.specs.Tally.{ended, nothing, pass_all, take}
use Rattle.claims.proofs.Determined.{One, one}
use Rattle.claims.proofs.DeterminedWriting.{one-put, OnePut}

-- line, frame, line_flaw
pub may-stand : (b : ℕ) → One (body_byte b)
may-stand b = one

pub xor-of : (s : List ℕ) → One (xor_of s)
xor-of s = one

pub flaw-of : (l : List ℕ) → One (flaw_of l)
flaw-of l = one

-- words, reasons
pub nth_of : (s : List ℕ) (d n : ℕ) → One (nth d n s)
nth_of s d n = one

pub put-field : (d : List ℕ) (at kind field : ℕ) → OnePut d at (field_text kind field)
put-field d at kind field = one-put d at (field_text kind field)

pub put_count : (d : List ℕ) (at kind : ℕ) → OnePut d at (count_text kind)
put_count d at kind = one-put d at (count_text kind)

pub put-reason : (d : List ℕ) (at : ℕ) (line : List ℕ) (n field : ℕ) → OnePut d at (reason_text line n field)
put-reason d at line n field = one-put d at (reason_text line n field)

pub put-told : (d : List ℕ) (at offset row number : ℕ) (line : List ℕ) (t : Told) → OnePut d at (told_worded offset row number line t)
put-told d at offset row number line t = one-put d at (told_worded offset row number line t)

-- tally
pub tally-start : One nothing
tally-start = one

pub tally-pass : (t : Tally) (s : List ℕ) → One (pass_all t s)
tally-pass t s = one

pub tally-take : (t : Tally) (n : ℕ) → One (take t n)
tally-take t n = one

pub tally-end : (t : Tally) → One (ended t)
tally-end t = one
