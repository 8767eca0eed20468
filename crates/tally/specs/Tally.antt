-- What a log holds beside its lines, counted byte by byte: the bytes that the finder passes over, and among them lines that were begun and
-- not given out. Such a line is cut short where a `$`, or the end of the log, comes before its LF; where the LF comes, it had over 82
-- bytes.
use Rattle.std.specs.Prelude.{ℕ, ◌+◌, min, List, [], ◌∷◌, Bool, false, cond, not, ◌&&◌, ◌||◌, eqb}
use Rattle.tally.specs.declared.Tally.{Tally}

-- A count of 64 bits stays at its last number.
abbrev pub plus : ℕ → ℕ → ℕ
plus n k = min (n + k) 18446744073709551615

abbrev pub one : Bool → ℕ
one b = cond b 1 0

-- Nothing so far.
abbrev pub nothing : Tally
nothing = record { begun = false; bytes = 0; rows = 0; passed = 0; short = 0; long = 0 }

-- A byte that is passed over: whether it opens a line, ends one or cuts one short, and how many rows of the file have ended.
unfoldable pub pass_one : Tally → ℕ → Tally
pass_one t b =
    record {
      begun = eqb b 36 || (not (eqb b 10) && t.begun);
      bytes = plus t.bytes 1;
      rows = plus t.rows (one (eqb b 10));
      passed = plus t.passed 1;
      short = plus t.short (cond (eqb b 36) (one t.begun) 0);
      long = plus t.long (cond (eqb b 10) (one t.begun) 0);
    }

unfoldable pub pass_all : Tally → List ℕ → Tally
pass_all t [] = t
pass_all t (b ∷ s) = pass_all (pass_one t b) s

-- A line of n bytes that is given out: its `$` cuts short a line that is open, and its LF ends a row.
unfoldable pub take : Tally → ℕ → Tally
take t n =
    record {
      begun = false;
      bytes = plus t.bytes n;
      rows = plus t.rows 1;
      passed = t.passed;
      short = plus t.short (one t.begun);
      long = t.long;
    }

-- The end of the log, which cuts short a line that is open.
unfoldable pub ended : Tally → Tally
ended t =
    record { begun = false; bytes = t.bytes; rows = t.rows; passed = t.passed; short = plus t.short (one t.begun); long = t.long }
