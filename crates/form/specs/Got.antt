-- What a form reads of its fields: a value, a value that is missing, or a wrong field.
use Rattle.std.specs.Prelude.{ℕ, ◌&&◌, cond, false, true, List, eqb, leb, pos, ℤ, length}
use Rattle.std.specs.Prelude.{None, Option, Some}
use Rattle.digits.specs.Bind.{bind}
use Rattle.digits.specs.Pick.{pick}
use Rattle.form.specs.declared.got.Got.{Got}
use Rattle.form.specs.declared.got.GotInt.{GotInt}

-- Missing is never zero: it has its own mark, and is held as zero.
abbrev pub missing : Got
missing = record { wrong = 0; there = false; value = 0 }

abbrev pub got_of : Option ℕ → Got
got_of (Some n) = record { wrong = 0; there = true; value = n }
got_of None = record { wrong = 1; there = true; value = 0 }

abbrev pub missing_int : GotInt
missing_int = record { wrong = 0; there = false; value = pos 0 }

abbrev pub got_int_of : Option ℤ → GotInt
got_int_of (Some z) = record { wrong = 0; there = true; value = z }
got_int_of None = record { wrong = 1; there = true; value = pos 0 }

-- A field that may be empty, and is then missing.
unfoldable pub maybe_of : List ℕ → Option ℕ → Got
maybe_of f o = pick (eqb (length f) 0) missing (got_of o)

unfoldable pub maybe_int_of : List ℕ → Option ℤ → GotInt
maybe_int_of f o = pick (eqb (length f) 0) missing_int (got_int_of o)

-- A number from lo to hi.
unfoldable pub within_of : ℕ → ℕ → Option ℕ → Option ℕ
within_of lo hi o = bind o λ v. cond (leb lo v && leb v hi) (Some v) None
