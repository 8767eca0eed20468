-- Digits of a fixed width, in a range; the numbers of satellites.
use Rattle.std.specs.Prelude.{ℕ, List}
use Rattle.std.specs.Prelude.{Option}
use Rattle.digits.specs.Decimal.{digits_of}
use Rattle.form.specs.Got.{got_of, maybe_of, within_of}
use Rattle.form.specs.declared.got.Got.{Got}

-- The numbers of satellites, from 01 to 99.
abbrev pub satellite_least : ℕ
satellite_least = 1

abbrev pub satellite_most : ℕ
satellite_most = 99

-- w digits whose value is from lo to hi.
unfoldable pub fixed_of : ℕ → ℕ → ℕ → List ℕ → Option ℕ
fixed_of w lo hi f = within_of lo hi (digits_of w w f)

-- w digits from lo to hi, that may be empty, and that may not.
abbrev pub fixed_form : ℕ → ℕ → ℕ → List ℕ → Got
fixed_form w lo hi f = maybe_of f (fixed_of w lo hi f)

abbrev pub exact_form : ℕ → ℕ → ℕ → List ℕ → Got
exact_form w lo hi f = got_of (fixed_of w lo hi f)
