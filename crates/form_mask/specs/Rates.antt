-- Rate 1200 to 115200 without leading zeros, or empty. Self-test code 0 to 255, one to three digits without needless zeros.
use Rattle.std.specs.Prelude.{ℕ, ◌&&◌, cond, List, eqb, ltb, get_or, length}
use Rattle.std.specs.Prelude.{None, Option}
use Rattle.digits.specs.Decimal.{digits_of}
use Rattle.form.specs.Got.{got_of, maybe_of, within_of}
use Rattle.form.specs.declared.got.Got.{Got}

-- The limits of a rate, and of a self-test code.
abbrev pub rate_least : ℕ
rate_least = 1200

abbrev pub rate_most : ℕ
rate_most = 115200

abbrev pub code_most : ℕ
code_most = 255

-- lo to hi digits, of which the first of several is no zero.
unfoldable pub plain_of : ℕ → ℕ → List ℕ → Option ℕ
plain_of lo hi f = cond (ltb 1 (length f) && eqb (get_or f 0 0) 48) None (digits_of lo hi f)

-- 1200 to 115200.
unfoldable pub rate_of : List ℕ → Option ℕ
rate_of f = within_of rate_least rate_most (plain_of 4 6 f)

-- A rate, which may be empty.
unfoldable pub rate_form : List ℕ → Got
rate_form f = maybe_of f (rate_of f)

-- 0 to 255.
unfoldable pub code_of : List ℕ → Option ℕ
code_of f = within_of 0 code_most (plain_of 1 3 f)

-- A code, which is never empty.
unfoldable pub code_form : List ℕ → Got
code_form f = got_of (code_of f)
