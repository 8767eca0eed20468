-- Numbers with up to three digits behind a point, in thousandths; 999999.999 at most, courses below 360, a variation below 180.
use Rattle.std.specs.Prelude.{◌*◌, ◌+◌, ◌-◌, ◌^◌, ℕ, cond, false, true, [], ◌∷◌, List, eqb, ltb, ℤ, drop, length, take}
use Rattle.std.specs.Prelude.{None, Option, option_map, Some}
use Rattle.digits.specs.Bind.{bind}
use Rattle.digits.specs.Decimal.{digits_of, find_in}
use Rattle.digits.specs.Sign.{signed}
use Rattle.form.specs.Got.{maybe_int_of, maybe_of}
use Rattle.form.specs.declared.got.Got.{Got}
use Rattle.form.specs.declared.got.GotInt.{GotInt}

-- 999999.999, 360 and 180, in thousandths.
abbrev pub number_most : ℕ
number_most = 999999999

abbrev pub full_circle : ℕ
full_circle = 360000

abbrev pub half_circle : ℕ
half_circle = 180000

-- What stands before the first point, and behind it.
unfoldable pub before : List ℕ → List ℕ
before f = take (find_in 46 f) f

unfoldable pub behind : List ℕ → List ℕ
behind f = drop (find_in 46 f + 1) f

-- One to three digits behind a point.
unfoldable pub thousandths : List ℕ → Option ℕ
thousandths t = option_map (λ m. m * 10 ^ (3 - length t)) (digits_of 1 3 t)

-- One to six digits; with a point, one to three more behind it.
unfoldable pub number_of : List ℕ → Option ℕ
number_of f =
    bind (digits_of 1 6 (before f)) λ n.
    cond (ltb (find_in 46 f) (length f)) (option_map (λ m. n * 1000 + m) (thousandths (behind f))) (Some (n * 1000))

-- A number that is less than a limit.
unfoldable pub below_of : ℕ → List ℕ → Option ℕ
below_of limit f = bind (number_of f) λ v. cond (ltb v limit) (Some v) None

-- A number, or a minus and a number: minus zero is zero.
unfoldable pub height_of : List ℕ → Option ℤ
height_of [] = None
height_of (b ∷ f) = cond (eqb b 45) (option_map (signed true) (number_of f)) (option_map (signed false) (number_of (b ∷ f)))

-- A number; below a limit; with a minus allowed. Each may be empty.
abbrev pub number_form : List ℕ → Got
number_form f = maybe_of f (number_of f)

abbrev pub below_form : ℕ → List ℕ → Got
below_form limit f = maybe_of f (below_of limit f)

abbrev pub height_form : List ℕ → GotInt
height_form f = maybe_int_of f (height_of f)
