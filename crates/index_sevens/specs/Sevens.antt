-- Numbers in groups of seven bits: the low group first, the high bit set when another group follows, in the shortest form only; 300 is
-- hex AC 02. At most 4294967295, for which five groups are enough.
use Rattle.std.specs.Prelude.{◌%◌, ◌*◌, ◌+◌, ◌-◌, ◌/◌, suc, zero, ℕ, cond, [], ◌∷◌, List, eqb, leb, ltb}
use Rattle.digits.specs.Pick.{pick}

abbrev pub most : ℕ
most = 4294967295

-- A number in at most w groups.
unfoldable pub groups : ℕ → ℕ → List ℕ
groups zero v = []
groups (suc w) v = cond (ltb v 128) (v ∷ []) ((128 + v % 128) ∷ groups w (v / 128))

unfoldable pub sevens : ℕ → List ℕ
sevens v = groups 5 v

-- What bytes begin with: a number, with the bytes behind it; a number whose bytes end too soon; or no number.
pub data Took : Type 0 where
  value : ℕ → List ℕ → Took
  short : Took
  bad : Took

-- A low group before what stands behind it: a higher part of zero is not the shortest form.
abbrev pub onto : ℕ → Took → Took
onto low (value v rest) = pick (eqb v 0) bad (value (low + 128 * v) rest)
onto low short = short
onto low bad = bad

-- A number of at most w groups. A byte is below 256.
unfoldable pub take_groups : ℕ → List ℕ → Took
take_groups zero s = bad
take_groups (suc w) [] = short
take_groups (suc w) (b ∷ s) = pick (ltb b 128) (value b s) (pick (ltb b 256) (onto (b - 128) (take_groups w s)) bad)

abbrev pub within : Took → Took
within (value v rest) = pick (leb v most) (value v rest) bad
within short = short
within bad = bad

unfoldable pub take_sevens : List ℕ → Took
take_sevens s = within (take_groups 5 s)
