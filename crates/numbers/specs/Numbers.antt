-- Numbers in a lent slice, one a value: how values that are no numbers are said by them, and what 32 bits hold of a number.
use Rattle.std.specs.Prelude.{ℕ, Bool, cond, false, ◌++◌, List, eqb, leb, nat_abs, negsuc, pos, ℤ, drop, length}
use Rattle.std.specs.Int.Signed.{lt_z}
use Rattle.digits.specs.Pick.{pick}
use Rattle.address.specs.declared.Talker.{Talker}
use Rattle.address.specs.declared.Talker.TheVariants as T

-- A mark is 1 where a value is there and 0 where it is missing; no other number is a mark.
abbrev pub mark_of : Bool → ℕ
mark_of b = cond b 1 0

unfoldable pub is_there : ℤ → Bool
is_there (pos n) = eqb n 1
is_there (negsuc n) = false

unfoldable pub is_mark : ℤ → Bool
is_mark (pos n) = leb n 1
is_mark (negsuc n) = false

-- A value without sign: 0 to 4294967295; any other number is held as the last of these, which is outside every range but that of the GPS
-- mask.
abbrev pub most : ℕ
most = 4294967295

unfoldable pub is_whole : ℤ → Bool
is_whole (pos n) = leb n most
is_whole (negsuc n) = false

unfoldable pub whole_of : ℤ → ℕ
whole_of z = pick (is_whole z) (nat_abs z) most

-- A value with a sign: -2147483648 to 2147483647; a number past an end is held as that end, which is outside every range.
abbrev pub low : ℤ
low = negsuc 2147483647

abbrev pub high : ℤ
high = pos 2147483647

unfoldable pub signed_of : ℤ → ℤ
signed_of z = pick (lt_z z low) low (pick (lt_z high z) high z)

-- All values at the start, where there is room for them; else nothing.
unfoldable pub laid : List ℤ → List ℤ → List ℤ
laid values out = pick (leb (length values) (length out)) (values ++ drop (length values) out) out

-- A talker's number, and the talker of a number.
abbrev pub talker_number : Talker → ℕ
talker_number T.Gp = 0
talker_number T.Gl = 1
talker_number T.Ga = 2
talker_number T.Gq = 3
talker_number T.Gn = 4

abbrev pub talker_of : ℕ → Talker
talker_of n = pick (eqb n 0) T.Gp (pick (eqb n 1) T.Gl (pick (eqb n 2) T.Ga (pick (eqb n 3) T.Gq T.Gn)))
