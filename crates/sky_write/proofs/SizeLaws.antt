-- The sizes of a table's entries as the loop meets them: one entry more in the sum is one less to come.
use Prim.Native.Nat.{◌+◌, ◌<◌, ◌≤◌, ℕ}
use mathlib.Core.Bool.{Bool, cond, false, true}
use mathlib.Core.List.{List}
use mathlib.Core.Path.{◌≡◌, ap}
use native.Mathlib.Numerals.{add-one}
use native.Mathlib.Omega.{arith}
use lib.ListN.{drop, drop_of_length-le, get_or, length}
use lib.Seq.{drop-cons}
use Rattle.kind_gsv.specs.declared.Entry.{Entry}
use Rattle.sky_write.specs.Size.{entry_size, sizes}

pub value-few : (there : Bool) (n : ℕ) → cond there n 0 ≤ n
value-few true n = omega arith
value-few false n = omega arith

pub entry-few : (e : Entry) → entry_size e ≤ 13
unfolding entry_size
entry-few e = omega (arith, value-few e.elevation.there 2, value-few e.azimuth.there 3, value-few e.signal.there 2)

pub sizes-next : (es : List Entry) (i : ℕ) → i < length es → (d : Entry)
    → sizes (drop i es) ≡ entry_size (get_or es i d) + sizes (drop (i + 1) es)
sizes-next es i h d = rw (drop-cons es i d h, add-one i)

pub sizes-end : (es : List Entry) (i : ℕ) → length es ≤ i → sizes (drop i es) ≡ 0
sizes-end es i h = ap sizes (drop_of_length-le es {i = i} h)
