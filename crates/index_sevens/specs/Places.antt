-- A number taken out of n bytes, by the place behind it.
use Rattle.std.specs.Prelude.{◌-◌, ℕ, length}
use Rattle.index_sevens.specs.Sevens as S
use Rattle.index_sevens.specs.declared.Taken.{Taken}
use Rattle.index_sevens.specs.declared.Taken.TheVariants as T

abbrev pub taken_at : ℕ → S.Took → Taken
taken_at n (S.value v rest) = T.Value v (n - length rest)
taken_at n S.short = T.Short
taken_at n S.bad = T.Bad
