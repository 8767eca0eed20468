-- Two digits in a field.
use Rattle.std.specs.Prelude.{ℕ, List, drop, take}
use Rattle.std.specs.Prelude.{Option}
use Rattle.digits.specs.Decimal.{digits_of}

-- The value of the two digits that stand in f from place k.
unfoldable pub pair_at : ℕ → List ℕ → Option ℕ
pair_at k f = digits_of 2 2 (take 2 (drop k f))
