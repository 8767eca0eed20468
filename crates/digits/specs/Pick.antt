-- One of two, by a test.
use Rattle.std.specs.Prelude.{Bool, false, true}

abbrev pub pick : {A : Type 0} → Bool → A → A → A
pick true a b = a
pick false a b = b
