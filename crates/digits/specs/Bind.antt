-- What is worked out of a value that is there; nothing, where there is none.
use Rattle.std.specs.Prelude.{Option, option_and_then}

abbrev pub bind : {A B : Type 0} → Option A → (A → Option B) → Option B
bind o f = option_and_then f o
