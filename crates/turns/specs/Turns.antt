-- What the programs that read in turns do with their buffers.
use Rattle.std.specs.Prelude.{ℕ, ◌-◌, ◌<◌, ◌≤◌, ◌≡◌, List, ◌++◌, Bool, false, Option, Result, Ok, Err, length, take, drop}
use Rattle.std.specs.Io.KnownBytes as Known
use Rattle.turns.specs.declared.Came.{Came}
use Rattle.turns.specs.declared.Came.TheVariants.{Bytes, End, Full}

-- The bytes from place a up to place e; none where e is not past a, and no more than there are.
abbrev pub part : ℕ → ℕ → List ℕ → List ℕ
part a e buf = take (e - a) (drop a buf)

-- These bytes moved to the start of the buffer, how many they are, and the bytes behind them as they were.
pub record Keeps (a e : ℕ) (buf : List ℕ) (count : ℕ) (left : List ℕ) : Type 0 where
  pub many : count ≡ length (part a e buf)
  pub bytes : left ≡ part a e buf ++ drop count buf

-- What is not in the buffer is not written. Of a write within it to standard output or a file nothing is known but that it was tried.
pub record Flushes (out : List ℕ) (place : ℕ) (answer : Bool) : Type 0 where
  pub beyond : length out < place → answer ≡ false

-- What a read behind kept bytes can come to in a buffer of so many: more bytes than were kept and no more than it has room for, and
-- full exactly where it had no room.
abbrev pub Comes : {E : Type 0} → ℕ → ℕ → Result Came E → Type 0
Comes kept room (Ok (Bytes n)) = (kept < n) × (n ≤ room)
Comes kept room (Ok End) = kept < room
Comes kept room (Ok Full) = room ≤ kept
Comes kept room (Err e) = kept < room

-- What a read takes of a reader whose bytes are known: the bytes that came are its next, and stand behind those that were kept; nothing
-- is left of it at its end; and else nothing is taken of it.
abbrev pub Takes : {E : Type 0} → ℕ → Option (List ℕ) → Option (List ℕ) → List ℕ → Result Came E → Type 0
Takes kept before behind buf (Ok (Bytes n)) = Known.Consumes before behind (drop kept (take n buf))
Takes kept before behind buf (Ok End) = Known.IsAtEnd behind
Takes kept before behind buf (Ok Full) = Known.Keeps before behind
Takes kept before behind buf (Err e) = Known.Keeps before behind
