-- Parts of texts and of signed values, the group writer's order of tests and the step: any two results that a contract permits are equal.
use Prim.Native.Nat.{◌%◌, ◌+◌, ◌-◌, ◌/◌, ℕ}
use lib.Dec.{ltb}
use lib.ListN.{length}
use mathlib.Core.Path.{◌∙◌, ◌≡◌, sym}
use mathlib.Core.Bool.{Bool}
use mathlib.Core.List.{[], ◌∷◌, List}
use lib.IntN.{nat_abs, ℤ}
use Rattle.digits.specs.Pairs.{pair_at}
use Rattle.digits.specs.Same.{same}
use Rattle.digits.specs.Sign.{signed}
use Rattle.form_number.specs.Number.{below_of}
use Rattle.receiver.specs.Command.{Does, outcome_of}
use Rattle.receiver.specs.declared.Done.{Done}
use Rattle.receiver.specs.declared.Settings.{Settings}
use Rattle.turns.specs.Turns.{part}
use Rattle.exhibits_walks.specs.declared.lines.Lines.{Lines}
use Rattle.claims.proofs.Commands.{one-command}
use Rattle.claims.proofs.Determined.{One, one}

-- digits
pub pair-at : (f : List ℕ) (k : ℕ) → One (pair_at k f)
pair-at f k = one

pub sign-held : (v : ℕ) (minus : Bool) → One (signed minus v)
sign-held v minus = one

-- forms
pub unit-only : (u : List ℕ) (b : ℕ) → One (same u (b ∷ []))
unit-only u b = one

pub number-less : (f : List ℕ) (limit : ℕ) → One (below_of limit f)
number-less f limit = one

-- A zone's hours and minutes, and the degrees and minutes of an angle.
pub split-hours : (z : ℤ) → One (nat_abs z / 60)
split-hours z = one

pub split-minutes : (z : ℤ) → One (nat_abs z % 60)
split-minutes z = one

pub split-degrees : (z : ℤ) → One (nat_abs z / 600000)
split-degrees z = one

pub split-arc : (z : ℤ) → One (nat_abs z % 600000)
split-arc z = one

-- receiver
pub step : (s : Settings) (arrival : ℕ) (line out : List ℕ) (a b : Done) (l m : List ℕ) → Does s (outcome_of s arrival line) out a l
    → Does s (outcome_of s arrival line) out b m → (a.written ≡ b.written) × ((a.settings ≡ b.settings) × (l ≡ m))
step s arrival line out = one-command s (outcome_of s arrival line) out

-- turns
pub is-full : (out : List ℕ) (place : ℕ) (room : ℕ) → One (ltb (length out - place) room)
is-full out place room = one

-- exhibits_walks
pub lines-line : {R : Type 0} (l : Lines R) (a b : List ℕ) → (length a + l.start ≡ l.at) × (a ≡ part l.start l.at l.buf)
    → (length b + l.start ≡ l.at) × (b ≡ part l.start l.at l.buf) → a ≡ b
lines-line l a b p q = p.1 ∙ sym q.1
