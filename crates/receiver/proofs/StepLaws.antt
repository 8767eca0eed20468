-- The order of the refusals, as the code meets them: 5 with line 0, then 10, then the line.
use Prim.Native.Nat.{◌<◌, ◌≤◌, ℕ}
use mathlib.Core.Path.{◌≡◌, refl}
use mathlib.Core.Bool.{Bool, true, false, ◌&&◌}
use mathlib.Core.List.{List}
use lib.Dec.{ltb}
use borrow.Author.Tests.{eq-eqb, le-ltb, lt-ltb, ne_eqb}
use Rattle.sentence.specs.Lines.{read_line}
use Rattle.receiver.specs.declared.Settings.{Settings}
use Rattle.receiver.specs.Settings.{port_of, settings_good}
use Rattle.receiver.specs.Command.{refuses, sentence_outcome, outcome_of}

and-false : (b : Bool) → (b && false) ≡ false
and-false true = refl
and-false false = refl

module _ (s : Settings) (arrival : ℕ) (line : List ℕ) where
  pub five-for-port : 2 ≤ arrival → outcome_of s arrival line ≡ refuses 5 0 0
  unfolding outcome_of
  five-for-port h = rw (le-ltb arrival 2 h)

  pub five-for-setting : settings_good s ≡ false → outcome_of s arrival line ≡ refuses 5 0 0
  unfolding outcome_of
  five-for-setting e = rw (e, and-false (ltb arrival 2))

  module _ (h : arrival < 2) (e : settings_good s ≡ true) where
    pub then-ten : ((port_of s arrival).protocol ≡ 4 → ⊥) → outcome_of s arrival line ≡ refuses 10 1 0
    unfolding outcome_of
    then-ten p = rw (lt-ltb arrival 2 h, e, ne_eqb (port_of s arrival).protocol 4 p)

    pub then-line : (port_of s arrival).protocol ≡ 4 → outcome_of s arrival line ≡ sentence_outcome s arrival (read_line line)
    unfolding outcome_of
    then-line p = rw (lt-ltb arrival 2 h, e, eq-eqb (port_of s arrival).protocol 4 p)
