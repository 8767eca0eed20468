-- What a line is to the receiver, by what was told of it and the numbers that were laid: its own refusal, one of the four commands, or 9.
use Prim.Native.Nat.{ℕ}
use mathlib.Core.Path.{◌≡◌, ap, refl, subst}
use mathlib.Core.List.{List}
use lib.IntN.{ℤ}
use lib.ListN.{length}
use Rattle.numbers.specs.declared.Told.{Told}
use Rattle.sentence.specs.Lines.{read_line}
use Rattle.sentence.specs.Numbers.{kind_of}
use Rattle.sentence.specs.Sentence as S
use Rattle.sentence.specs.Sentence.{Sentence}
use Rattle.sentence.specs.ToHost.{laid_for, told_for}
use Rattle.sentence_laws.proofs.Told.{line-kind, line_refused}
use Rattle.receiver.specs.declared.Settings.{Settings}
use Rattle.receiver.specs.Command.{refuses, sentence_outcome}

-- None of the commands' kinds, as a `match` leaves it.
abbrev pub NoCommand : ℕ → Type 0
NoCommand kind = (((Unit {0} × (kind ≡ 8 → ⊥)) × (kind ≡ 9 → ⊥)) × (kind ≡ 10 → ⊥)) × (kind ≡ 11 → ⊥)

-- A sentence that is no command is 9.
other-nine : (s : Settings) (arrival : ℕ) (x : Sentence) → (kind_of x ≡ 0 → ⊥) → NoCommand (kind_of x)
    → sentence_outcome s arrival x ≡ refuses 9 1 0
other-nine s arrival (S.Refused n f) some none = absurd (some refl)
other-nine s arrival (S.Pr r) some none = absurd (none.0.0.0.1 refl)
other-nine s arrival (S.Tr r) some none = absurd (none.0.0.1 refl)
other-nine s arrival (S.Sr r) some none = absurd (none.0.1 refl)
other-nine s arrival S.Er some none = absurd (none.1 refl)
other-nine s arrival (S.Gga t r) some none = refl
other-nine s arrival (S.Gll t r) some none = refl
other-nine s arrival (S.Gsa t r) some none = refl
other-nine s arrival (S.Gsv t r) some none = refl
other-nine s arrival (S.Rmc t r) some none = refl
other-nine s arrival (S.Vtg t r) some none = refl
other-nine s arrival (S.Zda t r) some none = refl
other-nine s arrival (S.Pa r) some none = refl
other-nine s arrival (S.Ta r) some none = refl
other-nine s arrival (S.Sa r) some none = refl
other-nine s arrival (S.Ea r) some none = refl

-- Of a line for which 33 numbers were lent, so that there is room for every record.
module _ (s : Settings) (arrival : ℕ) (l : List ℕ) (n : List ℤ) (full : length n ≡ 33) (t : Told) (left : List ℤ)
    (read : (t ≡ told_for (read_line l) n) × (left ≡ laid_for (read_line l) n)) where
  pub outcome-refused : (t.no ≡ 0 → ⊥) → sentence_outcome s arrival (read_line l) ≡ refuses t.no 1 t.field
  outcome-refused h = ap (sentence_outcome s arrival) (line_refused l n full t left read h)

  pub outcome-other : t.no ≡ 0 → NoCommand t.kind → sentence_outcome s arrival (read_line l) ≡ refuses 9 1 0
  outcome-other h none =
      let k = line-kind l n full t left read h in
      other-nine s arrival (read_line l) k.1 (subst NoCommand k.0 none)
