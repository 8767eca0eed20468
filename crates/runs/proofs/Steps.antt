-- What a line of another kind says: nothing.
use mathlib.Core.Path.{◌≡◌, refl}
use Rattle.sentence.specs.Numbers.{kind_of}
use Rattle.sentence.specs.Sentence as S
use Rattle.sentence.specs.Sentence.{Sentence}
use Rattle.std.specs.Prelude.{None}
use Rattle.runs.specs.Runs.{says_of}

pub says_other : (s : Sentence) → (kind_of s ≡ 4 → ⊥) → None ≡ says_of s
says_other (S.Refused n f) b = refl
says_other (S.Gsv t r) b = absurd (b refl)
says_other (S.Gga t r) b = refl
says_other (S.Gll t r) b = refl
says_other (S.Gsa t r) b = refl
says_other (S.Rmc t r) b = refl
says_other (S.Vtg t r) b = refl
says_other (S.Zda t r) b = refl
says_other (S.Pr r) b = refl
says_other (S.Tr r) b = refl
says_other (S.Sr r) b = refl
says_other S.Er b = refl
says_other (S.Pa r) b = refl
says_other (S.Ta r) b = refl
says_other (S.Sa r) b = refl
says_other (S.Ea r) b = refl
