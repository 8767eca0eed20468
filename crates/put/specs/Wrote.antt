-- Bytes put into a lent buffer, one after another, as far as there is room.
use Rattle.std.specs.Prelude.{suc, ℕ, [], ◌∷◌, List, ◌≡◌, ltb, length, set}
use Rattle.digits.specs.Pick.{pick}

-- A buffer and the place where the next byte goes.
pub record Held : Type 0 where
  pub place : ℕ
  pub bytes : List ℕ

abbrev pub held : ℕ → List ℕ → Held
held place bytes = record { place = place; bytes = bytes }

-- One byte; where there is no room, nothing changes.
unfoldable pub put_one : Held → ℕ → Held
put_one h b = pick (ltb h.place (length h.bytes)) (held (suc h.place) (set h.bytes h.place b)) h

unfoldable pub wrote : Held → List ℕ → Held
wrote h [] = h
wrote h (b ∷ s) = wrote (put_one h b) s

-- Fields, each behind its comma.
unfoldable pub wrote_fields : Held → List (List ℕ) → Held
wrote_fields h [] = h
wrote_fields h (f ∷ fs) = wrote_fields (wrote h (44 ∷ f)) fs

-- A buffer before and after a text was put into it, or some fields.
pub record Puts (before : Held) (text : List ℕ) (after : Held) : Type 0 where
  pub is : after ≡ wrote before text

pub record PutsFields (before : Held) (fields : List (List ℕ)) (after : Held) : Type 0 where
  pub is : after ≡ wrote_fields before fields
