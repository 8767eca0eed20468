-- Four entries stored behind those of the lines before: the table stays the entries, and blank places up to thirty-six.
use Prim.Native.Nat.{◌+◌, ◌-◌, ◌≤◌, suc, zero, ℕ}
use mathlib.Core.List.{◌++◌, ◌∷◌, append_assoc, List}
use mathlib.Core.Path.{◌∙◌, ◌≡◌, ap, sym}
use native.Mathlib.Nat.{suc-add, zero-add}
use native.Mathlib.Omega.{arith}
use lib.ListN.{drop, length, length-append, replicate, take}
use lib.Seq.{drop_at, drop-drop, length-take-le, take_at}
use Rattle.kind_gsv.specs.Blank.{blank_entry}
use Rattle.kind_gsv.specs.declared.Entry.{Entry}
use Rattle.kind_gsv.specs.declared.Gsv.{Gsv}
use Rattle.sky.specs.Group.{used_of}
use Rattle.sky_read.specs.Steps.{Sound}

replicate-add : {A : Type 0} (m n : ℕ) (x : A) → replicate m x ++ replicate n x ≡ replicate (m + n) x
replicate-add zero n x = ap (λ (k : ℕ). replicate k x) (sym (zero-add n))
replicate-add (suc m) n x = ap (λ (l : List _). x ∷ l) (replicate-add m n x) ∙ ap (λ (k : ℕ). replicate k x) (sym (suc-add m n))

-- Blank places up to thirty-six.
abbrev pub padded : List Entry → List Entry
padded es = es ++ replicate (36 - length es) blank_entry

module _ (v : Gsv) (sound : Sound v) (es : List Entry) (n : ℕ) (h : length es ≡ n) (room : n ≤ 32) where
  abbrev left : ℕ
  left = 32 - n

  pub used-length : length (used_of v) ≡ v.count
  used-length = length-take-le v.count v.entries (omega (arith, sound.few, sound.four))

  opened : padded es ≡ es ++ blank_entry ∷ blank_entry ∷ blank_entry ∷ blank_entry ∷ replicate left blank_entry
  opened = ap (λ (k : ℕ). es ++ replicate k blank_entry) four-more
    where
      four-more : 36 - length es ≡ suc (suc (suc (suc left)))
      four-more = omega (arith, h, room)

  closed : es ++ (v.entries ++ replicate left blank_entry) ≡ padded (es ++ used_of v)
  closed =
      ap (λ (l : List Entry). es ++ (l ++ replicate left blank_entry)) sound.rest
      ∙ ap (λ (l : List Entry). es ++ l) (append_assoc (used_of v) (replicate (4 - v.count) blank_entry) (replicate left blank_entry))
      ∙ ap (λ (l : List Entry). es ++ (used_of v ++ l)) (replicate-add (4 - v.count) left blank_entry)
      ∙ sym (append_assoc es (used_of v) (replicate (4 - v.count + left) blank_entry))
      ∙ ap (λ (k : ℕ). (es ++ used_of v) ++ replicate k blank_entry) count_left
    where
      count_left : 4 - v.count + left ≡ 36 - length (es ++ used_of v)
      count_left = omega (arith, h, room, sound.few, used-length, length-append es (used_of v))

  pub placed : (entries : List Entry) → entries ≡ padded es → take n entries ++ (v.entries ++ drop (n + 4) entries) ≡ padded (es ++ used_of v)
  placed entries e =
      ap (λ (l : List Entry). take n l ++ (v.entries ++ drop (n + 4) l)) (e ∙ opened)
      ∙ rw (take_at es (blank_entry ∷ blank_entry ∷ blank_entry ∷ blank_entry ∷ replicate left blank_entry) n h) (ap (λ (l : List Entry). es ++ (v.entries ++ l)) behind)
      ∙ closed
    where
      behind : drop (n + 4) (es ++ blank_entry ∷ blank_entry ∷ blank_entry ∷ blank_entry ∷ replicate left blank_entry)
          ≡ replicate left blank_entry
      behind = sym (drop-drop 4 n (es ++ blank_entry ∷ blank_entry ∷ blank_entry ∷ blank_entry ∷ replicate left blank_entry))
          ∙ ap (drop 4) (drop_at es (blank_entry ∷ blank_entry ∷ blank_entry ∷ blank_entry ∷ replicate left blank_entry) n h)
