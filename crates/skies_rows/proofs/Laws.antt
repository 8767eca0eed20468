-- The parts of the rows of a run, by the tests that lead to them; satellites put one after another; and a sky by the answer that it says.
use Prim.Native.Nat.{◌+◌, ◌-◌, ◌<◌, ◌≤◌, min, ℕ}
use mathlib.Core.Bool.{false, true}
use mathlib.Core.List.{◌++◌, List}
use mathlib.Core.Path.{◌∙◌, ◌≡◌, ap, refl, sym}
use native.Mathlib.Omega.{arith}
use native.Mathlib.Numerals.{add-one}
use lib.ListN.{drop, drop_of_length-le, get_or, length, length-append, length-replicate, replicate, take}
use lib.Seq.{drop-cons, take_at}
use borrow.Author.Tests.{eq-eqb, ne_eqb}
use Rattle.digits.specs.Ascii.{ascii}
use Rattle.address.specs.declared.Talker.{Talker}
use Rattle.address.specs.declared.Talker.TheVariants.{Gn}
use Rattle.form.specs.declared.Maybe.{Maybe}
use Rattle.kind_gsv.specs.Blank.{blank_entry}
use Rattle.kind_gsv.specs.declared.Entry.{Entry}
use Rattle.put.specs.Wrote.{Held, Puts, wrote}
use Rattle.put.proofs.Chain.{wrote-append}
use Rattle.sky.specs.declared.Sky.{Sky}
use Rattle.std.specs.Prelude.{None, Option, Some}
use Rattle.sky.specs.Group.{Answer, refused, whole}
use Rattle.sky.specs.Sky.{sky_of}
use Rattle.text.specs.Numbers.{decimal_text}
use Rattle.skies_rows.specs.Rows.{count_text, place_text, refused_text, run_text, satellites_text, satellite_text, sent_text, sky_text}
use Rattle.skies_rows.specs.Rows.{where_text}

pub the-place : (number offset : ℕ)
    → decimal_text number ++ (ascii ", offset " ++ (decimal_text offset ++ ascii ": ")) ≡ place_text number offset
unfolding place_text
the-place number offset = refl

pub the-where : (line field : ℕ)
    → ascii " at its line " ++ (decimal_text line ++ (ascii ", field " ++ (decimal_text field ++ ascii ": "))) ≡ where_text line field
unfolding where_text
the-where line field = refl

pub single : (n : ℕ) → n ≡ 1 → ascii ", " ++ (decimal_text n ++ ascii " satellite\n") ≡ count_text n
unfolding count_text
single n e = rw (eq-eqb n 1 e)

pub many : (n : ℕ) → (n ≡ 1 → ⊥) → ascii ", " ++ (decimal_text n ++ ascii " satellites\n") ≡ count_text n
unfolding count_text
many n e = rw (ne_eqb n 1 e)

pub sent : (v : Maybe) → v.there ≡ true → ascii " " ++ decimal_text v.value ≡ sent_text v
unfolding sent_text
sent v e = rw e

pub not-sent : (v : Maybe) → v.there ≡ false → ascii " " ++ ascii "-" ≡ sent_text v
unfolding sent_text
not-sent v e = rw e

-- Satellites put one after another: those from place i on are one and the ones behind it.
module _ (l : List Entry) (i : ℕ) where
  pub rows_next : {h k : Held} → i < length l → Puts h (satellite_text (get_or l i blank_entry)) k
      → wrote k (satellites_text (drop (i + 1) l)) ≡ wrote h (satellites_text (drop i l))
  unfolding satellites_text
  rows_next {h} {k} b p =
      rw (p.is, drop-cons l i blank_entry b, add-one i, wrote-append h (satellite_text (get_or l i blank_entry)) _)

  pub rows_end : (h : Held) → length l ≤ i → h ≡ wrote h (satellites_text (drop i l))
  unfolding satellites_text wrote
  rows_end h b = rw (drop_of_length-le l {i = i} b)

-- What a whole sky and nobody's differ in.
abbrev count : Option Talker → ℕ
count None = 0
count (Some t) = 1

abbrev who : Option Talker → Talker
who None = Gn
who (Some t) = t

module _ (number offset : ℕ) (s : Sky) where
  pub nobody : (a : Answer) → s ≡ sky_of a → s.talker ≡ None
      → ascii "no sky at line " ++ (place_text number offset ++ refused_text s.no s.line s.field) ≡ run_text number offset a
  nobody (whole t es) e h =
      let z : ◌≡◌ {A = ℕ} 1 0 = ap count (sym (ap (λ (s : Sky). s.talker) e) ∙ h) in
      let w : ⊥ = omega (arith, z) in
      absurd w
  nobody (refused n k f) e h =
      ap (λ (s : Sky). ascii "no sky at line " ++ (place_text number offset ++ refused_text s.no s.line s.field)) e

  abbrev shown : Talker → Sky → List ℕ
  shown t s = ascii "sky at line " ++ (place_text number offset
      ++ sky_text t s.table.count (take (min 36 s.table.count) s.table.entries))

  pub somebody : (a : Answer) (t : Talker) → s ≡ sky_of a → s.talker ≡ Some t → length s.table.entries ≡ 36
      → shown t s ≡ run_text number offset a
  somebody (refused n k f) t e h full =
      let z : ◌≡◌ {A = ℕ} 0 1 = ap count (sym (ap (λ (s : Sky). s.talker) e) ∙ h) in
      let w : ⊥ = omega (arith, z) in
      absurd w
  somebody (whole u es) t e h full =
      let same : t ≡ u = ap who (sym h ∙ ap (λ (s : Sky). s.talker) e) in
      let rest : List Entry = replicate (36 - length es) blank_entry in
      let long : length (es ++ rest) ≡ 36 = sym (ap (λ (s : Sky). length s.table.entries) e) ∙ full in
      let few : min 36 (length es) ≡ length es =
      omega (arith, long, length-append es rest, length-replicate (36 - length es) blank_entry) in
      ap (λ (t : Talker). shown t s) same ∙ ap (shown u) e
      ∙ ap (λ (l : List Entry). ascii "sky at line " ++ (place_text number offset ++ sky_text u (length es) l))
      (ap (λ (n : ℕ). take n (es ++ rest)) few ∙ take_at es rest (length es) refl)
