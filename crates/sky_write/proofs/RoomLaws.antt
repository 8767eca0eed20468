-- The bytes of a group are 18 for each line and those of its entries: a line has its own 18 and its entries', and the lines' entries in
-- order are the table's.
use Prim.Native.Nat.{◌*◌, ◌+◌, ◌-◌, ◌≤◌, suc, zero, ℕ}
use mathlib.Core.Bool.{Bool, cond, false, true}
use mathlib.Core.List.{[], ◌++◌, ◌∷◌, List}
use mathlib.Core.Path.{◌∙◌, ◌≡◌, ap, refl, sym}
use native.Mathlib.Omega.{arith}
use lib.Dec.{ltb}
use lib.ListN.{drop, drop_of_length-le, length, length-append, length-drop, length-take, take, take-append-drop}
use lib.Seq.{drop-drop, length-take-le}
use Rattle.digits.specs.Ascii.{ascii}
use Rattle.digits.specs.Decimal.{print_fixed}
use Rattle.digits.proofs.DecimalLaws.{length-fixed}
use Rattle.line.specs.Line.{as_line}
use Rattle.lines.specs.Cut.{joined}
use Rattle.address.specs.declared.Talker.{Talker}
use Rattle.frame.specs.Body.{talker_text}
use Rattle.frame.proofs.Sealing.{line-length}
use Rattle.form.specs.Kind.{fields_for}
use Rattle.form.specs.Values.{if_there}
use Rattle.form.proofs.CleanTexts.{joined_length, total, total-append}
use Rattle.form.proofs.Lists.{all-four}
use Rattle.kind_gsv.specs.Blank.{blank_entry}
use Rattle.kind_gsv.specs.declared.Entry.{Entry}
use Rattle.kind_gsv.specs.declared.Gsv.{Gsv}
use Rattle.kind_gsv.specs.Row.{gsv_row}
use Rattle.kind_gsv.specs.Writing.{entry_fields, entry_of, gsv_body, gsv_fields, used}
use Rattle.sentence_laws.proofs.Known.{address-five}
use Rattle.sky.specs.Group.{entries_at, lines_for}
use Rattle.sky.specs.Table.{group_text, line_at, lines_from}
use Rattle.sky.specs.declared.Table.{Table}
use Rattle.sky_write.specs.Size.{entry_size, sizes, table_size}
use Rattle.sky_write.proofs.Counts.{entries-are, lines_are, used-part}

text-length : (there : Bool) (w v : ℕ) → length (if_there there (print_fixed w v)) ≡ cond there w 0
text-length true w v = length-fixed w v
text-length false w v = refl

entry-total : (e : Entry) → total (entry_fields true e) ≡ entry_size e
unfolding entry_size
entry-total e =
    omega (
      arith,
      length-fixed 2 e.number,
      text-length e.elevation.there 2 e.elevation.value,
      text-length e.azimuth.there 3 e.azimuth.value,
      text-length e.signal.there 2 e.signal.value,
    )

abbrev used_total : Bool → Entry → ℕ
used_total u e = total (entry_fields u e)

-- The first c of four entries.
four-sizes : (a b d e : Entry) (c : ℕ) → c ≤ 4
    → used_total (ltb 0 c) a + (used_total (ltb 1 c) b + (used_total (ltb 2 c) d + used_total (ltb 3 c) e)) ≡ sizes
    (take c (a ∷ b ∷ d ∷ e ∷ []))
four-sizes a b d e zero h = refl
four-sizes a b d e (suc zero) h = omega (arith, entry-total a)
four-sizes a b d e (suc (suc zero)) h = omega (arith, entry-total a, entry-total b)
four-sizes a b d e (suc (suc (suc zero))) h = omega (arith, entry-total a, entry-total b, entry-total d)
four-sizes a b d e (suc (suc (suc (suc zero)))) h = omega (arith, entry-total a, entry-total b, entry-total d, entry-total e)
four-sizes a b d e (suc (suc (suc (suc (suc c))))) h = let z : ⊥ = omega arith in absurd z

-- A line of a record with up to four entries.
body-length : (t : Talker) (v : Gsv) → length v.entries ≡ 4 → v.count ≤ 4
    → length (gsv_body t v) ≡ 12 + sizes (take v.count v.entries)
unfolding gsv_fields fields_for gsv_row
body-length t v four few =
    let e0 = entry_fields (used v 0) (entry_of v 0) in
    let e1 = entry_fields (used v 1) (entry_of v 1) in
    let e2 = entry_fields (used v 2) (entry_of v 2) in
    let e3 = entry_fields (used v 3) (entry_of v 3) in
    let s = four-sizes (entry_of v 0) (entry_of v 1) (entry_of v 2) (entry_of v 3) v.count few
    ∙ ap (λ (l : List Entry). sizes (take v.count l)) (all-four blank_entry v.entries four) in
    omega (
      arith,
      joined_length (talker_text t ++ ascii "GSV") (gsv_fields v),
      address-five t (ascii "GSV") refl,
      length-fixed 1 v.lines,
      length-fixed 1 v.line,
      length-fixed 2 v.satellites,
      total-append e0 (e1 ++ (e2 ++ (e3 ++ []))),
      total-append e1 (e2 ++ (e3 ++ [])),
      total-append e2 (e3 ++ []),
      total-append e3 [],
      s,
    )

sizes-append : (l m : List Entry) → sizes (l ++ m) ≡ sizes l + sizes m
sizes-append [] m = omega arith
sizes-append (e ∷ l) m = omega (arith, sizes-append l m)

module _ (t : Talker) (r : Table) (long : length r.entries ≡ 36) where
  abbrev u : List Entry
  u = take r.count r.entries

  -- Line k.
  size-line : (k : ℕ) → k ≤ 9 → length (as_line (gsv_body t (line_at r k))) ≡ 18 + sizes (take 4 (drop (4 * (k - 1)) u))
  unfolding line_at
  size-line k h =
      let q = drop (4 * (k - 1)) r.entries in
      let f = length-take-le 4 q (omega (arith, length-drop (4 * (k - 1)) r.entries, long, h)) in
      let b : length (gsv_body t (line_at r k)) ≡ 12 + sizes (take (entries_at r.count k) (take 4 q)) = body-length t (line_at r k) f
      (entries-are r.count k).four in
      let s = ap sizes (used-part r.entries r.count (4 * (k - 1)) (entries_at r.count k) (entries-are r.count k)) in
      omega (arith, line-length (gsv_body t (line_at r k)), b, s)

  abbrev after : ℕ → ℕ
  after j = sizes (drop (4 * j) u)

  next-four : (j : ℕ) → after j ≡ sizes (take 4 (drop (4 * j) u)) + after (j + 1)
  next-four j =
      let e : 4 * j + 4 ≡ 4 * (j + 1) = omega arith in
      sym (ap sizes (take-append-drop 4 (drop (4 * j) u)))
      ∙ sizes-append (take 4 (drop (4 * j) u)) (drop 4 (drop (4 * j) u))
      ∙ ap (λ (l : List Entry). sizes (take 4 (drop (4 * j) u)) + sizes l) (drop-drop 4 (4 * j) u ∙ ap (λ (a : ℕ). drop a u) e)

  -- m lines, after the first j.
  some-lines : (m j : ℕ) → j + m ≤ 9 → length (joined (lines_from t r (j + 1) m)) + after (j + m) ≡ 18 * m + after j
  some-lines zero j h = let e : j + 0 ≡ j = omega arith in let s = ap after e in omega (arith, s)
  some-lines (suc m) j h =
      let e : j + 1 + m ≡ j + suc m = omega arith in
      let p : j + 1 - 1 ≡ j = omega arith in
      let i = some-lines m (j + 1) (omega arith) in
      let a = length-append (as_line (gsv_body t (line_at r (j + 1)))) (joined (lines_from t r (j + 1 + 1) m)) in
      let l = size-line (j + 1) (omega arith) ∙ ap (λ (b : ℕ). 18 + sizes (take 4 (drop (4 * b) u))) p in
      omega (arith, a, l, i, ap after e, next-four j)

  -- All lines.
  pub room-is : r.count ≤ 36 → length (group_text t r) ≡ table_size r
  unfolding group_text table_size
  room-is h =
      let m = lines_for r.count in
      let w = lines_are r.count in
      let none = drop_of_length-le u {i = 4 * (0 + m)} (omega (arith, length-take r.count r.entries, w.all)) in
      omega (arith, some-lines m 0 (omega (arith, w.nine h)), ap sizes none)
