-- A table in range is read back from what was written. Its lines are cut as they were, since each ends with its only LF; and they are read
-- one after another: before line k the reader has seen the first four times k - 1 entries, line k is read as the record that was written,
-- is in its place and repeats no number, and behind it four more entries are seen, or all that are left.
use Prim.Native.Nat.{◌*◌, ◌+◌, ◌-◌, ◌≤◌, suc, zero, ℕ}
use mathlib.Core.Bool.{Bool, false, true}
use mathlib.Core.List.{[], ◌++◌, ◌∷◌, List}
use mathlib.Core.Option.{none, Option, some}
use mathlib.Core.Path.{◌∙◌, ◌≡◌, ap, refl, sym}
use native.Mathlib.Omega.{arith}
use lib.Dec.{eqb, lit≤}
use lib.ListN.{drop, length, take, take-append-drop}
use lib.Seq.{take-add, take_all}
use borrow.Author.Tests.{eq-eqb, eqb-false, eqb-true, le-leb}
use Rattle.line.specs.Line.{as_line, line_refusal}
use Rattle.lines.specs.Cut.{cut_lines, joined}
use Rattle.lines.specs.Reader.{next, read_from, read_lines}
use Rattle.lines.proofs.CutBack.{cut-back, Ending, Endings, passes-ending}
use Rattle.address.specs.declared.Talker.{Talker}
use Rattle.kind_gsv.specs.declared.Entry.{Entry}
use Rattle.kind_gsv.specs.declared.Gsv.{Gsv}
use Rattle.kind_gsv.specs.Writing.{gsv_body}
use Rattle.sentence.specs.Lines.{read_line}
use Rattle.sentence.specs.Sentence as S
use Rattle.sentence.proofs.OnlyGsv.{no-gsv}
use Rattle.sentence.proofs.Order as Order
use Rattle.sentence_laws.proofs.Gsv as TGsv
use Rattle.sky.specs.Group.{ended, entries_at, entries_of, follows, group_of, gsv_rule, in_place, lines_for, repeats, rule, ruled, same_talker}
use Rattle.sky.specs.Group.{Seen, talker_no, used_of, whole}
use Rattle.sky.specs.Sky.{table_of}
use Rattle.sky.specs.Table.{group_text, line_at, lines_from, table_fault}
use Rattle.sky.specs.declared.Table.{Table}
use Rattle.sky.proofs.Numbers.{room, some-line}
use Rattle.sky_laws.proofs.InRange.{InRange, of-used, once-behind, once-front, used-in-range}
use Rattle.sky_laws.proofs.LineGood.{filled-many, line-good, line-is, line-used, the_line}
use Rattle.sky_laws.proofs.Took.{answer_from, read-on}

-- A line that reads as a GSV sentence passed the line rule.
pub gsv-passes : (l : List ℕ) (t : Talker) (v : Gsv) → read_line l ≡ S.Gsv t v → line_refusal l ≡ 0
gsv-passes l t v e = go (eqb (line_refusal l) 0) refl
  where
    go : (b : Bool) → eqb (line_refusal l) 0 ≡ b → line_refusal l ≡ 0
    go true q = eqb-true (line_refusal l) 0 q
    go false q = no-gsv (line_refusal l) 0 t v (sym (Order.refused l (eqb-false (line_refusal l) 0 q)) ∙ e)

same-talker : (t : Talker) → same_talker t t ≡ true
unfolding same_talker
same-talker t = eq-eqb (talker_no t) (talker_no t) refl

module _ (t : Talker) (es : List Entry) (s : InRange es) where
  abbrev last : ℕ
  last = lines_for (length es)

  -- The entries before line k, and what was seen then.
  abbrev up_to : ℕ → List Entry
  up_to k = take (4 * (k - 1)) es

  abbrev seen_before : ℕ → Seen
  seen_before k = record { talker = t; lines = last; satellites = length es; entries = up_to k }

  -- Line k as it is written, and so many lines from k on.
  abbrev written : ℕ → List ℕ
  written k = as_line (gsv_body t (line_at (table_of es) k))

  abbrev lines_on : ℕ → ℕ → List (List ℕ)
  lines_on k m = lines_from t (table_of es) k m

  module _ (k : ℕ) (from : 1 ≤ k) (to : k ≤ last) where
    abbrev line : Gsv
    line = the_line es k

    abbrev left : List Entry
    left = drop (4 * (k - 1)) es

    reads : read_line (written k) ≡ S.Gsv t line
    reads =
        ap (λ (r : Gsv). read_line (as_line (gsv_body t r))) (line-is es s.few k from to)
        ∙ TGsv.read-write t line (filled-many 4 left) (line-good es s.few k from to s.each)

    uses : used_of line ≡ take 4 left
    uses = line-used es s.few k from to

    in_place_lem : in_place k line ≡ true
    unfolding in_place
    in_place_lem = rw (eq-eqb k k refl, le-leb k last to, eq-eqb (entries_at (length es) k) _ refl)

    -- Four entries more, or those that are left, and no number among them that was there.
    more : up_to k ++ used_of line ≡ up_to (k + 1)
    more =
        let n : 4 * (k - 1) + 4 ≡ 4 * (k + 1 - 1) = omega arith in
        ap (λ (l : List Entry). up_to k ++ l) uses ∙ sym (take-add (4 * (k - 1)) 4 es) ∙ ap (λ (m : ℕ). take m es) n

    fresh : repeats (up_to k) (used_of line) ≡ false
    fresh =
        let a : repeats [] (up_to k ++ left) ≡ false = ap (repeats []) (take-append-drop (4 * (k - 1)) es) ∙ s.once in
        let b : repeats (up_to k) (take 4 left ++ drop 4 left) ≡ false = ap (repeats (up_to k)) (take-append-drop 4 left)
        ∙ once-behind [] (up_to k) left a in
        ap (repeats (up_to k)) uses ∙ once-front (up_to k) (take 4 left) (drop 4 left) b

    -- So a reader that is before line k takes it.
    taken : (q : Option Seen) → entries_of q ≡ up_to k → follows q k t line ≡ true → rule q k (written k) ≡ next (some (seen_before (k + 1)))
    unfolding rule gsv_rule
    taken q p f =
        let g : repeats (entries_of q) (used_of line) ≡ false = ap (λ (l : List Entry). repeats l (used_of line)) p ∙ fresh in
        let a : entries_of q ++ used_of line ≡ up_to (k + 1) = ap (λ (l : List Entry). l ++ used_of line) p ∙ more in
        ap (ruled q k) reads
        ∙ rw (f, g) (ap (λ (l : List Entry). next (some (record { talker = t; lines = last; satellites = length es; entries = l }))) a)

    ends : Ending (written k)
    ends = passes-ending (written k) (gsv-passes (written k) t line reads)

  -- Line 1 is the first, and a later one repeats what line 1 said.
  first : follows none 1 t (the_line es 1) ≡ true
  unfolding follows
  first = rw (eq-eqb last last refl) (in_place_lem 1 (lit≤ tt) (some-line (length es)))

  later : (k : ℕ) → 1 ≤ k → k ≤ last → follows (some (seen_before k)) k t (the_line es k) ≡ true
  unfolding follows
  later k from to = rw (same-talker t, eq-eqb last last refl, eq-eqb (length es) (length es) refl) (in_place_lem k from to)

  -- Behind the last line all entries were seen.
  over : (k : ℕ) → k ≡ last + 1 → ended (some (seen_before k)) k ≡ whole t es
  unfolding ended
  over k e = rw (eq-eqb (last + 1) k (sym e)) (ap (whole t) (take_all (4 * (k - 1)) es (omega (arith, room (length es), e))))

  run : (m k : ℕ) → 1 ≤ k → k + m ≡ last + 1 → answer_from (some (seen_before k)) k (lines_on k m) ≡ whole t es
  unfolding read_from
  run zero k from e = over k (omega arith)
  run (suc m) k from e =
      let q = some (seen_before k) in
      let to : k ≤ last = omega arith in
      read-on q k (written k) (lines_on (k + 1) m) (seen_before (k + 1)) (taken k from to q refl (later k from to))
      ∙ run m (k + 1) (omega arith) (omega arith)

  all_end : (m k : ℕ) → 1 ≤ k → k + m ≤ last + 1 → Endings (lines_on k m)
  all_end zero k from to = tt
  all_end (suc m) k from to = (ends k from (omega arith), all_end m (k + 1) (omega arith) (omega arith))

  -- There is a first line, and the others are behind it.
  one-first : lines_on 1 last ≡ written 1 ∷ lines_on 2 (last - 1)
  one-first = let n : last ≡ suc (last - 1) = omega (arith, some-line (length es)) in ap (lines_on 1) n

  -- What is written of the entries is cut as the lines that were written, and read back as the entries.
  pub lines_cut : cut_lines (group_text t (table_of es)) ≡ lines_on 1 last
  unfolding group_text
  lines_cut =
      let p = some-line (length es) in
      ap (λ (ls : List (List ℕ)). cut_lines (joined ls)) one-first
      ∙ cut-back (written 1) (lines_on 2 (last - 1)) (ends 1 (lit≤ tt) p, all_end (last - 1) 2 (lit≤ tt) (omega (arith, p)))
      ∙ sym one-first

  pub list_back : group_of (group_text t (table_of es)) ≡ whole t es
  unfolding group_of read_lines
  list_back =
      let p = some-line (length es) in
      ap (answer_from none 1) (lines_cut ∙ one-first)
      ∙ read-on none 1 (written 1) (lines_on 2 (last - 1)) (seen_before 2) (taken 1 (lit≤ tt) p none refl first)
      ∙ run (last - 1) 2 (lit≤ tt) (omega (arith, p))

-- A table in range is read back as the same table from what was written.
pub read-write : (t : Talker) (r : Table) → length r.entries ≡ 36 → (table_fault r).no ≡ 0
    → group_of (group_text t r) ≡ whole t (take r.count r.entries)
read-write t r places fault =
    ap (λ (x : Table). group_of (group_text t x)) (sym (of-used r places fault))
    ∙ list_back t (take r.count r.entries) (used-in-range r places fault)
