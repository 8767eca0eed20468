-- What was read as a group can be written, and is written as the same bytes. Go through the lines: each that was taken adds its used
-- entries, in range and with numbers that were not there, and as many as line k must have. So at the end all entries are there, line k
-- holds the entries that stand at its place among them, and it is the line that the writer makes of these.
use Prim.Native.Nat.{◌*◌, ◌+◌, ◌-◌, ◌≤◌, ℕ}
use mathlib.Core.Bool.{Bool, false, true}
use mathlib.Core.List.{[], ◌++◌, ◌∷◌, append_assoc, append-nil, List}
use mathlib.Core.Option.{none}
use mathlib.Core.Path.{◌∙◌, ◌≡◌, ap, ap₂, refl, subst, sym}
use native.Mathlib.Omega.{arith}
use lib.Dec.{eqb, lit≤}
use lib.ListN.{drop, length, length-append}
use lib.Seq.{drop_at, length-take-le}
use borrow.Author.Tests.{eqb-true}
use Rattle.digits.specs.Pick.{pick}
use Rattle.line.specs.Line.{as_line}
use Rattle.lines.specs.Cut.{cut_lines, joined}
use Rattle.lines.specs.Reader.{read_from, read_lines}
use Rattle.lines.proofs.CutLaws.{cut-joined}
use Rattle.address.specs.declared.Talker.{Talker}
use Rattle.kind_gsv.specs.declared.Entry.{Entry}
use Rattle.kind_gsv.specs.declared.Gsv.{Gsv}
use Rattle.kind_gsv.specs.Writing.{gsv_body}
use Rattle.kind_gsv.proofs.GoodLaws.{Good}
use Rattle.sentence_laws.proofs.GsvSame as GsvSame
use Rattle.sky.specs.Group.{ended, entries_at, group_of, lines_for, refused, repeats, used_of, whole}
use Rattle.sky.specs.Sky.{table_of}
use Rattle.sky.specs.Table.{group_text, line_at, lines_from, table_fault}
use Rattle.sky.proofs.Numbers.{entries-at, few-satellites, room, starts}
use Rattle.sky_laws.proofs.InRange.{EachGood, good-append, InRange, once-append, table-good}
use Rattle.sky_laws.proofs.LineGood.{at-most-nine, filled, filled_more, line-is, used-good, used-places}
use Rattle.sky_laws.proofs.Numbers.{so-many}
use Rattle.sky_laws.proofs.Took.{answer_from, first-line, Line, next-line, no_whole, seen_so}

-- What holds of the entries that were seen before line k of n satellites: the first four times k - 1, or all.
record Held (n k : ℕ) (before : List Entry) : Type 0 where
  pub from : 1 ≤ k
  pub few : n ≤ 36
  pub many : length before ≡ n - (n - 4 * (k - 1))
  pub each : EachGood before
  pub once : repeats [] before ≡ false

-- What holds of the lines from k on, at the end: more entries follow, all are in range, and the lines are those that the writer makes.
record Ends (t : Talker) (es : List Entry) (n k : ℕ) (before : List Entry) (ls : List (List ℕ)) : Type 0 where
  pub more : List Entry
  pub all : es ≡ before ++ more
  pub many : length es ≡ n
  pub in-range : InRange es
  pub last : k + length ls ≡ lines_for n + 1
  pub lines : lines_from t (table_of es) k (length ls) ≡ ls

same-record : (v : Gsv) (a b c d : ℕ) (l : List Entry) → v.lines ≡ a → v.line ≡ b → v.satellites ≡ c → v.count ≡ d → v.entries ≡ l
    → record { lines = a; line = b; satellites = c; count = d; entries = l } ≡ v
same-record v a b c d l p q r s u = rw (← p, ← q, ← r, ← s, ← u)

module _ (t : Talker) (n k : ℕ) (before : List Entry) (h : Held n k before) (l : List ℕ) (line : Line t n k before l) where
  abbrev v : Gsv
  v = line.gsv

  good : (length v.entries ≡ 4) × Good v
  good = GsvSame.gsv-good l t v line.reads

  added : length (used_of v) ≡ entries_at n k
  added = length-take-le v.count v.entries (omega (arith, good.0, good.1.few)) ∙ line.count

  -- All places before line k are taken.
  full : length before ≡ 4 * (k - 1)
  full = omega (arith, h.many, starts n k h.from line.no-later)

  held_next : Held n (k + 1) (before ++ used_of v)
  held_next =
      record {
        from = omega arith;
        few = h.few;
        many = length-append before (used_of v) ∙ ap₂ (λ (a b : ℕ). a + b) full added
            ∙ so-many n k h.from (starts n k h.from line.no-later);
        each = good-append before (used_of v) h.each (used-good v good.0 good.1);
        once = once-append [] before (used_of v) h.once line.fresh;
      }

  module _ (es : List Entry) (ls : List (List ℕ)) (e : Ends t es n (k + 1) (before ++ used_of v) ls) where
    parts : es ≡ before ++ (used_of v ++ e.more)
    parts = e.all ∙ append_assoc before (used_of v) e.more

    none_more : length (used_of v) + 1 ≤ 4 → length e.more ≡ 0
    none_more short =
        let a = sym e.many ∙ ap length parts ∙ length-append before (used_of v ++ e.more) in
        let b = length-append (used_of v) e.more in
        omega (arith, a, b, full, added, entries-at n k, short)

    places : v.entries ≡ filled 4 (drop (4 * (k - 1)) es)
    places =
        used-places v good.0 good.1
        ∙ sym (filled_more 4 (used_of v) e.more none_more)
        ∙ ap (filled 4) (sym (drop_at before (used_of v ++ e.more) (4 * (k - 1)) full))
        ∙ ap (λ (x : List Entry). filled 4 (drop (4 * (k - 1)) x)) (sym parts)

    line_same : line_at (table_of es) k ≡ v
    line_same =
        line-is es e.in-range.few k h.from (subst (λ (m : ℕ). k ≤ lines_for m) (sym e.many) line.no-later)
        ∙ same-record v (lines_for (length es)) k (length es) (entries_at (length es) k) (filled 4 (drop (4 * (k - 1)) es))
        (line.lines ∙ ap lines_for (sym e.many)) line.line (line.satellites ∙ sym e.many)
        (line.count ∙ ap (λ (m : ℕ). entries_at m k) (sym e.many)) places

    ends_with : Ends t es n k before (l ∷ ls)
    ends_with =
        record {
          more = used_of v ++ e.more;
          all = parts;
          many = e.many;
          in-range = e.in-range;
          last = omega (arith, e.last);
          lines = ap₂ (λ (x : List ℕ) (y : List (List ℕ)). x ∷ y) (ap (λ (r : Gsv). as_line (gsv_body t r)) line_same
              ∙ GsvSame.same_bytes l t v line.reads) e.lines;
        }

-- The lines behind line 1.
module _ (t : Talker) (es : List Entry) (u : Talker) (n : ℕ) where
  over : (k : ℕ) (before : List Entry) → ended (seen_so u n before) k ≡ whole t es → (lines_for n + 1 ≡ k) × (u ≡ t) × (before ≡ es)
  unfolding ended
  over k before = go (eqb (lines_for n + 1) k) refl
    where
      go : (b : Bool) → eqb (lines_for n + 1) k ≡ b → pick b (whole u before) (refused 6 k 0) ≡ whole t es → (lines_for n + 1 ≡ k)
          × (u ≡ t) × (before ≡ es)
      go true q i = (eqb-true (lines_for n + 1) k q, cc, cc)
      go false q i = absurd (no_whole 6 k 0 t es i)

  at-end : (k : ℕ) (before : List Entry) → Held n k before → lines_for n + 1 ≡ k → before ≡ es → Ends u es n k before []
  at-end k before h p q =
      record {
        more = [];
        all = sym q ∙ sym (append-nil before);
        many = sym (ap length q) ∙ many;
        in-range = subst InRange q (record { few = omega (arith, many, h.few); each = h.each; once = h.once });
        last = omega (arith, p);
        lines = refl;
      }
    where
      many : length before ≡ n
      many = omega (arith, h.many, room n, p)

  walk : (ls : List (List ℕ)) (k : ℕ) (before : List Entry) → Held n k before → answer_from (seen_so u n before) k ls ≡ whole t es
      → (u ≡ t) × Ends u es n k before ls
  unfolding read_from
  walk [] k before h e = let x = over k before e in (x.1, at-end k before h x.0 x.2)
  walk (l ∷ ls) k before h e =
      let x = next-line t es l ls u n k before e in
      let y = walk ls (k + 1) (before ++ used_of x.taken.gsv) (held_next u n k before h l x.taken) x.rest in
      (y.0, ends_with u n k before h l x.taken es ls y.1)

-- Before line 1 nothing was seen, and it announces at most nine lines.
held_none : (t : Talker) (n : ℕ) (l : List ℕ) → Line t n 1 [] l → Held n 1 []
unfolding repeats
held_none t n l line =
    let g = GsvSame.gsv-good l t line.gsv line.reads in
    let nine = at-most-nine line.gsv g.0 g.1 in
    record {
      from = lit≤ tt;
      few = few-satellites n (subst (λ (m : ℕ). m ≤ 9) line.lines nine);
      many = omega arith;
      each = tt;
      once = refl;
    }

-- All lines of a whole group.
module _ (t : Talker) (es : List Entry) where
  all_lines : (ls : List (List ℕ)) → answer_from none 1 ls ≡ whole t es → InRange es
      × (lines_from t (table_of es) 1 (lines_for (length es)) ≡ ls)
  unfolding read_from ended
  all_lines [] e = absurd (no_whole 6 1 0 t es e)
  all_lines (l ∷ ls) e =
      let x = first-line t es l ls e in
      let u = x.0 in let n = x.1 in let line = x.2.taken in
      let h = held_none u n l line in
      let y = walk t es u n ls 2 (used_of line.gsv) (held_next u n 1 [] h l line) x.2.rest in
      let z = ends_with u n 1 [] h l line es ls y.1 in
      let m : lines_for (length es) ≡ length (l ∷ ls) = ap lines_for z.many ∙ omega (arith, z.last) in (
        z.in-range,
        ap (lines_from t (table_of es) 1) m ∙ ap (λ (w : Talker). lines_from w (table_of es) 1 (length (l ∷ ls))) (sym y.0) ∙ z.lines,
      )

-- What a whole answer says: the entries are in range, and the lines are those that the writer makes of them.
pub told : (g : List ℕ) (t : Talker) (es : List Entry) → group_of g ≡ whole t es → InRange es
    × (lines_from t (table_of es) 1 (lines_for (length es)) ≡ cut_lines g)
unfolding group_of read_lines
told g t es e = all_lines t es (cut_lines g) e

-- What was read can be written.
pub write_read : (g : List ℕ) (t : Talker) (es : List Entry) → group_of g ≡ whole t es → (length es ≤ 36) × ((table_fault (table_of es)).no ≡ 0)
write_read g t es e = let x = (told g t es e).0 in (x.few, table-good es x)

-- A group that was read is written back as the same bytes.
pub same_bytes : (g : List ℕ) (t : Talker) (es : List Entry) → group_of g ≡ whole t es → group_text t (table_of es) ≡ g
unfolding group_text
same_bytes g t es e = ap joined (told g t es e).1 ∙ cut-joined g
