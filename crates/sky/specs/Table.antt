-- A table written as a group. Refusals in order: a table of over 36 entries is 5 with line 0 and field 0; then, entry by entry, 5 with the
-- line and field where the value would stand and 7 with the line; then an unused place that is not blank is 5 with line 0 and field 0; then
-- 8 with line 0. A refusal leaves the output; on success the bytes past the written length stay.
use Rattle.std.specs.Prelude.{◌%◌, ◌*◌, ◌+◌, ◌-◌, ◌/◌, suc, zero, ℕ, ◌≡◌, [], ◌++◌, ◌∷◌, List, ◌&&◌, Bool, true, eqb, ltb, drop, length, take}
use Rattle.line.specs.Line.{as_line}
use Rattle.address.specs.declared.Talker.{Talker}
use Rattle.lines.specs.Cut.{joined}
use Rattle.kind_gsv.specs.declared.Entry.{Entry}
use Rattle.kind_gsv.specs.declared.Gsv.{Gsv}
use Rattle.form.specs.Wrong.{first_wrong}
use Rattle.frame.specs.declared.Written.{Written}
use Rattle.digits.specs.Pick.{pick}
use Rattle.frame.specs.Written.{refused, wrote}
use Rattle.kind_gsv.specs.Writing.{entry_afters, gsv_body}
use Rattle.kind_gsv.specs.Blank.{is_blank}
use Rattle.sky.specs.declared.Table.{Table}
use Rattle.sky.specs.Group.{entries_at, lines_for, numbered}

-- The first of two that is a refusal.
abbrev pub or_else : Written → Written → Written
or_else a b = pick (eqb a.no 0) b a

-- The first of an entry's four values that is outside its range, counted from 1, or 0.
unfoldable pub entry_wrong : Entry → ℕ
entry_wrong e = first_wrong (entry_afters true 0 e)

-- Entry i, counted from 0, stands in line i/4 + 1, after 3 fields and those of the entries before it on that line.
unfoldable pub entry_fault : ℕ → List Entry → Entry → Written
entry_fault i before e =
    pick (eqb (entry_wrong e) 0)
    (pick (numbered e.number before) (refused 7 (i / 4 + 1) 0) (wrote 0))
    (refused 5 (i / 4 + 1) (3 + 4 * (i % 4) + entry_wrong e))

-- Entry by entry, from the one in place i on.
unfoldable pub fault_from : ℕ → List Entry → List Entry → Written
fault_from i before [] = wrote 0
fault_from i before (e ∷ es) = or_else (entry_fault i before e) (fault_from (i + 1) (before ++ (e ∷ [])) es)

unfoldable pub all_blank : List Entry → Bool
all_blank [] = true
all_blank (e ∷ es) = is_blank e && all_blank es

unfoldable pub table_fault : Table → Written
table_fault r =
    pick (ltb 36 r.count) (refused 5 0 0)
    (or_else (fault_from 0 [] (take r.count r.entries))
    (pick (all_blank (drop r.count r.entries)) (wrote 0) (refused 5 0 0)))

-- Line k of a table, and the lines of it from k on, m of them.
unfoldable pub line_at : Table → ℕ → Gsv
line_at r k =
    record {
      lines = lines_for r.count;
      line = k;
      satellites = r.count;
      count = entries_at r.count k;
      entries = take 4 (drop (4 * (k - 1)) r.entries);
    }

abbrev pub lines_from : Talker → Table → ℕ → ℕ → List (List ℕ)
lines_from t r k zero = []
lines_from t r k (suc m) = as_line (gsv_body t (line_at r k)) ∷ lines_from t r (k + 1) m

-- The bytes of a group: all its lines.
unfoldable pub group_text : Talker → Table → List ℕ
group_text t r = joined (lines_from t r 1 (lines_for r.count))

-- What a group writer answers, in an output with so much room, and what it leaves.
unfoldable pub written_group : Talker → Table → ℕ → Written
written_group t r room =
    or_else (table_fault r) (pick (ltb room (length (group_text t r))) (refused 8 0 0) (wrote (length (group_text t r))))

unfoldable pub left_group : Talker → Table → List ℕ → List ℕ
left_group t r out =
    pick (eqb (written_group t r (length out)).no 0) (group_text t r ++ drop (length (group_text t r)) out) out

pub record WritesGroup (t : Talker) (r : Table) (out : List ℕ) (answer : Written) (left : List ℕ) : Type 0 where
  pub answers : answer ≡ written_group t r (length out)
  pub leaves : left ≡ left_group t r out
