-- Point 3, of the group's own definition: its rule refuses a line that fails the line rule with that number at field 0, in every state, so
-- what holds of any reader of lines in order holds of it.
use Prim.Native.Nat.{ℕ}
use mathlib.Core.Path.{◌≡◌, sym, ◌∙◌, ap}
use mathlib.Core.List.{List}
use mathlib.Core.Bool.{Bool, true, false, true≢false}
use mathlib.Core.Option.{Option, none}
use Rattle.line.specs.Line.{line_refusal}
use Rattle.address.specs.declared.Talker.{Talker}
use Rattle.lines.specs.Cut.{cut_lines}
use Rattle.lines.specs.Edit.{OneByte}
use Rattle.lines.specs.Reader.{stop, read_lines}
use Rattle.lines.specs.Caught.{NotRefused, Caught}
use Rattle.lines.proofs.Point3 as Point3
use Rattle.kind_gsv.specs.declared.Entry.{Entry}
use Rattle.sentence.proofs.Order as Order
use Rattle.sky.specs.Group.{Answer, whole, refused, Seen, ruled, rule, ended, group_of}

pub line_first : (q : Option Seen) (k : ℕ) (l : List ℕ) → (line_refusal l ≡ 0 → ⊥) → rule q k l ≡ stop (line_refusal l) 0
unfolding rule
line_first q k l h = ap (ruled q k) (Order.refused l h)

abbrev is_whole : Answer → Bool
is_whole (whole t es) = true
is_whole (refused n k f) = false

not-refused : (a : Answer) (t : Talker) (es : List Entry) → a ≡ whole t es → NotRefused refused a
not-refused a t es e n k f r = true≢false (sym (ap is_whole e) ∙ ap is_whole r)

-- One byte changed, dropped or added anywhere in the bytes of a whole group: it is no group, and is refused with 1 or 2 at the first line
-- that is new or no longer as it was.
pub damage-caught : {g h : List ℕ} (t : Talker) (es : List Entry) → OneByte g h → group_of g ≡ whole t es
    → Caught refused (cut_lines g) (cut_lines h) (group_of h)
unfolding group_of
damage-caught {g} {h} t es d e = Point3.point-three refused rule ended line_first none d
    (not-refused (read_lines refused rule ended none g) t es e)
