-- The group. Line k must be GSV and carry number k. Line 1's total must be satellites/4 rounded up, at least 1. Later lines repeat talker,
-- total and satellite count. Line k has the smaller of 4 and (satellites minus 4(k-1)) entries. No satellite number occurs twice. Nothing
-- follows the announced last line. A line that does not read ends the group at once. The answer is the talker and the entries in order.
use Rattle.std.specs.Prelude.{◌*◌, ◌+◌, ◌-◌, ◌/◌, ℕ, [], ◌++◌, ◌∷◌, List, ◌&&◌, ◌||◌, Bool, cond, false, eqb, leb, ltb, take}
use Rattle.std.proofs.Math.Option.{none, Option, some}
use Rattle.address.specs.declared.Talker.{Talker}
use Rattle.address.specs.declared.Talker.TheVariants.{Ga, Gl, Gn, Gp, Gq}
use Rattle.digits.specs.Pick.{pick}
use Rattle.lines.specs.Reader.{next, read_lines, Step, stop}
use Rattle.kind_gsv.specs.declared.Entry.{Entry}
use Rattle.kind_gsv.specs.declared.Gsv.{Gsv}
use Rattle.sentence.specs.Sentence as S
use Rattle.sentence.specs.Sentence.{Sentence}
use Rattle.sentence.specs.Lines.{read_line}

-- A whole sky, or number, line and field of the refusal.
pub data Answer : Type 0 where
  whole : Talker → List Entry → Answer
  refused : ℕ → ℕ → ℕ → Answer

-- What the lines so far have said.
pub record Seen : Type 0 where
  pub talker : Talker
  pub lines : ℕ
  pub satellites : ℕ
  pub entries : List Entry

-- How many lines so many satellites take, and how many entries line k of them has.
unfoldable pub lines_for : ℕ → ℕ
lines_for n = cond (eqb n 0) 1 ((n + 3) / 4)

unfoldable pub entries_at : ℕ → ℕ → ℕ
entries_at n k = cond (ltb 4 (n - 4 * (k - 1))) 4 (n - 4 * (k - 1))

abbrev pub talker_no : Talker → ℕ
talker_no Gp = 0
talker_no Gl = 1
talker_no Ga = 2
talker_no Gq = 3
talker_no Gn = 4

unfoldable pub same_talker : Talker → Talker → Bool
same_talker t u = eqb (talker_no t) (talker_no u)

-- The line in its place: it carries number k, is no later than the last, and has as many entries as it must.
unfoldable pub in_place : ℕ → Gsv → Bool
in_place k v = eqb v.line k && (leb k v.lines && eqb v.count (entries_at v.satellites k))

-- Line 1 announces as many lines as its satellites take; a later line repeats what line 1 said.
unfoldable pub follows : Option Seen → ℕ → Talker → Gsv → Bool
follows none k t v = eqb v.lines (lines_for v.satellites) && in_place k v
follows (some s) k t v =
    same_talker s.talker t && (eqb s.lines v.lines && (eqb s.satellites v.satellites && in_place k v))

-- A satellite number among some entries, and twice.
unfoldable pub numbered : ℕ → List Entry → Bool
numbered n [] = false
numbered n (e ∷ es) = eqb e.number n || numbered n es

unfoldable pub repeats : List Entry → List Entry → Bool
repeats before [] = false
repeats before (e ∷ es) = numbered e.number before || repeats (before ++ (e ∷ [])) es

abbrev pub used_of : Gsv → List Entry
used_of v = take v.count v.entries

abbrev pub entries_of : Option Seen → List Entry
entries_of none = []
entries_of (some s) = s.entries

abbrev pub seen : Option Seen → Talker → Gsv → Seen
seen q t v = record { talker = t; lines = v.lines; satellites = v.satellites; entries = entries_of q ++ used_of v }

-- 6 before 7 on one line.
unfoldable pub gsv_rule : Option Seen → ℕ → Talker → Gsv → Step (Option Seen)
gsv_rule q k t v = pick (follows q k t v) (pick (repeats (entries_of q) (used_of v)) (stop 7 0) (next (some (seen q t v)))) (stop 6 0)

-- A line is read in full first: its own 1 to 5 come before 6.
abbrev pub ruled : Option Seen → ℕ → Sentence → Step (Option Seen)
ruled q k (S.Refused n f) = stop n f
ruled q k (S.Gsv t v) = gsv_rule q k t v
ruled q k (S.Gga t r) = stop 6 0
ruled q k (S.Gll t r) = stop 6 0
ruled q k (S.Gsa t r) = stop 6 0
ruled q k (S.Rmc t r) = stop 6 0
ruled q k (S.Vtg t r) = stop 6 0
ruled q k (S.Zda t r) = stop 6 0
ruled q k (S.Pr r) = stop 6 0
ruled q k (S.Tr r) = stop 6 0
ruled q k (S.Sr r) = stop 6 0
ruled q k S.Er = stop 6 0
ruled q k (S.Pa r) = stop 6 0
ruled q k (S.Ta r) = stop 6 0
ruled q k (S.Sa r) = stop 6 0
ruled q k (S.Ea r) = stop 6 0

unfoldable pub rule : Option Seen → ℕ → List ℕ → Step (Option Seen)
rule q k l = ruled q k (read_line l)

-- Where the lines end, before line k: too soon gives 6 at the next line.
unfoldable pub ended : Option Seen → ℕ → Answer
ended none k = refused 6 k 0
ended (some s) k = pick (eqb (s.lines + 1) k) (whole s.talker s.entries) (refused 6 k 0)

unfoldable pub group_of : List ℕ → Answer
group_of g = read_lines refused rule ended none g
