-- Lines cut into runs, in the words of request 7 of document 02: consecutive lines that read as GSV form a run, which ends with the number
-- that its first line announced as last or its ninth line, or before a line that does not read as GSV, a line numbered 1 or the end of
-- input. The lines are those that the finder finds, in order.
use Rattle.std.specs.Prelude.{◌≤◌, ℕ, ◌||◌, Bool, [], ◌++◌, ◌∷◌, List, eqb, leb, length, None, Option, Some}
use Rattle.digits.specs.Pick.{pick}
use Rattle.sentence.specs.Lines.{read_line}
use Rattle.sentence.specs.Sentence as S
use Rattle.sentence.specs.Sentence.{Sentence}
use Rattle.runs.specs.declared.Says.{Says}

abbrev pub Line : Type 0
Line = List ℕ

abbrev pub Run : Type 0
Run = List Line

-- What a line says to the cut: its number and the last that it announces, or nothing where it does not read as GSV.
abbrev pub says_of : Sentence → Option Says
says_of (S.Gsv t v) = Some (record { number = v.line; last = v.lines })
says_of (S.Gga t r) = None
says_of (S.Gll t r) = None
says_of (S.Gsa t r) = None
says_of (S.Rmc t r) = None
says_of (S.Vtg t r) = None
says_of (S.Zda t r) = None
says_of (S.Pr r) = None
says_of (S.Tr r) = None
says_of (S.Sr r) = None
says_of S.Er = None
says_of (S.Pa r) = None
says_of (S.Ta r) = None
says_of (S.Sa r) = None
says_of (S.Ea r) = None
says_of (S.Refused n f) = None

-- The open run ends, where there is one: it has lines.
abbrev pub closed : Run → List Run
closed [] = []
closed (l ∷ ls) = (l ∷ ls) ∷ []

-- A run with its newest line, numbered k, ends with the number that its first line announced as last, or with its ninth line. `go` cuts the
-- lines that follow, by what the first line of the open run announced and its lines.
abbrev pub ends_with : ℕ → Run → ℕ → Bool
ends_with last run k = eqb k last || leb 9 (length run)

abbrev pub grown : ℕ → Run → ℕ → (ℕ → Run → List Run) → List Run
grown last run k go = pick (ends_with last run k) (run ∷ go 0 []) (go last run)

-- A line that does not read as GSV, and a line numbered 1, end the open run before them; the first line of a run says which is its last.
abbrev pub cut_at : ℕ → Run → Line → Option Says → (ℕ → Run → List Run) → List Run
cut_at last held l None go = closed held ++ go 0 []
cut_at last held l (Some s) go =
    pick (eqb (length held) 0 || eqb s.number 1) (closed held ++ grown s.last (l ∷ []) s.number go)
    (grown last (held ++ (l ∷ [])) s.number go)

unfoldable pub runs_from : ℕ → Run → List Line → List Run
runs_from last held [] = closed held
runs_from last held (l ∷ ls) = cut_at last held l (says_of (read_line l)) (λ last held. runs_from last held ls)

-- At the start none is open.
abbrev pub runs_of : List Line → List Run
runs_of ls = runs_from 0 [] ls

-- The lines of some runs, and the lines that read as GSV, in order.
unfoldable pub lines_of : List Run → List Line
lines_of [] = []
lines_of (r ∷ rs) = r ++ lines_of rs

abbrev pub with_gsv : Option Says → Line → List Line → List Line
with_gsv None l ls = ls
with_gsv (Some s) l ls = l ∷ ls

unfoldable pub gsv_lines : List Line → List Line
gsv_lines [] = []
gsv_lines (l ∷ ls) = with_gsv (says_of (read_line l)) l (gsv_lines ls)

-- Runs of one to nine lines each.
abbrev pub AllSized : List Run → Type 0
AllSized [] = Unit {0}
AllSized (r ∷ rs) = ((1 ≤ length r) × (length r ≤ 9)) × AllSized rs
