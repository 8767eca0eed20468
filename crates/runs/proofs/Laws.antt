-- The cut loses no line and adds none, and a run has one to nine lines: both by going along the lines, whatever is open.
use Prim.Native.Nat.{◌≤◌, ℕ}
use mathlib.Core.Bool.{◌||◌, Bool, false, true}
use mathlib.Core.List.{[], ◌++◌, ◌∷◌, append_assoc, append-nil, List}
use mathlib.Core.Path.{◌∙◌, ◌≡◌, ap, refl, sym}
use native.Mathlib.Omega.{arith}
use lib.Dec.{eqb, leb}
use lib.ListN.{length, length-append}
use borrow.Author.Tests.{leb-false}
use Rattle.digits.specs.Pick.{pick}
use Rattle.sentence.specs.Lines.{read_line}
use Rattle.runs.specs.declared.Says.{Says}
use Rattle.std.specs.Prelude.{None, Option, Some}
use Rattle.runs.specs.Runs.{AllSized, closed, cut_at, ends_with, grown, gsv_lines, Line, lines_of, Run, runs_from, says_of, with_gsv}

closed-lines : (held : Run) (rs : List Run) → lines_of (closed held ++ rs) ≡ held ++ lines_of rs
unfolding lines_of
closed-lines [] rs = refl
closed-lines (l ∷ ls) rs = refl

module _ (go : ℕ → Run → List Run) (rest : List Line) (ih : (n : ℕ) (held : Run) → lines_of (go n held) ≡ held ++ rest) where
  grown-lines : (last : ℕ) (run : Run) (k : ℕ) → lines_of (grown last run k go) ≡ run ++ rest
  unfolding lines_of
  grown-lines last run k = by (ends_with last run k)
    where
      by : (b : Bool) → lines_of (pick b (run ∷ go 0 []) (go last run)) ≡ run ++ rest
      by true = ap (λ (x : List Line). run ++ x) (ih 0 [])
      by false = ih last run

  cut-lines : (last : ℕ) (held : Run) (l : Line) (s : Option Says) → lines_of (cut_at last held l s go) ≡ held ++ with_gsv s l rest
  cut-lines last held l None = closed-lines held (go 0 []) ∙ ap (λ (x : List Line). held ++ x) (ih 0 [])
  cut-lines last held l (Some s) = by (eqb (length held) 0 || eqb s.number 1)
    where
      by : (b : Bool)
          → lines_of (pick b (closed held ++ grown s.last (l ∷ []) s.number go) (grown last (held ++ (l ∷ [])) s.number go))
          ≡ held ++ (l ∷ rest)
      by true = closed-lines held (grown s.last (l ∷ []) s.number go)
          ∙ ap (λ (x : List Line). held ++ x) (grown-lines s.last (l ∷ []) s.number)
      by false = grown-lines last (held ++ (l ∷ [])) s.number ∙ append_assoc held (l ∷ []) rest

-- The lines of the runs are those of the open one, then those that read as GSV.
pub lines_from : (last : ℕ) (held : Run) (ls : List Line) → lines_of (runs_from last held ls) ≡ held ++ gsv_lines ls
unfolding runs_from gsv_lines lines_of
lines_from last held [] = ap lines_of (sym (append-nil (closed held))) ∙ closed-lines held []
lines_from last held (l ∷ ls) =
    cut-lines (λ n o. runs_from n o ls) (gsv_lines ls) (λ n o. lines_from n o ls) last held l (says_of (read_line l))

-- Each run has one to nine lines.
closed-sized : (held : Run) → length held ≤ 9 → (rs : List Run) → AllSized rs → AllSized (closed held ++ rs)
closed-sized [] h rs a = a
closed-sized (l ∷ ls) h rs a = ((omega arith, h), a)

module _ (go : ℕ → Run → List Run) (ih : (n : ℕ) (held : Run) → length held ≤ 8 → AllSized (go n held)) where
  grown-sized : (last : ℕ) (run : Run) (k : ℕ) → 1 ≤ length run → length run ≤ 9 → AllSized (grown last run k go)
  grown-sized last run k i h = by (eqb k last) (leb 9 (length run)) refl
    where
      by : (a b : Bool) → leb 9 (length run) ≡ b → AllSized (pick (a || b) (run ∷ go 0 []) (go last run))
      by true b e = ((i, h), ih 0 [] (omega arith))
      by false true e = ((i, h), ih 0 [] (omega arith))
      by false false e = ih last run (omega (arith, leb-false 9 (length run) e))

  cut-sized : (last : ℕ) (held : Run) (l : Line) (s : Option Says) → length held ≤ 8 → AllSized (cut_at last held l s go)
  cut-sized last held l None h = closed-sized held (omega (arith, h)) (go 0 []) (ih 0 [] (omega arith))
  cut-sized last held l (Some s) h = by (eqb (length held) 0 || eqb s.number 1)
    where
      by : (b : Bool) → AllSized (pick b (closed held ++ grown s.last (l ∷ []) s.number go) (grown last (held ++ (l ∷ [])) s.number go))
      by true = closed-sized held (omega (arith, h)) (grown s.last (l ∷ []) s.number go)
          (grown-sized s.last (l ∷ []) s.number (omega arith) (omega arith))
      by false =
          let e = length-append held (l ∷ []) in
          grown-sized last (held ++ (l ∷ [])) s.number (omega (arith, e)) (omega (arith, e, h))

pub sized-from : (last : ℕ) (held : Run) (ls : List Line) → length held ≤ 8 → AllSized (runs_from last held ls)
unfolding runs_from
sized-from last [] [] h = tt
sized-from last (l ∷ o) [] h = ((omega arith, omega (arith, h)), tt)
sized-from last held (l ∷ ls) h = cut-sized (λ n o. runs_from n o ls) (λ n o. sized-from n o ls) last held l (says_of (read_line l)) h
