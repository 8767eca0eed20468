-- The step, carried from line to line, cuts as the definition does: what it knows of the open run is how many lines that has and what its
-- first line announced.
use Prim.Native.Nat.{◌+◌, ℕ}
use mathlib.Core.Bool.{◌||◌, Bool, false, true}
use mathlib.Core.List.{[], ◌++◌, ◌∷◌, List}
use mathlib.Core.Path.{◌∙◌, ◌≡◌, ap, ap₂, refl, sym}
use native.Mathlib.Omega.{arith}
use lib.Dec.{eqb, leb, ltb}
use lib.ListN.{length, length-append}
use borrow.Author.Tests.{le-leb, leb-false, leb-true, lt-leb, lt-ltb, ne_eqb}
use Rattle.digits.specs.Pick.{pick}
use Rattle.sentence.specs.Lines.{read_line}
use Rattle.runs.specs.declared.Open.{Open}
use Rattle.runs.specs.declared.Says.{Says}
use Rattle.std.specs.Prelude.{None, Option, Some}
use Rattle.runs.specs.Runs.{closed, cut_at, grown, Line, Run, runs_from, runs_of, says_of}
use Rattle.runs.specs.Step.{closed_if, joined_to, none_open, open_of, run_for, runs_by, step_of, step_on, stepped}

-- A run is open where it has lines.
closed-if : (held : Run) → closed_if (ltb 0 (length held)) held ≡ closed held
closed-if [] = refl
closed-if (l ∷ ls) = rw (lt-ltb 0 (length (l ∷ ls)) (omega arith))

-- Eight lines before one are nine with it.
eight : (n : ℕ) → leb 8 n ≡ leb 9 (n + 1)
eight n = go (leb 8 n) refl
  where
    go : (b : Bool) → leb 8 n ≡ b → b ≡ leb 9 (n + 1)
    go true e = sym (le-leb 9 (n + 1) (omega (arith, leb-true 8 n e)))
    go false e = sym (lt-leb 9 (n + 1) (omega (arith, leb-false 8 n e)))

module _ (by : Open → Run → List Run) (go : ℕ → Run → List Run)
    (ih : (last : ℕ) (held : Run) → by (open_of (length held) last) held ≡ go last held) (l : Line) where
  -- A line behind those of a run, of which `before` says whether another ended.
  put_on : (before : Bool) (old held : Run) (last k : ℕ) → pick before [] old ≡ held
      → step_on (joined_to before (open_of (length held) last) k) old l by ≡ closed_if before old ++ grown last (held ++ (l ∷ [])) k go
  unfolding joined_to
  put_on before old held last k e = ends (eqb k last) (leb 8 (length held)) (leb 9 (length (held ++ (l ∷ []))))
      (eight (length held) ∙ sym (ap (leb 9) (length-append held (l ∷ []))))
    where
      new : Run
      new = held ++ (l ∷ [])

      same : pick before [] old ++ (l ∷ []) ≡ new
      same = ap (λ (h : Run). h ++ (l ∷ [])) e

      ends : (a b c : Bool) → b ≡ c
          → step_on (pick (a || b) (stepped before true true none_open) (stepped before true false (open_of (length held + 1) last))) old l by
          ≡ closed_if before old ++ pick (a || c) (new ∷ go 0 []) (go last new)
      ends a b c q = rw q (by_end (a || c))
        where
          by_end : (b : Bool)
              → step_on (pick b (stepped before true true none_open) (stepped before true false (open_of (length held + 1) last))) old l by
              ≡ closed_if before old ++ pick b (new ∷ go 0 []) (go last new)
          by_end true = rw same (ap (λ (x : List Run). closed_if before old ++ (new ∷ x)) (ih 0 []))
          by_end false = rw same (ap (λ (x : List Run). closed_if before old ++ x)
              (ap (λ (n : ℕ). by (open_of n last) new) (sym (length-append held (l ∷ []))) ∙ ih last new))

  step-on : (last : ℕ) (held : Run) (s : Option Says) → step_on (step_of (open_of (length held) last) s) held l by ≡ cut_at last held l s go
  unfolding run_for
  step-on last held None = ap₂ (λ (x y : List Run). x ++ y) (closed-if held) (ih 0 [])
  step-on last [] (Some s) = put_on false [] [] s.last s.number refl
  step-on last (h ∷ hs) (Some s) =
      rw (lt-ltb 0 (length (h ∷ hs)) (omega arith), ne_eqb (length (h ∷ hs)) 0 (λ z. omega (arith, z))) (one (eqb s.number 1))
    where
      one : (b : Bool) → step_on (joined_to b (pick b (open_of 0 s.last) (open_of (length (h ∷ hs)) last)) s.number) (h ∷ hs) l by
          ≡ pick b (closed (h ∷ hs) ++ grown s.last (l ∷ []) s.number go) (grown last ((h ∷ hs) ++ (l ∷ [])) s.number go)
      one true = put_on true (h ∷ hs) [] s.last s.number refl
      one false = put_on false (h ∷ hs) (h ∷ hs) last s.number refl

pub folded_from : (last : ℕ) (held : Run) (ls : List Line) → runs_by (open_of (length held) last) held ls ≡ runs_from last held ls
unfolding runs_by runs_from
folded_from last held [] = closed-if held
folded_from last held (l ∷ ls) =
    step-on (λ o h. runs_by o h ls) (λ n h. runs_from n h ls) (λ n h. folded_from n h ls) l last held (says_of (read_line l))

pub folded : (ls : List Line) → runs_by none_open [] ls ≡ runs_of ls
folded ls = folded_from 0 [] ls
