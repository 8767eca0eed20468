-- The lines of a whole group come out as one run. They carry the numbers from 1 to the last that each of them announces, so that the first
-- ends what was open and the last alone ends the run; and they are nine at most.
use Prim.Native.Nat.{◌+◌, ◌≤◌, ℕ}
use mathlib.Core.Bool.{◌||◌, Bool, false, true}
use mathlib.Core.List.{[], ◌++◌, ◌∷◌, append_assoc, List}
use mathlib.Core.Option.{none}
use mathlib.Core.Path.{◌∙◌, ◌≡◌, ap, refl, sym}
use native.Mathlib.Omega.{arith}
use lib.Dec.{eqb}
use lib.ListN.{length, length-append}
use borrow.Author.Tests.{eq-eqb, eqb-false, eqb-true, lt-leb, ne_eqb}
use Rattle.digits.specs.Pick.{pick}
use Rattle.lines.specs.Cut.{cut_lines}
use Rattle.lines.specs.Reader.{read_from, read_lines}
use Rattle.address.specs.declared.Talker.{Talker}
use Rattle.kind_gsv.specs.declared.Entry.{Entry}
use Rattle.sentence.specs.Lines.{read_line}
use Rattle.sky.specs.Group.{ended, group_of, lines_for, used_of, whole}
use Rattle.sky_laws.proofs.Took as T
use Rattle.sky_laws.proofs.Took.{answer_from, first-line, next-line, no_whole, seen_so}
use Rattle.sky_read.proofs.SoundLaws.{sound}
use Rattle.runs.specs.declared.Says.{Says}
use Rattle.std.specs.Prelude.{None, Option, Some}
use Rattle.runs.specs.Runs.{closed, cut_at, ends_with, grown, Line, Run, runs_from, runs_of, says_of}

-- What line k of n satellites says.
says-line : (u : Talker) (n k : ℕ) (b : List Entry) (l : Line) → T.Line u n k b l → says_of (read_line l) ≡ Some (record { number = k; last = lines_for n })
says-line u n k b l x = ap says_of x.reads ∙ rw (x.line, x.lines)

-- A line numbered 1 ends what is open; a later one goes on.
module _ (last : ℕ) (held : Run) (l : Line) (go : ℕ → Run → List Run) where
  cut-first : (s : Option Says) (n : ℕ) → s ≡ Some (record { number = 1; last = n }) → cut_at last held l s go ≡ closed held ++ grown n (l ∷ []) 1 go
  cut-first s n e = rw e (by (eqb (length held) 0))
    where
      by : (b : Bool)
          → pick (b || true) (closed held ++ grown n (l ∷ []) 1 go) (grown last (held ++ (l ∷ [])) 1 go)
          ≡ closed held ++ grown n (l ∷ []) 1 go
      by true = refl
      by false = refl

  cut_later : (s : Option Says) (k n : ℕ) → s ≡ Some (record { number = k; last = n }) → 1 ≤ length held → 2 ≤ k
      → cut_at last held l s go ≡ grown last (held ++ (l ∷ [])) k go
  cut_later s k n e h i = rw (e, ne_eqb (length held) 0 (λ z. omega (arith, z, h)), ne_eqb k 1 (λ z. omega (arith, z, i)))

module _ (last : ℕ) (run : Run) (k : ℕ) (go : ℕ → Run → List Run) where
  grown-last : k ≡ last → grown last run k go ≡ run ∷ go 0 []
  grown-last e = rw (eq-eqb k last e)

  grown-on : (k ≡ last → ⊥) → length run ≤ 8 → grown last run k go ≡ go last run
  grown-on e h = rw (ne_eqb k last e, lt-leb 9 (length run) (omega (arith, h)))

module _ (t : Talker) (es : List Entry) (after : List Line) where
  none_left : (u : Talker) (n k : ℕ) (b : List Entry) (ls : List Line) → k ≡ lines_for n + 1
      → answer_from (seen_so u n b) k ls ≡ whole t es → ls ≡ []
  none_left u n k b [] h e = refl
  none_left u n k b (l ∷ ls) h e =
      let x = next-line t es l ls u n k b e in let z : ⊥ = omega (arith, x.taken.no-later, h) in absurd z

  too-soon : (u : Talker) (n k : ℕ) (b : List Entry) → k ≤ lines_for n → answer_from (seen_so u n b) k [] ≡ whole t es → ⊥
  unfolding read_from ended
  too-soon u n k b h e = no_whole 6 k 0 t es (sym (rw (ne_eqb (lines_for n + 1) k (λ z. omega (arith, z, h)))) ∙ e)

  later : (ls : List Line) (u : Talker) (n k : ℕ) (b : List Entry) (held : Run) → lines_for n ≤ 9 → 2 ≤ k → k ≤ lines_for n
      → length held + 1 ≡ k → answer_from (seen_so u n b) k ls ≡ whole t es
      → runs_from (lines_for n) held (ls ++ after) ≡ (held ++ ls) ∷ runs_of after
  unfolding runs_from
  later [] u n k b held nine two h c e = absurd (too-soon u n k b h e)
  later (l ∷ ls) u n k b held nine two h c e =
      let x = next-line t es l ls u n k b e in
      cut_later (lines_for n) held l go (says_of (read_line l)) k (lines_for n) (says-line u n k b l x.taken) (omega (arith, c, two)) two
      ∙ by (eqb k (lines_for n)) refl x (λ i. later ls u n (k + 1) (b ++ used_of x.taken.gsv) new nine (omega (arith, two))
      (omega (arith, i)) (omega (arith, long)) x.rest)
    where
      go : ℕ → Run → List Run
      go m o = runs_from m o (ls ++ after)

      new : Run
      new = held ++ (l ∷ [])

      long : length new ≡ k
      long = length-append held (l ∷ []) ∙ c

      by : (q : Bool) → eqb k (lines_for n) ≡ q → T.Next t es u n k b l ls
          → (k + 1 ≤ lines_for n → go (lines_for n) new ≡ (new ++ ls) ∷ runs_of after)
          → grown (lines_for n) new k go ≡ (held ++ (l ∷ ls)) ∷ runs_of after
      by true q x on =
          let last = eqb-true k (lines_for n) q in
          let no_more = none_left u n (k + 1) (b ++ used_of x.taken.gsv) ls (ap (λ (m : ℕ). m + 1) last) x.rest in
          grown-last (lines_for n) new k go last
          ∙ ap (λ (m : List Line). new ∷ runs_of (m ++ after)) no_more
          ∙ ap (λ (m : List Line). (held ++ (l ∷ m)) ∷ runs_of after) (sym no_more)
      by false q x on =
          let i = eqb-false k (lines_for n) q in
          grown-on (lines_for n) new k go i (omega (arith, long, i, h, nine))
          ∙ on (omega (arith, i, h))
          ∙ ap (λ (r : Run). r ∷ runs_of after) (append_assoc held (l ∷ []) ls)

  no_lines : answer_from none 1 [] ≡ whole t es → ⊥
  unfolding read_from ended
  no_lines e = no_whole 6 1 0 t es e

  -- From line 1 on, whatever is open.
  first : (last : ℕ) (held : Run) (ls : List Line) → answer_from none 1 ls ≡ whole t es
      → runs_from last held (ls ++ after) ≡ closed held ++ (ls ∷ runs_of after)
  unfolding runs_from
  first last held [] e = absurd (no_lines e)
  first last held (l ∷ ls) e =
      let y = first-line t es l ls e in
      let u = y.0 in let n = y.1 in let x = y.2 in
      cut-first last held l go (says_of (read_line l)) (lines_for n) (says-line u n 1 [] l x.taken)
      ∙ ap (λ (r : List Run). closed held ++ r) (by u n (eqb 1 (lines_for n)) refl x)
    where
      go : ℕ → Run → List Run
      go m o = runs_from m o (ls ++ after)

      by : (u : Talker) (n : ℕ) (q : Bool) → eqb 1 (lines_for n) ≡ q → T.Next t es u n 1 [] l ls
          → grown (lines_for n) (l ∷ []) 1 go ≡ (l ∷ ls) ∷ runs_of after
      by u n true q x =
          let last = eqb-true 1 (lines_for n) q in
          let no_more = none_left u n 2 _ ls (ap (λ (m : ℕ). m + 1) last) x.rest in
          grown-last (lines_for n) (l ∷ []) 1 go last
          ∙ ap (λ (m : List Line). (l ∷ []) ∷ runs_of (m ++ after)) no_more
          ∙ ap (λ (m : List Line). (l ∷ m) ∷ runs_of after) (sym no_more)
      by u n false q x =
          let i = eqb-false 1 (lines_for n) q in
          let h = x.taken.no-later in
          let nine = (sound l u x.taken.gsv x.taken.reads).lines-nine in
          grown-on (lines_for n) (l ∷ []) 1 go i (omega arith)
          ∙ later ls u n 2 _ (l ∷ []) (omega (arith, nine, x.taken.lines)) (omega arith) (omega (arith, i, h)) refl x.rest

-- What follows a cut that closes all that is open follows it whatever stands before.
module _ (go on : ℕ → Run → List Run) (rest : List Run) (ih : (n : ℕ) (o : Run) → go n o ≡ on n o ++ rest) where
  grown-then : (last : ℕ) (run : Run) (k : ℕ) → grown last run k go ≡ grown last run k on ++ rest
  grown-then last run k = by (ends_with last run k)
    where
      by : (b : Bool) → pick b (run ∷ go 0 []) (go last run) ≡ pick b (run ∷ on 0 []) (on last run) ++ rest
      by true = ap (λ (r : List Run). run ∷ r) (ih 0 [])
      by false = ih last run

  cut-then : (last : ℕ) (held : Run) (l : Line) (s : Option Says) → cut_at last held l s go ≡ cut_at last held l s on ++ rest
  cut-then last held l None = ap (λ (r : List Run). closed held ++ r) (ih 0 []) ∙ sym (append_assoc (closed held) (on 0 []) rest)
  cut-then last held l (Some s) = by (eqb (length held) 0 || eqb s.number 1)
    where
      by : (b : Bool)
          → pick b (closed held ++ grown s.last (l ∷ []) s.number go) (grown last (held ++ (l ∷ [])) s.number go)
          ≡ pick b (closed held ++ grown s.last (l ∷ []) s.number on) (grown last (held ++ (l ∷ [])) s.number on) ++ rest
      by true = ap (λ (r : List Run). closed held ++ r) (grown-then s.last (l ∷ []) s.number)
          ∙ sym (append_assoc (closed held) (grown s.last (l ∷ []) s.number on) rest)
      by false = grown-then last (held ++ (l ∷ [])) s.number

before : (ls ms : List Line) (rest : List Run) → ((last : ℕ) (held : Run) → runs_from last held ms ≡ closed held ++ rest)
    → (last : ℕ) (held : Run) → runs_from last held (ls ++ ms) ≡ runs_from last held ls ++ rest
unfolding runs_from
before [] ms rest h last held = h last held
before (l ∷ ls) ms rest h last held =
    cut-then (λ n o. runs_from n o (ls ++ ms)) (λ n o. runs_from n o ls) rest (before ls ms rest h) last held l (says_of (read_line l))

-- The lines of a whole group that stand one after another are one run, whatever stands before and after.
pub whole_run : (g : List ℕ) (t : Talker) (es : List Entry) → group_of g ≡ whole t es → (ls ms : List Line)
    → runs_of (ls ++ (cut_lines g ++ ms)) ≡ runs_of ls ++ (cut_lines g ∷ runs_of ms)
unfolding group_of read_lines
whole_run g t es e ls ms =
    before ls (cut_lines g ++ ms) (cut_lines g ∷ runs_of ms) (λ last held. first t es ms last held (cut_lines g) e) 0 []
