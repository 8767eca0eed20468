-- A group has to be read to its last line. Its lines up to one before the last are no group: each is taken as before, and where they end
-- the announced last line is still to come. And the first line alone does not say what the group is: two groups of five satellites differ
-- only in the fifth, which stands on line 2.
use Prim.Native.Nat.{◌+◌, ◌<◌, ◌≤◌, ℕ}
use mathlib.Core.Bool.{false}
use mathlib.Core.List.{[], ◌++◌, ◌∷◌, List}
use mathlib.Core.Option.{none, Option, some}
use mathlib.Core.Path.{◌∙◌, ◌≡◌, ap, refl, sym}
use native.Mathlib.Omega.{arith}
use lib.Dec.{eqb, lit≤}
use lib.ListN.{get_or, length}
use borrow.Author.Tests.{eqb-true, ne_eqb}
use Rattle.digits.proofs.Bools.{and_left, and_right}
use Rattle.line.specs.Line.{as_line}
use Rattle.lines.specs.Cut.{cut_lines, joined}
use Rattle.lines.specs.New.{line_of}
use Rattle.lines.specs.Reader.{read_from, read_lines}
use Rattle.lines.proofs.CutBack.{cut-back, Endings, passes-ending}
use Rattle.address.specs.declared.Talker.{Talker}
use Rattle.address.specs.declared.Talker.TheVariants.{Gp}
use Rattle.kind_gsv.specs.Blank.{blank_entry}
use Rattle.kind_gsv.specs.declared.Entry.{Entry}
use Rattle.kind_gsv.specs.declared.Gsv.{Gsv}
use Rattle.kind_gsv.specs.Writing.{gsv_body}
use Rattle.sky.specs.Group.{Answer, ended, follows, group_of, lines_for, numbered, refused, repeats, same_talker, Seen, seen, whole}
use Rattle.sky.specs.Sky.{table_of}
use Rattle.sky.specs.Table.{group_text, line_at}
use Rattle.sky_laws.proofs.Exactly.{plain, plain-good, plains, plains-in-range}
use Rattle.sky_laws.proofs.InRange.{good-append, InRange}
use Rattle.sky_laws.proofs.ReadWrite.{gsv-passes, lines_cut, list_back}
use Rattle.sky_laws.proofs.Took.{answer_from, place-to, read-on, Took, took, took-next}

module _ (t : Talker) (es : List Entry) where
  -- Where a line is still taken, the lines may not end.
  too-soon : (q : Option Seen) (k : ℕ) (l : List ℕ) (ms : List (List ℕ)) → Took t es q k l ms → ended q k ≡ refused 6 k 0
  unfolding ended follows
  too-soon none k l ms x = refl
  too-soon (some s) k l ms x =
      let v : Gsv = x.gsv in
      let g = and_right (same_talker s.talker x.talker) _ x.right in
      let n = eqb-true s.lines v.lines (and_left _ _ g) in
      let h = place-to k v (and_right (eqb s.satellites v.satellites) _ (and_right (eqb s.lines v.lines) _ g)) in
      rw (ne_eqb (s.lines + 1) k (λ e. omega (arith, e, h, n)))

  half : (ls : List (List ℕ)) (l : List ℕ) (ms : List (List ℕ)) (q : Option Seen) (k : ℕ)
      → answer_from q k (ls ++ (l ∷ ms)) ≡ whole t es → answer_from q k ls ≡ refused 6 (k + length ls) 0
  unfolding read_from
  half [] l ms q k e = too-soon q k l ms (took t es q k l ms e) ∙ ap (λ (n : ℕ). refused 6 n 0) (omega arith)
  half (a ∷ ls) l ms q k e =
      let x = took t es q k a (ls ++ (l ∷ ms)) e in
      let s : Seen = seen q x.talker x.gsv in
      read-on q k a ls s (took-next t es q k a (ls ++ (l ∷ ms)) x) ∙ half ls l ms (some s) (k + 1) x.rest
      ∙ ap (λ (n : ℕ). refused 6 n 0) (omega arith)

  -- Each line of a whole group ends with its only LF, and so do the first of them.
  all_end : (ls ms : List (List ℕ)) (q : Option Seen) (k : ℕ) → answer_from q k (ls ++ ms) ≡ whole t es → Endings ls
  all_end [] ms q k e = tt
  all_end (l ∷ ls) ms q k e =
      let x = took t es q k l (ls ++ ms) e in
      (passes-ending l (gsv-passes l x.talker x.gsv x.reads), all_end ls ms (some (seen q x.talker x.gsv)) (k + 1) x.rest)

-- Of a whole group, the lines up to any before the last are refused with 6 at the next line.
pub half-refused : (g : List ℕ) (t : Talker) (es : List Entry) (ls : List (List ℕ)) (l : List ℕ) (ms : List (List ℕ))
    → group_of g ≡ whole t es → cut_lines g ≡ ls ++ (l ∷ ms) → 0 < length ls → group_of (joined ls) ≡ refused 6 (length ls + 1) 0
unfolding group_of read_lines
half-refused g t es [] l ms e c h = let z : ⊥ = omega arith in absurd z
half-refused g t es (a ∷ ls) l ms e c h =
    let f : answer_from none 1 ((a ∷ ls) ++ (l ∷ ms)) ≡ whole t es = ap (answer_from none 1) (sym c) ∙ e in
    ap (answer_from none 1) (cut-back a ls (all_end t es (a ∷ ls) (l ∷ ms) none 1 f))
    ∙ half t es (a ∷ ls) l ms none 1 f
    ∙ ap (λ (n : ℕ). refused 6 n 0) (omega arith)

-- Satellites 1 to 4 and one more.
abbrev five : ℕ → List Entry
five k = plains 1 4 ++ (plain k ∷ [])

abbrev group_five : ℕ → List ℕ
group_five k = group_text Gp (table_of (five k))

five-in-range : (k : ℕ) → 1 ≤ k → k ≤ 99 → repeats [] (five k) ≡ false → InRange (five k)
five-in-range k a b o =
    record {
      few = lit≤ tt;
      each = good-append (plains 1 4) (plain k ∷ []) (plains-in-range 4 (lit≤ tt)).each (plain-good k a b, tt);
      once = o;
    }

in-five : InRange (five 5)
unfolding repeats numbered
in-five = five-in-range 5 (lit≤ tt) (lit≤ tt) refl

in-six : InRange (five 6)
unfolding repeats numbered
in-six = five-in-range 6 (lit≤ tt) (lit≤ tt) refl

-- Whichever the fifth is, line 1 is the same.
first-line : (k : ℕ) → InRange (five k) → line_of (cut_lines (group_five k)) 1 ≡ as_line (gsv_body Gp (line_at (table_of (five 5)) 1))
unfolding line_at lines_for
first-line k s = ap (λ (ls : List (List ℕ)). line_of ls 1) (lines_cut Gp (five k) s)

abbrev fifth : Answer → ℕ
fifth (whole t es) = (get_or es 4 blank_entry).number
fifth (refused n k f) = 0

-- No answer from the first line alone is the group's.
pub not-line-one : (P : List ℕ → Answer) → ((g : List ℕ) → group_of g ≡ P (line_of (cut_lines g) 1)) → ⊥
not-line-one P h =
    let a : group_of (group_five 5) ≡ group_of (group_five 6) = h (group_five 5) ∙ ap P (first-line 5 in-five ∙ sym (first-line 6 in-six))
    ∙ sym (h (group_five 6)) in
    let b : ◌≡◌ {A = ℕ} 5 6 = ap fifth (sym (list_back Gp (five 5) in-five) ∙ a ∙ list_back Gp (five 6) in-six) in
    omega (arith, b)
