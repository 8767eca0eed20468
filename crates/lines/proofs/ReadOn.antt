-- The reader of lines as a loop meets it: `at` a place of the bytes, e where the line there ends.
use Prim.Native.Nat.{ℕ, ◌+◌, ◌-◌, ◌≤◌, ◌<◌}
use mathlib.Core.Path.{◌≡◌, sym, ◌∙◌, ap}
use mathlib.Core.List.{List, []}
use native.Mathlib.Omega.{arith}
use lib.ListN.{length, take, drop, drop_of_length-le}
use Rattle.lines.specs.Cut.{cut_rest}
use Rattle.lines.specs.Reader.{Step, next, stop, onward, read_from, read_lines}
use Rattle.lines.specs.Cut.{line_width}
use Rattle.lines.proofs.CutLaws.{line_at, cut_at, cut-start, cut-none}

module _ {S A : Type 0} (refused : ℕ → ℕ → ℕ → A) (rule : S → ℕ → List ℕ → Step S) (finish : S → ℕ → A) (s : List ℕ) where
  module _ (q : S) (a k e : ℕ) (h : a < length s) (p : e ≡ a + line_width (drop a s)) (t : Step S)
      (i : t ≡ rule q k (take (e - a) (drop a s))) where
    onto : read_from refused rule finish q k (cut_rest (drop a s)) ≡ onward refused t k
        (λ (r : S). read_from refused rule finish r (k + 1) (cut_rest (drop e s)))
    unfolding read_from
    onto =
        let d : e - a ≡ line_width (drop a s) = omega arith in
        let j : rule q k (line_at s a) ≡ t = sym (i ∙ ap (λ (w : ℕ). rule q k (take w (drop a s))) d) in
        ap (read_from refused rule finish q k) (cut_at s a h)
        ∙ ap (λ (y : Step S). onward refused y k
        (λ (r : S). read_from refused rule finish r (k + 1) (cut_rest (drop (a + line_width (drop a s)) s)))) j
        ∙ ap (λ (w : ℕ). onward refused t k (λ (r : S). read_from refused rule finish r (k + 1) (cut_rest (drop w s)))) (sym p)

    pub read_next : (r : S) → t ≡ next r → read_from refused rule finish q k (cut_rest (drop a s)) ≡ read_from refused rule finish r (k + 1)
        (cut_rest (drop e s))
    read_next r j = onto ∙ ap (λ (y : Step S). onward refused y k
        (λ (r : S). read_from refused rule finish r (k + 1) (cut_rest (drop e s)))) j

    pub read-stop : (n f : ℕ) → t ≡ stop n f → read_from refused rule finish q k (cut_rest (drop a s)) ≡ refused n k f
    read-stop n f j = onto ∙ ap (λ (y : Step S). onward refused y k
        (λ (r : S). read_from refused rule finish r (k + 1) (cut_rest (drop e s)))) j

  pub read-end : (q : S) (a k : ℕ) → length s ≤ a → read_from refused rule finish q k (cut_rest (drop a s)) ≡ finish q k
  unfolding read_from cut_rest
  read-end q a k h = rw (drop_of_length-le s h)

module _ {S A : Type 0} (refused : ℕ → ℕ → ℕ → A) (rule : S → ℕ → List ℕ → Step S) (finish : S → ℕ → A) (s : List ℕ) (q : S) where
  pub read-start : 0 < length s → read_lines refused rule finish q s ≡ read_from refused rule finish q 1 (cut_rest (drop 0 s))
  unfolding read_lines
  read-start h = ap (read_from refused rule finish q 1) (cut-start s h)

  -- no bytes are one empty line
  pub read_none : length s ≡ 0 → (n f : ℕ) → rule q 1 [] ≡ stop n f → read_lines refused rule finish q s ≡ refused n 1 f
  unfolding read_lines read_from
  read_none h n f i = ap (read_from refused rule finish q 1) (cut-none s h)
      ∙ ap (λ (y : Step S). onward refused y 1 (λ (r : S). read_from refused rule finish r 2 [])) i
