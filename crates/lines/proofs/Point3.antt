-- Any reader that takes lines in order and refuses a line that fails the line rule with that number at field 0: what it accepts, with one
-- byte
-- changed, dropped or added, is refused with 1 or 2 at the first line that is new or no longer as it was.
use Prim.Native.Nat.{ℕ, suc, ◌+◌, ◌-◌}
use mathlib.Core.Path.{◌≡◌, refl, sym, ◌∙◌, ap}
use mathlib.Core.List.{List, [], ◌∷◌}
use mathlib.Core.Bool.{Bool, true, false}
use mathlib.Core.Logic.{⊎_elim}
use native.Mathlib.Omega.{arith}
use lib.ListN.{get_or}
use lib.Dec.{eqb}
use borrow.Author.Tests.{eqb-true, eqb-false}
use Rattle.line.specs.Line.{line_refusal}
use Rattle.lines.specs.Cut.{cut_lines}
use Rattle.lines.specs.Edit.{OneByte}
use Rattle.lines.specs.Caught.{NotRefused, Caught}
use Rattle.lines.specs.Reader.{Step, next, stop, onward, read_from, read_lines}
use Rattle.line.proofs.Form.{line-answer}
use Rattle.lines.proofs.Machine.{Lines}
use Rattle.lines.proofs.FirstNew.{Fault, past, here, later, edit-found, fault-fails, fault-first}

-- what a reader has to meet: `read` at a state, before line k, with these lines left
pub record InOrder {S A : Type 0} (refused : ℕ → ℕ → ℕ → A) (read : S → ℕ → List (List ℕ) → A) : Type 0 where
  pub fails : (q : S) (k : ℕ) (l : List ℕ) (ls : List (List ℕ)) → (line_refusal l ≡ 0 → ⊥) → read q k (l ∷ ls) ≡ refused (line_refusal l) k 0
  pub goes : (q : S) (k : ℕ) (l : List ℕ) (ls : List (List ℕ)) → NotRefused refused (read q k (l ∷ ls))
      → (r : S) × ((ms : List (List ℕ)) → read q k (l ∷ ms) ≡ read r (k + 1) ms)

none : (k : ℕ) → k + 0 ≡ k
none k = omega arith

one : (j : ℕ) → 1 + j ≡ j + 1
one j = omega arith

one_less : (j : ℕ) → j + 1 - 1 ≡ j
one_less j = omega arith

shift : (k j : ℕ) → k + 1 + j ≡ k + suc j
shift k j = omega arith

module _ {S A : Type 0} (refused : ℕ → ℕ → ℕ → A) (read : S → ℕ → List (List ℕ) → A) (o : InOrder refused read) where
  passes : (q : S) (k : ℕ) (l : List ℕ) (ls : List (List ℕ)) → NotRefused refused (read q k (l ∷ ls)) → line_refusal l ≡ 0
  passes q k l ls n = go (eqb (line_refusal l) 0) refl
    where
      go : (t : Bool) → eqb (line_refusal l) 0 ≡ t → line_refusal l ≡ 0
      go true e = eqb-true (line_refusal l) 0 e
      go false e = absurd (n (line_refusal l) k 0 (o.fails q k l ls (eqb-false (line_refusal l) 0 e)))

  onto : (q : S) (k : ℕ) (l : List ℕ) (ls : List (List ℕ)) (n : NotRefused refused (read q k (l ∷ ls)))
      → NotRefused refused (read (o.goes q k l ls n).0 (k + 1) ls)
  onto q k l ls n a b c e = n a b c ((o.goes q k l ls n).1 ls ∙ e)

  -- what is accepted are lines that pass
  pub read-lines : (q : S) (k : ℕ) (ls : List (List ℕ)) → NotRefused refused (read q k ls) → Lines ls
  read-lines q k [] n = tt
  read-lines q k (l ∷ ls) n = (passes q k l ls n, read-lines (o.goes q k l ls n).0 (k + 1) ls (onto q k l ls n))

  -- up to the first new line the reader goes as it went
  read-fault : {old new : List (List ℕ)} {j : ℕ} → Fault old new j → (q : S) (k : ℕ) → NotRefused refused (read q k old)
      → read q k new ≡ refused (line_refusal (get_or new j [])) (k + j) 0
  read-fault (past m ms f) q k n = o.fails q k m ms f ∙ rw (none k)
  read-fault (here l m ls ms d f) q k n = o.fails q k m ms f ∙ rw (none k)
  read-fault (later l ls ms j f) q k n =
      (o.goes q k l ls n).1 ms ∙ read-fault f (o.goes q k l ls n).0 (k + 1) (onto q k l ls n) ∙ rw (shift k j)

  pub one-byte-caught : (q : S) {g h : List ℕ} → OneByte g h → NotRefused refused (read q 1 (cut_lines g))
      → Caught refused (cut_lines g) (cut_lines h) (read q 1 (cut_lines h))
  one-byte-caught q {g} {h} d n =
      let f = edit-found d (read-lines q 1 (cut_lines g) n) in
      let p = fault-first f.1 in
      let l = ap (λ (j : ℕ). line_refusal (get_or (cut_lines h) j [])) (sym (one_less f.0)) in
      record {
        line = f.0 + 1;
        first = p.1;
        counted = p.0;
        no = line_refusal (get_or (cut_lines h) f.0 []);
        of-rule = l;
        one-or-two = ⊎_elim (λ z. absurd (fault-fails f.1 z)) (λ z. z) (line-answer (get_or (cut_lines h) f.0 []));
        answers = read-fault f.1 q 1 n ∙ rw (one f.0);
      }

-- the reader of `specs/Reader`: all that is asked of its rule is that a line that fails the line rule is refused with that number, field 0
module _ {S A : Type 0} (refused : ℕ → ℕ → ℕ → A) (rule : S → ℕ → List ℕ → Step S) (finish : S → ℕ → A)
    (first : (q : S) (k : ℕ) (l : List ℕ) → (line_refusal l ≡ 0 → ⊥) → rule q k l ≡ stop (line_refusal l) 0) where
  reads_on : (q : S) (k : ℕ) (l : List ℕ) (ms : List (List ℕ)) (t : Step S) → rule q k l ≡ t
      → read_from refused rule finish q k (l ∷ ms) ≡ onward refused t k (λ (r : S). read_from refused rule finish r (k + 1) ms)
  unfolding read_from
  reads_on q k l ms t e = ap (λ (s : Step S). onward refused s k (λ (r : S). read_from refused rule finish r (k + 1) ms)) e

  pub in_order : InOrder refused (read_from refused rule finish)
  in_order =
      record {
        fails = λ q k l ls n. reads_on q k l ls (stop (line_refusal l) 0) (first q k l n);
        goes = λ q k l ls n. go q k l ls n (rule q k l) refl;
      }
    where
      go : (q : S) (k : ℕ) (l : List ℕ) (ls : List (List ℕ)) → NotRefused refused (read_from refused rule finish q k (l ∷ ls))
          → (t : Step S) → rule q k l ≡ t
          → (r : S) × ((ms : List (List ℕ)) → read_from refused rule finish q k (l ∷ ms) ≡ read_from refused rule finish r (k + 1) ms)
      go q k l ls n (next r) e = (r, λ ms. reads_on q k l ms (next r) e)
      go q k l ls n (stop a f) e = absurd (n a k f (reads_on q k l ls (stop a f) e))

  pub point-three : (q : S) {g h : List ℕ} → OneByte g h → NotRefused refused (read_lines refused rule finish q g)
      → Caught refused (cut_lines g) (cut_lines h) (read_lines refused rule finish q h)
  unfolding read_lines
  point-three q d n = one-byte-caught refused (read_from refused rule finish) in_order q d n
