-- The mark, then one, two or three numbers, by the letter.
use native.Mathlib.Omega.{arith}
use borrow.Author.Tests.{ne_eqb}
use Prim.Native.Nat.{◌≤◌}
use Rattle.words.specs.Forms.{taken_by}
use Rattle.words.proofs.FormLaws.{marks-most}
use Rattle.words.proofs.form_words.taken.Goals.{in-100, in-112, in_default}
use Rattle.words.proofs.form_words.taken.Goals as goal

pub overflow_add-result : goal.overflow_add-result
overflow_add-result c =
    let few : c.match-small.numbers ≤ 3 =
    elim c.match-small.branch [ in-100 w ↦ omega (arith, w.numbers-is) | in-112 w ↦ omega (arith, w.numbers-is) | in_default w ↦ omega (arith, w.numbers-is) ] in
    omega (arith, marks-most c.args.f, c.marks.ensures, few)

pub returns : goal.returns
unfolding taken_by
returns c =
    rw (← c.marks.ensures, ← c.small.ensures)
    (elim c.match-small.branch [
      | in-100 w ↦ rw (w.numbers-is, w.in-100.is)
      | in-112 w ↦ rw (w.numbers-is, w.in-112.is)
      | in_default w ↦ rw (w.numbers-is, ne_eqb c.small.result 100 (λ e. omega arith), ne_eqb c.small.result 112 (λ e. omega arith))
    ])
