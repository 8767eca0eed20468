-- `read` meets its contract: a line that passes has a body, which is read; any other is refused with its number.
use Prim.Native.Nat.{◌≤◌}
use mathlib.Core.Path.{◌∙◌, ◌≡◌, ap, sym}
use native.Mathlib.Omega.{arith}
use lib.ListN.{length}
use Rattle.line.specs.declared.Passed.{Passed}
use Rattle.line.specs.Line.{line_refusal}
use Rattle.line.proofs.Form.{passes-long}
use Rattle.fields.proofs.Passing.{pass-placed}
use Rattle.line.proofs.Laws.{body-part}
use Rattle.numbers.proofs.Rows.{tells_as}
use Rattle.sentence.specs.Sentence.{Sentence}
use Rattle.sentence.specs.Lines.{read_line}
use Rattle.sentence.specs.ToHost.{handed}
use Rattle.sentence.proofs.Order.{refused, sound}
use Rattle.sentence.proofs.Telling.{refused_as}
use borrow.Author.Rules.{rules}
use Rattle.sentence.proofs.read.Goals.{Else-passed-ne0}
use Rattle.sentence.proofs.read.Goals as goal

long : (c : Else-passed-ne0) → 7 ≤ length c.args.line.now
long c =
    let number : c.pass-passed.result.no ≡ line_refusal c.args.line.now =
    ap (λ (r : Passed). r.no) c.pass-passed.ensures.value in
    let passes : line_refusal c.args.line.now ≡ 0 =
    sym (number) ∙ c.if-passed-ne0.false in
    passes-long _ (passes)

pub returns-then-passed-ne0 : goal.returns-then-passed-ne0
returns-then-passed-ne0 c =
    let number : c.pass-passed.result.no ≡ line_refusal c.args.line.now =
    ap (λ (r : Passed). r.no) c.pass-passed.ensures.value in
    let said = refused_as _ _ _ (read_line c.args.line.now) c.refuse.ensures c.if-passed-ne0.true
    (rw (number) (sym (refused c.args.line.now (rw (number) at c.if-passed-ne0.true)))) in
    record {
      value = said.0;
      numbers_after = said.1;
    }

pub overflow_sub-end : goal.overflow_sub-end
overflow_sub-end c = omega (arith, long c)

pub slice_bounds-read_body-count : goal.slice_bounds-read_body-count
slice_bounds-read_body-count c = omega (arith, long (goal.at.slice_bounds-read_body-count c).Else-passed-ne0)

pub slice_bounds-read_body-start : goal.slice_bounds-read_body-start
slice_bounds-read_body-start c = let l = long (goal.at.slice_bounds-read_body-start c).Else-passed-ne0 in search rules

pub slice_bounds-read_body-end : goal.slice_bounds-read_body-end
slice_bounds-read_body-end c = let l = long (goal.at.slice_bounds-read_body-end c).Else-passed-ne0 in search rules

pub read_body-requires : goal.read_body-requires
read_body-requires c =
    let number : c.pass-passed.result.no ≡ line_refusal c.args.line.now =
    ap (λ (r : Passed). r.no) c.pass-passed.ensures.value in
    let passes : line_refusal c.args.line.now ≡ 0 =
    sym (number) ∙ c.if-passed-ne0.false in
    rw body-part (pass-placed c.args.line.now _ _ _ (passes) (ap (λ (r : Passed). r.count) c.pass-passed.ensures.value) c.pass-passed.ensures.ends_after)

pub returns : goal.returns
returns c =
    let number : c.pass-passed.result.no ≡ line_refusal c.args.line.now =
    ap (λ (r : Passed). r.no) c.pass-passed.ensures.value in
    let passes : line_refusal c.args.line.now ≡ 0 =
    sym (number) ∙ c.if-passed-ne0.false in
    let said = tells_as c.read_body.ensures
    (rw body-part (ap (λ (x : Sentence). handed x c.args.numbers.now) (sym (sound c.args.line.now (passes))))) in
    record {
      value = said.0;
      numbers_after = said.1;
    }
