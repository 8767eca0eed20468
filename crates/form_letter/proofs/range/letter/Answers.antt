-- `letter` meets its contract: std's `any` says whether the set of the definition holds the letter.
use mathlib.Core.Path.{◌≡◌, ◌∙◌, sym}
use mathlib.Core.Logic.{◌≢◌}
use borrow.Author.Tests.{tests}
use Rattle.std.proofs.Common.{rules}
use Rattle.std.proofs.lemmas.Iterator.{YieldsList-from_slice, cases_from_any}
use Rattle.form_letter.specs.Letters.{is_in, letter_wrong}
use Rattle.form_letter.proofs.LetterLaws.{any-in}
use Rattle.form_letter.proofs.range.letter.Goals as goal

pub returns-then-any : goal.returns-then-any
unfolding letter_wrong
returns-then-any c =
    let known : c.any.result ≡ is_in c.args.v c.args.set.now =
    any-in c.args.v c.args.set.now c.any.result
    (cases_from_any _ _ c.any.result (λ x. x ≡ c.args.v) (λ x. x ≢ c.args.v) c.any.ensures.ran
    (YieldsList-from_slice c.args.set.now cc) (λ x q k. search (rules, tests)) (λ x q k. search (rules, tests))) in
    rw (sym known ∙ c.if-any.true)

pub returns-else-any : goal.returns-else-any
unfolding letter_wrong
returns-else-any c =
    let known : c.any.result ≡ is_in c.args.v c.args.set.now =
    any-in c.args.v c.args.set.now c.any.result
    (cases_from_any _ _ c.any.result (λ x. x ≡ c.args.v) (λ x. x ≢ c.args.v) c.any.ensures.ran
    (YieldsList-from_slice c.args.set.now cc) (λ x q k. search (rules, tests)) (λ x q k. search (rules, tests))) in
    rw (sym known ∙ c.if-any.false)
