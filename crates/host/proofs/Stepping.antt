-- The step on numbers, by the tests of its definition in order.
use Prim.Native.Nat.{ℕ}
use mathlib.Core.Path.{◌∙◌, ◌≡◌, ap, sym}
use mathlib.Core.Bool.{Bool, false, true}
use mathlib.Core.List.{List}
use lib.IntN.{ℤ}
use lib.ListN.{length}
use borrow.Author.Tests.{eq-eqb, ne_eqb}
use Rattle.receiver.specs.declared.Done.{Done}
use Rattle.receiver.specs.declared.Settings.{Settings}
use Rattle.receiver.specs.Command.{answer_of, Does, Outcome, outcome_of, settings_after}
use Rattle.frame.specs.declared.Written.{Written}
use Rattle.digits.specs.Pick.{pick}
use Rattle.frame.specs.Written.{refused}
use Rattle.numbers.specs.Numbers.{laid}
use Rattle.receiver_numbers.specs.Numbers.{said, setting_numbers, settings_at}
use Rattle.host.specs.Command.{carried, stepped}

module _ (n : List ℤ) (arrival : ℕ) (line out : List ℕ) where
  abbrev Steps : Written → List ℤ → List ℕ → Type 0
  Steps w numbers left = (w ≡ (stepped n arrival line out).answer)
      × ((numbers ≡ (stepped n arrival line out).numbers) × (left ≡ (stepped n arrival line out).out))

  pub short : said n ≡ false → {w : Written} → w ≡ refused 5 0 0 → Steps w n out
  unfolding stepped
  short e q = (q ∙ rw e, (rw e, rw e))

  -- What the outcome comes to, laid where it is answered.
  abbrev outcome : Outcome
  outcome = outcome_of (settings_at n) arrival line

  abbrev after : List ℤ
  after = laid (setting_numbers (settings_after (settings_at n) outcome (length out))) n

  module _ (e : said n ≡ true) {d : Done} {left : List ℕ} (does : Does (settings_at n) outcome out d left) where
    goes : {numbers : List ℤ} → numbers ≡ (carried n outcome out).numbers → Steps d.written numbers left
    unfolding stepped
    goes q = (does.answers ∙ rw e, (q ∙ rw e, does.leaves ∙ rw e))

    no-is : d.written.no ≡ (answer_of outcome (length out)).no
    no-is = ap (λ (w : Written). w.no) does.answers

    pub answered : d.written.no ≡ 0 → {numbers : List ℤ} → numbers ≡ laid (setting_numbers d.settings) n
        → Steps d.written numbers left
    answered z q = goes (q
        ∙ ap (λ (s : Settings). laid (setting_numbers s) n) does.settings
        ∙ sym (ap (λ (b : Bool). pick b after n) (eq-eqb (answer_of outcome (length out)).no 0 (sym no-is ∙ z))))

    pub refuses : (d.written.no ≡ 0 → ⊥) → Steps d.written n left
    refuses z = goes (sym (ap (λ (b : Bool). pick b after n) (ne_eqb (answer_of outcome (length out)).no 0 (λ e. z (no-is ∙ e)))))
