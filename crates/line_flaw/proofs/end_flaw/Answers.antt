-- `end_flaw` meets its contract: each way out is the first part that fails, those before it having held.
use mathlib.Core.Path.{sym, ◌∙◌}
use borrow.Author.Tests.{eq-eqb, ne_eqb}
use Rattle.line_flaw.specs.Flaw.{first_failing}
use Rattle.line_flaw.proofs.end_flaw.Goals as goal

pub returns-then-t-ne10 : goal.returns-then-t-ne10
unfolding first_failing
returns-then-t-ne10 c = rw (ne_eqb _ _ c.if-t-ne10.true)

pub returns-then-t-ne13 : goal.returns-then-t-ne13
unfolding first_failing
returns-then-t-ne13 c = rw (eq-eqb _ _ c.if-t-ne10.false, ne_eqb _ _ c.if-t-ne13.true)

pub returns-then-t-ne42 : goal.returns-then-t-ne42
unfolding first_failing
returns-then-t-ne42 c =
    rw (eq-eqb _ _ c.if-t-ne10.false, eq-eqb _ _ c.if-t-ne13.false, ne_eqb _ _ c.if-t-ne42.true)

pub returns-then-not-is_hex : goal.returns-then-not-is_hex
unfolding first_failing
returns-then-not-is_hex c =
    rw (
      eq-eqb _ _ c.if-t-ne10.false,
      eq-eqb _ _ c.if-t-ne13.false,
      eq-eqb _ _ c.if-t-ne42.false,
      sym c.is_hex.ensures ∙ c.if-not-is_hex.true,
    )

pub returns-then-not-is_hex-2 : goal.returns-then-not-is_hex-2
unfolding first_failing
returns-then-not-is_hex-2 c =
    rw (
      eq-eqb _ _ c.if-t-ne10.false,
      eq-eqb _ _ c.if-t-ne13.false,
      eq-eqb _ _ c.if-t-ne42.false,
      sym c.is_hex.ensures ∙ c.if-not-is_hex.false,
      sym c.is_hex-2.ensures ∙ c.if-not-is_hex-2.true,
    )

pub returns-then-at-eq0 : goal.returns-then-at-eq0
unfolding first_failing
returns-then-at-eq0 c =
    rw (
      eq-eqb _ _ c.if-t-ne10.false,
      eq-eqb _ _ c.if-t-ne13.false,
      eq-eqb _ _ c.if-t-ne42.false,
      sym c.is_hex.ensures ∙ c.if-not-is_hex.false,
      sym c.is_hex-2.ensures ∙ c.if-not-is_hex-2.false,
      eq-eqb _ _ c.if-at-eq0.true,
    )

pub returns : goal.returns
unfolding first_failing
returns c =
    rw (
      eq-eqb _ _ c.if-t-ne10.false,
      eq-eqb _ _ c.if-t-ne13.false,
      eq-eqb _ _ c.if-t-ne42.false,
      sym c.is_hex.ensures ∙ c.if-not-is_hex.false,
      sym c.is_hex-2.ensures ∙ c.if-not-is_hex-2.false,
      ne_eqb _ _ c.if-at-eq0.false,
    )
