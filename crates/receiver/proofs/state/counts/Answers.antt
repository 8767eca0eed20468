-- `counts` meets its contract: the ones of each mask where the settings are in range.
use mathlib.Core.Path.{sym, ◌∙◌}
use Rattle.receiver.proofs.SettingsLaws.{counts-wrong, counts-right}
use Rattle.receiver.proofs.state.counts.Goals as goal

pub returns-then-not-are_good : goal.returns-then-not-are_good
returns-then-not-are_good c =
    counts-wrong c.args.s (sym c.are_good.ensures ∙ c.if-not-are_good.true)

pub returns : goal.returns
returns c =
    counts-right c.args.s (sym c.are_good.ensures ∙ c.if-not-are_good.false)
