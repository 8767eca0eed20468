-- Each is the one at its place.
use Rattle.std.proofs.Common.{◌*◌, ◌+◌, rules}
use Rattle.std.proofs.lemmas.List.FromFn.{fill_by_all}
use Rattle.kind_gsv.specs.Blank.{blank_entry}
use Rattle.kind_gsv.specs.Row.{entry_layout}
use Rattle.kind_gsv.proofs.four.Goals as goal

pub returns : goal.returns
returns c =
    fill_by_all (λ k. entry_layout.at c.args.n.now (5 + 7 * k)) c.loop-i.s 4 blank_entry c.loop-i.invariant.0 (search rules)
