-- Each is the one at its place.
use Rattle.std.proofs.Common.{◌*◌, ◌+◌, rules}
use Rattle.std.proofs.lemmas.List.FromFn.{fill_by_all}
use Rattle.form.specs.Numbers.{maybe_layout}
use Rattle.form.specs.Values.{no_maybe}
use Rattle.kind_gsa.proofs.twelve_at.Goals as goal

pub returns : goal.returns
returns c =
    fill_by_all (λ k. maybe_layout.at c.args.n.now (3 + 2 * k)) c.loop-i.s 12 no_maybe c.loop-i.invariant.0 (search rules)
