-- What is told goes by whether there was room.
use mathlib.Core.Path.{◌∙◌, ap, sym}
use Rattle.digits.specs.Pick.{pick}
use Rattle.numbers.specs.Told.{gives, told}
use Rattle.numbers.proofs.tell.Goals as goal

pub returns-then-lay : goal.returns-then-lay
unfolding gives
returns-then-lay c = (
  c.bare.ensures ∙ ap (λ b. pick b (told 0 c.args.kind 0) (told 8 0 0))
      (sym c.if-lay.true ∙ c.lay.ensures.value),
  c.lay.ensures.out_after,
)

pub returns : goal.returns
unfolding gives
returns c = (
  c.refuse.ensures ∙ ap (λ b. pick b (told 0 c.args.kind 0) (told 8 0 0))
      (sym c.if-lay.false ∙ c.lay.ensures.value),
  c.lay.ensures.out_after,
)
