-- By the letter of the form.
use mir.Syntax.{w32}
use mir.Facts.{to_z-of_z}
use native.Mathlib.Omega.{arith}
use borrow.Author.Rules.{rules}
use borrow.Author.Tests.{ne_eqb}
use Rattle.put.proofs.Chain.{nothing_put}
use Rattle.phrases.specs.Phrases.{signed_text}
use Rattle.phrases.proofs.put_signed.Goals as goal

pub returns-in-104 : goal.returns-in-104
unfolding signed_text
returns-in-104 c = rw c.in-104.is (rw (to_z-of_z {w = w32} {z = c.args.z} (search rules)) at c.put_height.ensures)

pub returns-in-118 : goal.returns-in-118
unfolding signed_text
returns-in-118 c = rw c.in-118.is (rw (to_z-of_z {w = w32} {z = c.args.z} (search rules)) at c.put_variation.ensures)

pub returns-in-122 : goal.returns-in-122
unfolding signed_text
returns-in-122 c = rw c.in-122.is (rw (to_z-of_z {w = w32} {z = c.args.z} (search rules)) at c.put_zone.ensures)

pub returns-in_default : goal.returns-in_default
unfolding signed_text
returns-in_default c =
    rw (ne_eqb c.args.f 104 (λ e. omega arith), ne_eqb c.args.f 118 (λ e. omega arith), ne_eqb c.args.f 122 (λ e. omega arith)) (nothing_put _)
