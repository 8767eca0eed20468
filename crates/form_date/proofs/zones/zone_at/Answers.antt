use mir.Syntax.{w32}
use mir.Facts.{to_z-of_z}
use Rattle.std.proofs.Common.{arith, rules}
use Rattle.std.proofs.lemmas.Bool.Decides.{nat_tests}
use Rattle.form_date.specs.Zone.{zone_at, zone_of}
use Rattle.form.specs.Got.{within_of}
use Rattle.form_date.proofs.zones.zone_at.Goals as goal

pub returns-in_default : goal.returns-in_default
unfolding zone_at within_of
returns-in_default c = grind (arith, nat_tests)

pub returns-in_default-within : goal.returns-in_default-within
unfolding zone_at within_of
returns-in_default-within c = grind (arith, nat_tests)

pub overflow_mul-v : goal.overflow_mul-v
unfolding zone_at within_of
overflow_mul-v c = grind (arith, nat_tests)

pub overflow_add-v : goal.overflow_add-v
unfolding zone_at within_of
overflow_add-v c = grind (arith, nat_tests)

pub returns-then-v-eq0 : goal.returns-then-v-eq0
unfolding zone_at within_of zone_of
returns-then-v-eq0 c = grind (arith, nat_tests)

pub held-requires : goal.held-requires
unfolding zone_at within_of
held-requires c = grind (arith, nat_tests)

pub returns : goal.returns
unfolding zone_at within_of zone_of
returns c = rw (to_z-of_z {w = w32} {z = c.held.result} (search rules), c.held.ensures) (grind (arith, nat_tests))
