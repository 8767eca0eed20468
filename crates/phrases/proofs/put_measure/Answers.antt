-- By the letter of the form.
use mir.Syntax.{w32}
use mir.Facts.{to_z-of_z}
use native.Mathlib.Omega.{arith}
use borrow.Author.Rules.{rules}
use borrow.Author.Tests.{ne_eqb}
use Rattle.phrases.specs.Phrases.{measure_text}
use Rattle.phrases.proofs.put_measure.Goals as goal

pub returns-in-110 : goal.returns-in-110
unfolding measure_text
returns-in-110 c = rw c.in-110.is (rw (c.from.ensures, c.whole_at-u.ensures) at c.put_number.ensures)

pub returns-in-107 : goal.returns-in-107
unfolding measure_text
returns-in-107 c = rw c.in-107.is (rw c.whole_at-u.ensures at c.put_number-in-107.ensures)

pub returns-in-116 : goal.returns-in-116
unfolding measure_text
returns-in-116 c = rw c.in-116.is (rw c.whole_at-u.ensures at c.put_clock.ensures)

pub returns-in-100 : goal.returns-in-100
unfolding measure_text
returns-in-100 c =
    rw c.in-100.is (rw (c.whole_at-u.ensures, c.whole_at-month.ensures, c.whole_at-year.ensures) at c.put_date.ensures)

pub returns-in-112 : goal.returns-in-112
unfolding measure_text
returns-in-112 c =
    let lat = to_z-of_z {w = w32} {z = c.signed_at-z.result} (search rules) in
    let lon = to_z-of_z {w = w32} {z = c.signed_at.result} (search rules) in
    rw c.in-112.is (rw (lat, c.signed_at-z.ensures, lon, c.signed_at.ensures) at c.put_place.ensures)

pub returns-in_default : goal.returns-in_default
unfolding measure_text
returns-in_default c =
    let z = to_z-of_z {w = w32} {z = c.signed_at-z.result} (search rules) in
    rw (
      ne_eqb c.args.f 110 (λ e. omega arith),
      ne_eqb c.args.f 107 (λ e. omega arith),
      ne_eqb c.args.f 116 (λ e. omega arith),
      ne_eqb c.args.f 100 (λ e. omega arith),
      ne_eqb c.args.f 112 (λ e. omega arith),
    ) (rw (z, c.signed_at-z.ensures) at c.put_signed.ensures)
