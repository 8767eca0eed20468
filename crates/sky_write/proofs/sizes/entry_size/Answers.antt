-- Three values, each of at most three bytes.
use native.Mathlib.Omega.{arith}
use Rattle.sky_write.specs.Size.{entry_size}
use Rattle.sky_write.proofs.sizes.entry_size.Goals as goal

pub returns : goal.returns
unfolding entry_size
returns c = omega (arith, c.value_size-elevation.ensures, c.value_size-azimuth.ensures, c.value_size-signal.ensures)
