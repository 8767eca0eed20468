use native.Mathlib.Omega.{arith}
use Rattle.std.proofs.Common.{rules}
use Rattle.address.specs.declared.Talker.TheVariants.{Ga, Gl, Gn, Gp, Gq}
use Rattle.address.proofs.Tables.{talks}
use Rattle.address.proofs.talker_of.Goals as goal

pub returns-in-GP : goal.returns-in-GP
returns-in-GP c = talks _ Gp (omega arith) (search rules)

pub returns-in-GL : goal.returns-in-GL
returns-in-GL c = talks _ Gl (omega arith) (search rules)

pub returns-in-GA : goal.returns-in-GA
returns-in-GA c = talks _ Ga (omega arith) (search rules)

pub returns-in-GQ : goal.returns-in-GQ
returns-in-GQ c = talks _ Gq (omega arith) (search rules)

pub returns-in-GN : goal.returns-in-GN
returns-in-GN c = talks _ Gn (omega arith) (search rules)
