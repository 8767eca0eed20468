-- The receiver's settings: any two results that a contract permits are equal. What a command and the step leave stands in Commands
-- (`one-command`).
use Prim.Native.Nat.{ℕ}
use Rattle.receiver.specs.declared.Port.{Port}
use Rattle.receiver.specs.declared.Settings.{Settings}
use Rattle.receiver.specs.Settings.{at_start, port_of, with_port, settings_good, counts_of}
use Rattle.claims.proofs.Determined.{One, one}

pub start : One at_start
start = one

pub port-of : (s : Settings) (n : ℕ) → One (port_of s n)
port-of s n = one

pub with-port : (s : Settings) (n : ℕ) (p : Port) → One (with_port s n p)
with-port s n p = one

pub are-good : (s : Settings) → One (settings_good s)
are-good s = one

pub counts : (s : Settings) → One (counts_of s)
counts s = one
