-- The ways out of a command: refused, it hands back the old settings and leaves the output; with its reply written, or refused for its
-- room,
-- the writer's answer decides.
use Prim.Native.Nat.{ℕ}
use mathlib.Core.Path.{◌∙◌, ◌≡◌, ap, refl}
use mathlib.Core.List.{List}
use lib.Dec.{eqb}
use Rattle.frame.specs.declared.Written.{Written}
use Rattle.digits.specs.Pick.{pick}
use Rattle.frame.specs.Written.{refused, Writes}
use Rattle.receiver.specs.declared.Done.{Done}
use Rattle.receiver.specs.declared.Settings.{Settings}
use Rattle.receiver.specs.Command.{Does, handed_over, Outcome, refuses, replies}

pub does-refuse : (s : Settings) (o : Outcome) (out : List ℕ) (d : Done) (n k f : ℕ)
    → d ≡ record { written = refused n k f; settings = s } → o ≡ refuses n k f → Does s o out d out
does-refuse s o out d n k f e q =
    rw q (record { answers = ap (λ (x : Done). x.written) e; settings = ap (λ (x : Done). x.settings) e; leaves = refl })

pub does-reply : (s after : Settings) (fault : Written) (body out : List ℕ) (w : Written) (left : List ℕ) (d : Done)
    → Writes fault body out w left → d ≡ handed_over w s after → Does s (replies after fault body) out d left
does-reply s after fault body out w left d x e =
    record {
      answers = ap (λ (y : Done). y.written) e ∙ x.answers;
      settings = ap (λ (y : Done). y.settings) e ∙ ap (λ (y : Written). pick (eqb y.no 0) after s) x.answers;
      leaves = x.leaves;
    }
