-- The bytes are framed in an array that has room for every line, and the line rule decides.
use Prim.Native.Nat.{ℕ}
use mathlib.Core.Path.{◌∙◌, ap, refl}
use native.Mathlib.Nat.{sub-zero}
use lib.Dec.{eqb}
use lib.ListN.{replicate}
use borrow.Author.Rules.{rules}
use Rattle.frame.specs.Written.{Writes, wrote}
use Rattle.bodies.proofs.Laws.{as-framed, framed-rule, framed-within, no-fault}
use Rattle.bodies.proofs.is_body.Goals as goal

pub slice_bounds-line_refusal-end : goal.slice_bounds-line_refusal-end
slice_bounds-line_refusal-end c =
    let framed : Writes (wrote 0) c.args.s.now (replicate 82 0) c.finish-w.result c.finish-w.new.out =
    as-framed c.args.s.now (c.fault.ensures ∙ no-fault) c.finish-w.ensures in
    let e = framed-within _ _ refl (framed) in search rules

pub returns : goal.returns
returns c =
    let framed : Writes (wrote 0) c.args.s.now (replicate 82 0) c.finish-w.result c.finish-w.new.out =
    as-framed c.args.s.now (c.fault.ensures ∙ no-fault) c.finish-w.ensures in
    ap (λ (n : ℕ). eqb n 0) c.line_refusal.ensures
    ∙ rw (sub-zero c.finish-w.result.length) (framed-rule _ _ refl
    (framed))
