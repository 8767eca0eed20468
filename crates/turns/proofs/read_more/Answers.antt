-- The bytes that came stand behind those that were kept.
use Rattle.std.proofs.Common.{◌≡◌, ℕ, ◌+◌, ◌≤◌, List, ◌++◌, length, take, drop, arith, ap, sym, ◌∙◌}
use Rattle.std.proofs.lemmas.List.{drop-take, length-take-le, take-append-le}
use Rattle.std.proofs.Math.Seq.{drop-append_seam}
use Rattle.turns.proofs.read_more.Goals as goal

-- What stands behind the front of a buffer.
behind : (kept n : ℕ) (front mid rest : List ℕ) → length front ≡ kept → n ≤ length mid
    → drop kept (take (kept + n) (front ++ (mid ++ rest))) ≡ take n mid
behind kept n front mid rest e h =
    drop-take kept n (front ++ (mid ++ rest))
    ∙ (ap (λ (k : ℕ). take n (drop k (front ++ (mid ++ rest)))) (sym e)
    ∙ (ap (λ (s : List ℕ). take n s) (drop-append_seam front (mid ++ rest)) ∙ take-append-le n mid rest h))

pub returns-in_default-clause-takes : goal.returns-in_default-clause-takes
returns-in_default-clause-takes g c =
    rw (behind c.args.kept c.in_ok-n.n (take c.args.kept c.args.buf.now) c.read.new.buf _
    (length-take-le c.args.kept c.args.buf.now (omega arith)) (omega (arith, c.in_ok-n.ensures.bound)))
    c.in_ok-n.ensures.bytes.0
