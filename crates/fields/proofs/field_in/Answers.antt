-- `field_in` meets its contract: each way out is one of the definition's own, by the law of that name.
use Prim.Native.Nat.{ℕ, ◌+◌}
use mathlib.Core.Path.{◌≡◌, ap}
use borrow.Author.Rules.{rules}
use Rattle.fields.proofs.Placing.{no_place, past-body, first_part, not-past, later-part}
use Rattle.fields.proofs.field_in.Goals.{then-p-k-via-then-p-k, then-p-k-via-else-p-k+then-s-p}
use Rattle.fields.proofs.field_in.Goals as goal

-- the same distance from one place
moved : (a b n : ℕ) → a ≡ b → a + n ≡ b + n
moved a b n e = ap (λ (k : ℕ). k + n) e

pub returns-then-p-k : goal.returns-then-p-k
returns-then-p-k c = elim c.then-p-k.branch [
  | then-p-k-via-then-p-k w ↦
      let r = no_place c.args.p.now c.args.k c.args.s.now w.if-p-k.true in
      record { block = search rules; place = moved 0 _ _ r.0; holds = r.1 }
  | then-p-k-via-else-p-k+then-s-p w ↦
      let r = past-body c.args.p.now c.args.k c.args.s.now w.if-p-k.false w.if-s-p.true in
      record { block = search rules; place = moved 0 _ _ r.0; holds = r.1 }
]

pub returns-then-k-eq0 : goal.returns-then-k-eq0
returns-then-k-eq0 c =
    let r = first_part c.args.p.now c.args.k c.args.s.now c.if-p-k.false c.if-s-p.false
    c.if-k-eq0.true in
    record { block = search rules; place = moved 0 _ _ r.0; holds = r.1 }

pub returns-then-e-b : goal.returns-then-e-b
returns-then-e-b c =
    let r = not-past c.args.p.now c.args.k c.args.s.now c.if-p-k.false
    c.if-s-p.false c.if-k-eq0.false c.if-e-b.true in
    record { block = search rules; place = moved 0 _ _ r.0; holds = r.1 }

pub returns : goal.returns
returns c =
    let r = later-part c.args.p.now c.args.k c.args.s.now c.if-p-k.false
    c.if-s-p.false c.if-k-eq0.false c.if-e-b.false in
    record { block = search rules; place = moved _ _ _ r.0; holds = r.1 }
