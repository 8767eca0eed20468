-- The place of a 5 in a value that stands where another does, or that is never missing: a text of a value that is there completes it,
-- whether it has to stand or not.
use Prim.Native.Nat.{◌≤◌, suc, zero, ℕ}
use mathlib.Core.Bool.{◌&&◌, Bool, cond, false, not, true}
use mathlib.Core.List.{List}
use mathlib.Core.Path.{◌≡◌, refl}
use native.Mathlib.Omega.{arith}
use lib.Dec.{eqb, lit≤}
use Rattle.form.specs.Forms.{filled, needed}
use Rattle.form.specs.Row.{Form}
use Rattle.form.specs.Values.{needed_wrong}
use Rattle.form.specs.declared.Maybe.{Maybe}
use Rattle.form.specs.declared.got.Got.{Got}
use Rattle.form.proofs.Clean.{Clean}
use Rattle.form.proofs.PlaceLaws.{Agree, prefix-narrow, PrefixForm}
use Rattle.form.proofs.Values.{the_got}

-- A text that a form reads as a value that is there.
pub record Told (f : Form Got Maybe) : Type 0 where
  pub text : List ℕ
  pub clean : Clean text
  pub value : ℕ
  pub good : f.got (λ k. text) ≡ the_got true value

-- Whether it is needed: one field is named at most, and none where a value is there.
pub needed-most : (key : Bool) (w : ℕ) (there : Bool) → w ≤ 1 → cond (eqb w 0) (cond (key && not there) 1 0) w ≤ 1
needed-most key w there h = go (eqb w 0) (key && not there)
  where
    go : (s t : Bool) → cond s (cond t 1 0) w ≤ 1
    go false t = h
    go true true = lit≤ tt
    go true false = lit≤ tt

pub needed-there : (key : Bool) → ◌≡◌ {A = ℕ} (cond (key && false) 1 0) 0
needed-there true = refl
needed-there false = refl

-- Forms of one field that keep what another reads.
module _ (f : Form Got Maybe) (wide : f.width ≡ 1) (p : PrefixForm f) (plain : (g : Got) → f.wrong g ≡ g.wrong) (t : Told f) where
  first-only : (field other : ℕ → List ℕ) → other 1 ≡ field 1 → Agree field other suc f.width
  first-only field other q zero i = q
  first-only field other q (suc j) i = let z : ⊥ = omega (arith, wide) in absurd z

  pub prefix-needed : (key : Bool) → PrefixForm (needed f key)
  prefix-needed key =
      prefix-narrow (needed f key) wide (λ field other q. p.own field other (first-only field other q)) most-one t.text t.clean
      (rw t.good (needed-there key))
    where
      most-one : (field : ℕ → List ℕ) → needed_wrong key (f.got field) ≤ 1
      most-one field =
          let g = f.got field in
          needed-most key g.wrong g.there (omega (arith, p.within field, plain g, wide))

  -- One that is never missing names the same fields.
  pub prefix-filled : PrefixForm (filled f)
  prefix-filled =
      let q = prefix-needed true in
      record { own = q.own; within = q.within; stays = q.stays; completed = q.completed; fresh = q.fresh }
