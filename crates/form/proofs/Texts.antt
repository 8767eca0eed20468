-- A field that is there is its comma and its text, one that is missing its comma alone.
use Prim.Native.Nat.{ℕ}
use mathlib.Core.Bool.{Bool, false, true}
use mathlib.Core.List.{[], ◌∷◌, List}
use mathlib.Core.Path.{◌≡◌, ap, sym}
use Rattle.put.specs.Wrote.{Held, Puts, PutsFields}
use Rattle.put.proofs.Chain.{◌⨾◌, a-field, as-text}
use Rattle.form.specs.Values.{if_there}

pub present : {h g k : Held} {t : List ℕ} (there : Bool) → there ≡ true → Puts h (44 ∷ []) g → Puts g t k
    → PutsFields h (if_there there t ∷ []) k
present {t = t} there e p q = a-field (as-text (ap (λ (x : Bool). 44 ∷ if_there x t) (sym e)) (p ⨾ q))

pub absent : {h k : Held} (t : List ℕ) (there : Bool) → there ≡ false → Puts h (44 ∷ []) k → PutsFields h (if_there there t ∷ []) k
absent t there e p = a-field (as-text (ap (λ (x : Bool). 44 ∷ if_there x t) (sym e)) p)
