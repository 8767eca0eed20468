-- Room for so many numbers, as the answer says it.
use Prim.Native.Nat.{ℕ}
use mathlib.Core.Path.{◌≡◌, sym, ap}
use mathlib.Core.Bool.{Bool, true, false, cond}
use lib.Dec.{leb, ltb}
use borrow.Author.Tests.{leb-true, leb-false, le-ltb, lt-ltb}

pub room : (n k : ℕ) → leb k n ≡ true → ◌≡◌ {A = ℕ} 0 (cond (ltb n k) 8 0)
room n k e = sym (ap (λ (b : Bool). cond b 8 0) (le-ltb n k (leb-true k n e)))

pub no_room : (n k : ℕ) → leb k n ≡ false → ◌≡◌ {A = ℕ} 8 (cond (ltb n k) 8 0)
no_room n k e = sym (ap (λ (b : Bool). cond b 8 0) (lt-ltb n k (leb-false k n e)))
