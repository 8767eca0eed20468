-- A part of the caller's slice, nothing copied: the same memory from `at` bytes in, and the bytes it holds.
use Rattle.std.specs.Prelude.{ℕ, ◌+◌, ◌≡◌, List}
use Rattle.std.specs.Borrow.{Bor}

pub record PartAt (s : Bor (List ℕ)) (at : ℕ) (bytes : List ℕ) (r : Bor (List ℕ)) : Type 0 where
  pub block : r.ref_ptr.0 ≡ s.ref_ptr.0
  pub place : r.ref_ptr.1 ≡ at + s.ref_ptr.1
  pub holds : r.now ≡ bytes
